use Rattle.std.proofs.Common.{◌≡◌, ℕ, List}
use Rattle.t1_pieces.proofs.Readings.{is_handed}
use Rattle.t1_pieces.proofs.reading.lines.Goals as goal
use Rattle.t1_pieces.specs.Pieces.{IsPieceOf}
use Rattle.t1_pieces.specs.Reading.{Input, input_in}
use Rattle.t1_pieces.specs.declared.piece.Piece.{Piece}

pub returns-clause-piece : goal.returns-clause-piece
returns-clause-piece c =
    is_handed (λ (input : Input) (room : List ℕ) (piece : Piece). IsPieceOf c.args.form input c.args.mark.now c.lines_of_file.new.mark room piece)
    (c.lines_of_file.new.mark ≡ c.args.mark.now) (input_in c.args.request.now.edition c.args.request.now.font.now c.args.request.now.waivers.now)
    c.lines_of_file.result c.lines_of_file.new.room c.hand_over.new.room c.hand_over.result c.lines_of_file.ensures.piece
    c.lines_of_file.ensures.failed c.lines_of_file.ensures.mark c.hand_over.ensures.handed c.hand_over.ensures.failed
