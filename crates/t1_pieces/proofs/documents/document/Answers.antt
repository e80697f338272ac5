use Rattle.std.proofs.Common.{◌≡◌, ℕ, List}
use Rattle.t1_forms.specs.PageValues.{pages_value}
use Rattle.t1_pieces.proofs.Readings.{is_handed}
use Rattle.t1_pieces.proofs.documents.document.Goals as goal
use Rattle.t1_pieces.specs.Documents.{IsDocumentPieceOf, subject_of}
use Rattle.t1_pieces.specs.Reading.{Input, input_in}
use Rattle.t1_pieces.specs.declared.piece.Piece.{Piece}

pub returns-clause-piece : goal.returns-clause-piece
returns-clause-piece c =
    is_handed (λ (input : Input) (room : List ℕ) (piece : Piece).
    IsDocumentPieceOf (subject_of c.args.wanted.now.name.now (pages_value c.args.wanted.now.pages) input) c.args.reached.now
    c.document_of_file.new.reached room piece)
    (c.document_of_file.new.reached ≡ c.args.reached.now) (input_in c.args.request.now.edition c.args.request.now.font.now c.args.request.now.waivers.now)
    c.document_of_file.result c.document_of_file.new.room c.hand_over.new.room c.hand_over.result c.document_of_file.ensures.piece
    c.document_of_file.ensures.failed c.document_of_file.ensures.reached c.hand_over.ensures.handed c.hand_over.ensures.failed
