use Rattle.std.proofs.Common.{ℕ, List}
use Rattle.std.specs.Prelude.{⊤}
use Rattle.t1_font.specs.Fonts.{FontValue}
use Rattle.t1_pieces.proofs.Readings.{is_handed, nothing_stays}
use Rattle.t1_pieces.proofs.entries.entry_numbers.Goals as goal
use Rattle.t1_pieces.specs.Entries.{AreNumbersOf}
use Rattle.t1_pieces.specs.declared.piece.Piece.{Piece}
use Rattle.t1_rules.specs.Keys.{value_at}
use Rattle.t1_run.specs.FontFiles.{font_of}

pub returns-clause-numbers : goal.returns-clause-numbers
returns-clause-numbers c =
    is_handed (λ (font : FontValue) (room : List ℕ) (piece : Piece). AreNumbersOf (value_at font c.args.key) room piece) ⊤ (font_of c.args.font.now)
    c.numbers_of_file.result c.numbers_of_file.new.room c.hand_over.new.room c.hand_over.result c.numbers_of_file.ensures.numbers
    c.numbers_of_file.ensures.failed (nothing_stays c.numbers_of_file.result) c.hand_over.ensures.handed c.hand_over.ensures.failed
