use Rattle.std.specs.Prelude.{⊤}
use Rattle.t1_pieces.proofs.Readings.{is_handed, nothing_stays}
use Rattle.t1_pieces.proofs.drawing.picture.Goals as goal
use Rattle.t1_pieces.specs.Drawings.{IsDrawn}
use Rattle.t1_pieces.specs.Reading.{input_in}

pub returns-clause-drawing : goal.returns-clause-drawing
returns-clause-drawing c =
    is_handed (IsDrawn c.args.glyph.now c.args.extent) ⊤ (input_in c.args.request.now.edition c.args.request.now.font.now c.args.request.now.waivers.now)
    c.drawn_of_file.result c.drawn_of_file.new.room c.hand_over.new.room c.hand_over.result c.drawn_of_file.ensures.drawn
    c.drawn_of_file.ensures.failed (nothing_stays c.drawn_of_file.result) c.hand_over.ensures.handed c.hand_over.ensures.failed
