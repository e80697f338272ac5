use Rattle.std.proofs.Common.{ap, drop, ◌∙◌, drop-drop}
use Rattle.t1_char.specs.Private.Cursors.{bytes_left}
use Rattle.t1_char.proofs.cursor.Cursor.discard.Goals as goal

pub loop-taken-preserved : goal.loop-taken-preserved
loop-taken-preserved c =
    let s = bytes_left c.args.self.now in
    (c.next_byte-in-loop-taken.ensures.left ∙ ap (drop 1) c.loop-taken.invariant.0 ∙ drop-drop 1 c.loop-taken._taken s, c.next_byte-in-loop-taken.ensures.short ∙ c.loop-taken.invariant.1)
