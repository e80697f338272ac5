use Rattle.t1_answer_all.proofs.Puts.{each-push}
use Rattle.t1_answer_all.proofs.replacing.put_each.Goals as goal
use Rattle.t1_answer_all.proofs.GivenEach.{map-push}
use Rattle.t1_waiving.specs.FontTexts.{font_text}

pub loop-font-preserved : goal.loop-font-preserved
loop-font-preserved g c =
    rw (map-push font_text c.args.fonts.now c.loop-font.font-index c.font-item.result c.loop-font-test.true c.font-item.is)
    (each-push (record { Puts = g.F.FileStore.puts; Has = g.F.FileStore.has }) c.args.overwrites _ _ _ _ _ _ _ _ _ _ c.loop-font.invariant c.put_font-one.ensures)
