use Rattle.std.proofs.Common.{map, take}
use Rattle.t1_answer_all.specs.Replacing.{PutsEach}
use Rattle.t1_waiving.specs.FontTexts.{font_text}
use Rattle.t1_answer_all.proofs.replacing.put_each.Given as goal

abbrev pub invariant-loop-font : goal.invariant-loop-font
invariant-loop-font g l =
    PutsEach (record { Puts = g.F.FileStore.puts; Has = g.F.FileStore.has }) l.overwrites (map font_text (take l.font-index l.fonts))
    (record { files = l.fn.files; files' = l.files; errors = g.E.Sink.state l.fn.errors; errors' = g.E.Sink.state l.errors }) l.done
