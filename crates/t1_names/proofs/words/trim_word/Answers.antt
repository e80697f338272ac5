use Rattle.t1_names.specs.Words.Trims.{short, shortened}
use Rattle.t1_names.proofs.words.trim_word.Goals as goal

pub loop-next-preserved : goal.loop-next-preserved
loop-next-preserved g c = (
  search,
  λ new trimmed is. c.loop-next.invariant.1 new trimmed
      (shortened c.loop-next.files c.shortened.new.files new c.loop-next.trimmed.now c.in-Some.next.now trimmed c.in-Some.ensures.0 is),
)

pub returns : goal.returns
returns g c =
    c.loop-next.invariant.1 c.shortened.new.files c.loop-next.trimmed.now
    (short c.loop-next.files c.shortened.new.files c.loop-next.trimmed.now c.in_default.ensures)
