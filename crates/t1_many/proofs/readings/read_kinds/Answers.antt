use Rattle.t1_many.proofs.readings.read_kinds.Goals as goal

pub returns : goal.returns
returns c kinds are = record { font = c.in_ok-font.ensures.ok; counts = c.in_ok-counts.ensures kinds are }
