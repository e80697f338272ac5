use Rattle.std.proofs.Common.{[], List}
use Rattle.t1_known.specs.Private.Kept.{rows_now}
use Rattle.t1_known.specs.Private.Fonts.{IsLeft}
use Rattle.t1_known.specs.Private.Updates.{HavePut, updated_text}
use Rattle.t1_many.specs.Choice.{choice_of}
use Rattle.t1_many.specs.declared.readings.Reading.{Reading}
use Rattle.t1_known.proofs.updating.put_rows.Given as goal

abbrev pub invariant-loop-key : goal.invariant-loop-key
invariant-loop-key g l = (all : List Reading) → IsLeft all [] l.fn.left.entries
    → HavePut all (updated_text (choice_of l.choice) all [] (rows_now l.rows.entries))
    (λ done. updated_text (choice_of l.choice) all done (rows_now l.key-iterator))
    (g.W.Sink.state l.fn.sink) (g.W.Sink.state l.sink) l.left.entries
