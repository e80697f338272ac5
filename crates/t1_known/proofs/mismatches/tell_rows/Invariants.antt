use Rattle.std.specs.List.{flat_map}
use Rattle.t1_known.proofs.Told.{HasTold}
use Rattle.t1_known.specs.Private.Mismatches.{told_of}
use Rattle.t1_many.specs.Choice.{choice_of}
use Rattle.t1_known.proofs.mismatches.tell_rows.Given as goal

abbrev pub invariant-loop-key : goal.invariant-loop-key
invariant-loop-key g l =
    HasTold (g.W.Sink.state l.fn.sink) (g.W.Sink.state l.sink) (flat_map (told_of (choice_of l.choice) l.fonts.entries) l.rows.entries)
    (flat_map (told_of (choice_of l.choice) l.fonts.entries) l._key-iterator)
