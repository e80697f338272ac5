use Rattle.std.proofs.Common.{refl}
use Rattle.t1_answer_all.proofs.writing.write_commands.Goals as goal
use Rattle.t1_answer_all.specs.Writing.WritesCommands.{unflushed, unlistable, written}
use Rattle.t1_many.specs.declared.policy.Lost.TheVariants.{Device}

pub returns-in-Err : goal.returns-in-Err
returns-in-Err g c = rw c.unwritten.ensures (unlistable _ c.give_unlisted.new.formatter c.in-Err.lost c.in-Err.ensures refl refl refl)

pub returns-in-Ok : goal.returns-in-Ok
returns-in-Ok g c =
    written _ _ c.in_default.ensures (g.W.Sink.state c.flush.new.self) c.in-Ok.ensures.flushes c.write_groups.ensures

pub returns-in-Err-flush : goal.returns-in-Err-flush
returns-in-Err-flush g c =
    rw c.unwritten-in-Err-flush.ensures
    (unflushed _ _ c.in_default.ensures Device c.in-Err-flush.ensures.flushes.0 refl refl refl)
