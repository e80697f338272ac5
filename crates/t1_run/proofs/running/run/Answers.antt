use Rattle.std.proofs.Common.{refl}
use Rattle.t1_run.proofs.RunLemmas.{ungathered_ends, ungathered_stops}
use Rattle.t1_run.specs.Input.StopsAt.{the_end}
use Rattle.t1_run.proofs.running.run.Goals as goal

pub returns-in-Ok-clause-ends : goal.returns-in-Ok-clause-ends
returns-in-Ok-clause-ends g c = c.show_file.ensures.ends _ c.requires.font c.in-Ok.ensures.gathers

pub returns-in-Ok-clause-whole : goal.returns-in-Ok-clause-whole
returns-in-Ok-clause-whole g c = the_end c.in-Ok.ensures.gathers.end

pub returns-in-Err-clause-ends : goal.returns-in-Err-clause-ends
returns-in-Err-clause-ends g c =
    ungathered_ends g.P.Program.meaning c.args.options.now _ _ _ _ c.requires.font refl c.in-Err.failure c.in-Err.ensures.gathers
    (rw c.name.ensures at c.tell_failure.ensures)

pub returns-in-Err-clause-whole : goal.returns-in-Err-clause-whole
returns-in-Err-clause-whole g c =
    ungathered_stops g.P.Program.meaning.name _ _ _ _ c.in-Err.failure _ c.in-Err.ensures.gathers (rw c.name.ensures at c.tell_failure.ensures)
