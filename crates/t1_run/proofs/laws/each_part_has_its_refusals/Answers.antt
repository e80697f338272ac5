use Rattle.t1_run.proofs.RefusalLaws.{refused_by_part, never_for_memory}
use Rattle.t1_run.proofs.laws.each_part_has_its_refusals.Goals as goal

pub returns-clause-parts : goal.returns-clause-parts
returns-clause-parts c = refused_by_part c.each_part_has_its_refusals.ensures.parts

pub returns-clause-memory : goal.returns-clause-memory
returns-clause-memory c = never_for_memory c.each_part_has_its_refusals.ensures.memory
