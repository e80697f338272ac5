use Rattle.t1_char.specs.declared.edition.Edition.TheVariants.{Four, One, Three, Two}
use Rattle.t1_report.proofs.StepLimit.{are_checked}
use Rattle.t1_report.proofs.laws.the_limit_is_one_step.Goals as goal

pub returns-clause-first : goal.returns-clause-first
returns-clause-first c = are_checked One

pub returns-clause-second : goal.returns-clause-second
returns-clause-second c = are_checked Two

pub returns-clause-third : goal.returns-clause-third
returns-clause-third c = are_checked Three

pub returns-clause-fourth : goal.returns-clause-fourth
returns-clause-fourth c = are_checked Four
