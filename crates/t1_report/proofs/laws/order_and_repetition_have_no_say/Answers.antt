use Rattle.t1_report.proofs.WaivedFaults.{order_leaves_faults, order_leaves_uses, repeated_lines_say_nothing}
use Rattle.t1_report.proofs.laws.order_and_repetition_have_no_say.Goals as goal

pub returns-clause-faults : goal.returns-clause-faults
returns-clause-faults c = order_leaves_faults

pub returns-clause-uses : goal.returns-clause-uses
returns-clause-uses c = order_leaves_uses

pub returns-clause-repeated : goal.returns-clause-repeated
returns-clause-repeated c = repeated_lines_say_nothing
