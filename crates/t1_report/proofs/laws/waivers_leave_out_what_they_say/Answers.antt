use Rattle.t1_report.proofs.NamesOnce.{fonts_have_no_name_twice}
use Rattle.t1_report.proofs.WaivedFaults.{unused_waivers_change_nothing, waived_faults_are_left_out}
use Rattle.t1_report.proofs.laws.waivers_leave_out_what_they_say.Goals as goal

pub returns-clause-left : goal.returns-clause-left
returns-clause-left c = waived_faults_are_left_out

pub returns-clause-unused : goal.returns-clause-unused
returns-clause-unused c = unused_waivers_change_nothing

pub returns-clause-once : goal.returns-clause-once
returns-clause-once c = fonts_have_no_name_twice
