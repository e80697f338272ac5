use Rattle.std.proofs.Common.{IfSome, subst}
use Rattle.t1_report.specs.Faults.{fault_value}
use Rattle.t1_report.specs.Lines.{IsInFont}
use Rattle.t1_report.specs.UnitFaults.{UnitView}
use Rattle.t1_report.proofs.InFont.{next_of_unit_stands_in_font}
use Rattle.t1_report.proofs.unit_faults.UnitFaults.next.Goals as goal

pub returns-clause-in_font : goal.returns-clause-in_font
returns-clause-in_font c =
    subst (λ (u : UnitView). IfSome c.next_in_unit.result (λ fault. IsInFont u.font.value u.waivers (fault_value fault))) c.self.view_is
    (next_of_unit_stands_in_font _ _ _ _ c.next_in_unit.result c.next_in_unit.ensures.next)
