use Rattle.std.proofs.Common.{IfSome, subst}
use Rattle.t1_report.specs.Faults.{fault_value}
use Rattle.t1_report.specs.Lines.{IsInFont}
use Rattle.t1_report.specs.WalkViews.{WalkView}
use Rattle.t1_report.proofs.InFont.{next_stands_in_font}
use Rattle.t1_report.proofs.walk.Walk.next.Goals as goal

pub returns-clause-in_font : goal.returns-clause-in_font
returns-clause-in_font c =
    subst (λ (w : WalkView). IfSome c.next.result (λ fault. IsInFont w.font.value w.waivers (fault_value fault))) c.self.view_is
    (next_stands_in_font _ _ _ c.next.result c.next.ensures.next)
