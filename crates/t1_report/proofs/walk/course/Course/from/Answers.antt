use Rattle.std.proofs.Common.{subst}
use Rattle.t1_report.specs.Private.Searches.{Aim}
use Rattle.t1_report.specs.Reports.{IsTold}
use Rattle.t1_report.proofs.Hands.{hand_begun}
use Rattle.t1_report.proofs.walk.course.Course.from.Goals as goal

pub returns-clause-course : goal.returns-clause-course
returns-clause-course c =
    record {
      searches = c.from.ensures.search;
      hand = hand_begun c.from.result _ c.args.mark c.empty.ensures c.from.ensures.unit
          (λ p is at past. c.from.ensures.behind p (subst (λ (aim : Aim). IsTold aim.font aim.waivers p) c.from.ensures.aim is) at past);
    }
