use Rattle.std.proofs.Common.{List, ap, refl}
use Rattle.t1_pieces.proofs.DocumentPlaces.{opened_later, opened_never}
use Rattle.t1_pieces.proofs.GivenLines.{at_walk}
use Rattle.t1_pieces.proofs.filling_documents.open.Goals as goal
use Rattle.t1_pieces.specs.Documents.{subject_for}
use Rattle.t1_report.specs.Checked.{CheckedFont}
use Rattle.t1_report.specs.Faults.{fault_value}
use Rattle.t1_report.specs.WalkViews.{WalkView}
use Rattle.t1_report.specs.Waivers.{Waiver}
use Rattle.t1_report.specs.Walks.{HasNoneLater, IsNext}
use Rattle.t1_report.specs.declared.marks.Mark.{Mark}

pub returns-in-Some-clause-opened : goal.returns-in-Some-clause-opened
returns-in-Some-clause-opened c =
    opened_later c.resume.result (subject_for c.args.request.now c.args.walk.now.font c.args.waivers.now) c.args.reached.now
    (fault_value c.in-Some.last) c.args.font.now c.next.new.self.mark c.in-Results.is
    (at_walk (λ (f : CheckedFont) (w : List Waiver) (m : Mark). IsNext f w m (fault_value c.in-Some.last)) _ _ _ _ _ _ refl c.requires.waivers
    c.requires.mark c.in-Some.ensures.next)
    c.requires.font (ap (λ (w : WalkView). w.mark) c.in-Some.ensures.state) c.resume.ensures.state

pub returns-in-None-clause-opened : goal.returns-in-None-clause-opened
returns-in-None-clause-opened c =
    opened_never c.begin-in-None.result (subject_for c.args.request.now c.args.walk.now.font c.args.waivers.now)
    c.args.reached.now c.next.new.self.mark c.in-Results.is
    (at_walk (λ (f : CheckedFont) (w : List Waiver) (m : Mark). HasNoneLater f w m) _ _ _ _ _ _ refl c.requires.waivers c.requires.mark
    c.in-None.ensures.next)
