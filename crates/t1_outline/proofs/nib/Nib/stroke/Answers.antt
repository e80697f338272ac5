use Rattle.std.proofs.Common.{◌≡◌, false, true, IfSome, None, Option, Some, List, [], ◌∷◌, ◌++◌, sym, ap, ◌∙◌}
use Rattle.t1_char.specs.Steps.{StepView}
use Rattle.t1_char.specs.StepValues.{step_view}
use Rattle.t1_outline.specs.declared.nib.Nib.{Nib}
use Rattle.t1_outline.specs.declared.segment.Segment.{Segment}
use Rattle.t1_outline.specs.Laws.Points.{end_of}
use Rattle.t1_outline.specs.Outlines.{stroke}
use Rattle.t1_outline.specs.Private.Standing.{NibStandsFor}
use Rattle.t1_outline.proofs.LoneStrokes.{is_stroke, nib_stays}
use Rattle.t1_outline.proofs.Points.{stroke_ends}
use Rattle.t1_outline.proofs.nib.Nib.stroke.Goals as goal
use Rattle.t1_rules.specs.declared.step_rules.flex.Point.{Point}
use Rattle.t1_rules.specs.StepRules.Flex.{current_point}
use Rattle.t1_rules.specs.StepRules.Paths.{in_flex}
use Rattle.t1_rules.specs.StepRules.Tokens.{is_line}

if_some : (nib : Nib) (before : List StepView) (t : StepView) (start : Point) (drawn : Option Segment) → stroke start t ≡ drawn
    → nib.has_subpath ≡ true → NibStandsFor nib before → in_flex before ≡ false
    → IfSome drawn (λ segment. NibStandsFor nib (before ++ t ∷ []))
if_some nib before t start None is there st outside = tt
if_some nib before t start (Some s) is there st outside = nib_stays before t start s outside is nib (sym st.subpath ∙ there) st

pub returns-then-self-clause-stands : goal.returns-then-self-clause-stands
returns-then-self-clause-stands c = λ before st outside.
    if_some c.args.self.now before (step_view c.args.step.now) c.args.start c.stroke.result (sym c.stroke.ensures) c.if-self.true st outside

of_line : (t : StepView) (start : Point) (drawn : Option Segment) → stroke start t ≡ drawn → IfSome drawn (λ segment. is_line t.token ≡ true)
of_line t start None is = tt
of_line t start (Some s) is = (is_stroke start t s is).line

pub returns-then-self-clause-line : goal.returns-then-self-clause-line
returns-then-self-clause-line c = of_line (step_view c.args.step.now) c.args.start c.stroke.result (sym c.stroke.ensures)

ends_there : (before : List StepView) (t : StepView) (drawn : Option Segment) → stroke (current_point before) t ≡ drawn
    → IfSome drawn (λ segment. end_of segment ≡ Some (current_point (before ++ t ∷ [])))
ends_there before t None is = tt
ends_there before t (Some s) is = stroke_ends before t s (is_stroke (current_point before) t s is).line is

pub returns-then-self-clause-end : goal.returns-then-self-clause-end
returns-then-self-clause-end c = λ before at.
    ends_there before (step_view c.args.step.now) c.stroke.result
    (ap (λ (p : Point). stroke p (step_view c.args.step.now)) (sym at) ∙ sym c.stroke.ensures)
