-- Each subject has a picture, since each glyph has its faults, and no other.
use Rattle.std.proofs.Common.{◌≡◌, ℕ, ◌+◌, List, [], ◌∷◌, refl, sym, ap, subst, arith, ◌∙◌}
use Rattle.t1_picture.specs.Laws.{HasNoOtherPicture, HasPicture}
use Rattle.t1_picture.specs.Marks.{AreShownOf}
use Rattle.t1_picture.specs.Pictures.{picture_of}
use Rattle.t1_picture.specs.Subjects.{Subject}
use Rattle.t1_picture.proofs.FaultSteps.{one_next}
use Rattle.t1_report.specs.declared.marks.Mark.{Mark}
use Rattle.t1_report.specs.Checked.{checked}
use Rattle.t1_report.specs.Faults.{FaultValue}
use Rattle.t1_report.specs.Laws.UnitFaults.{UnitsHaveFaults}
use Rattle.t1_report.specs.Reports.{Place, place_of}
use Rattle.t1_report.specs.Waivers.{Waiver}
use Rattle.t1_report.specs.Walks.{AreLaterOf, mark_of}

pub has_picture : UnitsHaveFaults → HasPicture
has_picture have s few few_waivers =
    let shown = have (checked s.font s.edition) s.waivers (s.glyph + 1) few few_waivers in
    let all = have (checked s.font s.edition) [] (s.glyph + 1) few (omega arith) in
    (picture_of s shown.0 all.0, record { faults = shown.0; are = shown.1; all = all.0; are_all = all.1; is = refl })

-- ---- no other

one_list : (Violated : Place → Type 0) (path_of : Place → List ℕ) (mark : Mark) (a b : List FaultValue) → AreLaterOf Violated path_of mark a
    → AreLaterOf Violated path_of mark b → a ≡ b
one_list Violated path_of mark [] [] none none' = refl
one_list Violated path_of mark [] (y ∷ ys) none later = absurd (none (place_of y) later.0.violation.violated later.0.later)
one_list Violated path_of mark (x ∷ xs) [] later none = absurd (none (place_of x) later.0.violation.violated later.0.later)
one_list Violated path_of mark (x ∷ xs) (y ∷ ys) later later' =
    let first : x ≡ y = one_next Violated path_of mark x y later.0 later'.0 in
    let rest : xs ≡ ys =
    one_list Violated path_of (mark_of y) xs ys (subst (λ (f : FaultValue). AreLaterOf Violated path_of (mark_of f) xs) first later.1) later'.1 in
    ap (λ (f : FaultValue). f ∷ xs) first ∙ ap (λ (fs : List FaultValue). y ∷ fs) rest

same_shown : (s : Subject) (waivers : List Waiver) (a b : List FaultValue) → AreShownOf s waivers a → AreShownOf s waivers b → a ≡ b
same_shown s waivers a b are others = one_list _ _ _ a b are others

pub no_other_picture : HasNoOtherPicture
no_other_picture s a b one other =
    one.is ∙ ap (λ (faults : List FaultValue). picture_of s faults one.all) (same_shown s s.waivers one.faults other.faults one.are other.are)
    ∙ ap (picture_of s other.faults) (same_shown s [] one.all other.all one.are_all other.are_all)
    ∙ sym other.is
