-- The faults of a glyph that were added so far.
-- The faults that were added and those left to add are all that are asked for, at each fault that comes.
use Rattle.std.proofs.Common.{◌≡◌, ℕ, zero, suc, ◌+◌, ◌-◌, ◌<◌, ◌≤◌, inl, inr, min, Bool, true, false, cond, nat_le, if◌then◌else◌, ◌==◌, length, Option, None, Some, List, [], ◌∷◌, ◌++◌, take, append_assoc, append-nil, refl, sym, ap, subst, ◌∙◌, arith}
use Rattle.std.proofs.lemmas.Bool.{eqb-true}
use Rattle.std.proofs.lemmas.List.Sums.{sum_by-cons}
use Rattle.std.specs.List.{count_by}
use Rattle.std.specs.Option.{option_to_list}
use Rattle.t1_char.specs.Steps.{StepView}
use Rattle.t1_char.specs.Turns.{MachineView}
use Rattle.t1_outline.specs.Private.Outlining.{steps_in}
use Rattle.t1_font.specs.Fonts.{glyph_name}
use Rattle.t1_char.specs.declared.edition.Edition.{Edition}
use Rattle.t1_drawing.specs.declared.direction.Direction.{Direction}
use Rattle.t1_picture.specs.declared.causes.Cause.{Cause}
use Rattle.t1_picture.specs.declared.causes.StemPlace.{StemPlace}
use Rattle.t1_picture.specs.declared.marks.FaultMark.{FaultMark}
use Rattle.t1_picture.specs.declared.marks.Marks.{Marks}
use Rattle.t1_picture.specs.Causes.{causes_of_reason, direction_among, zone_at}
use Rattle.t1_picture.specs.Drawings.{all_steps, own_part}
use Rattle.t1_picture.specs.Parts.{start_of}
use Rattle.t1_picture.specs.Private.FaultViews.{AreThose, IsRunFor, counted}
use Rattle.t1_picture.specs.Private.MarkViews.{IsMarked, done_with, last_with}
use Rattle.t1_picture.specs.Marks.{all_causes, causes_of, direction_at, fault_lines, glyph_steps, is_waived_of, last_of, lines_of, marks_from, pen_at, place_of_stems, reason_of, shown_of, up_to, waived_of}
use Rattle.t1_picture.specs.Private.Runs.{GoesTo, IsOfSameGlyph, seen_steps}
use Rattle.t1_picture.specs.Subjects.{Subject}
use Rattle.t1_picture.specs.Subpaths.{same_point}
use Rattle.t1_reasons.specs.GlyphReasons.{IsOfSameGlyph as IsSameMachine, glyph_reason, reason_at}
use Rattle.t1_reasons.specs.declared.reason.Reason.{Reason}
use Rattle.t1_report.specs.declared.marks.Mark.{Mark}
use Rattle.t1_report.specs.Checked.{CheckedFont, checked}
use Rattle.t1_report.specs.Faults.{FaultValue}
use Rattle.t1_report.specs.Reports.{Place, path_at, place_of}
use Rattle.t1_report.specs.UnitFaults.{HasNoneLaterInUnit, IsNextInUnit, IsToldOf}
use Rattle.t1_report.specs.Waivers.{Waiver, is_waived}
use Rattle.t1_report.specs.Walks.{AreLaterOf, IsNextOf, mark_of}
use Rattle.t1_report.proofs.OneReport.{both, same_fault}
use Rattle.t1_rules.specs.declared.rule.Rule.{Rule}
use Rattle.t1_rules.specs.declared.step_rules.flex.Point.{Point}
use Rattle.t1_rules.specs.Book.{number_of}
use Rattle.t1_rules.specs.StepRules.Flex.{current_point}

-- There is one next fault.
pub one_next : (Violated : Place → Type 0) (path_of : Place → List ℕ) (mark : Mark) (a b : FaultValue)
    → IsNextOf Violated path_of mark a → IsNextOf Violated path_of mark b → a ≡ b
one_next Violated path_of mark a b next other = elim (next.first (place_of b) other.violation.violated other.later) [
  | inl same ↦ same_fault path_of a b (next.number ∙ sym other.number) same next.violation.path other.violation.path
  | inr before ↦ elim (other.first (place_of a) next.violation.violated next.later) [
    | inl same ↦ same_fault path_of a b (next.number ∙ sym other.number) (sym same) next.violation.path other.violation.path
    | inr after ↦ absurd (both (place_of a) (place_of b) before after)
  ]
]

-- In a unit faults come by their steps.
pub steps_rise : (font : CheckedFont) (waivers : List Waiver) (unit : ℕ) (mark : Mark) (fault : FaultValue) → mark.unit ≡ unit
    → IsNextInUnit font waivers unit mark fault → mark.step ≤ fault.step
steps_rise font waivers unit mark fault at next = elim next.later [
  | inl unit_less ↦ absurd (omega (arith, unit_less, at, next.violation.violated.0))
  | inr same_unit ↦ elim same_unit.1 [ inl less ↦ omega (arith, less) | inr same ↦ omega (arith, same.0) ]
]

-- ---- faults that were added

-- What is left to be added.
abbrev pub left_to_add : Subject → ℕ → List FaultValue → List FaultValue
left_to_add s n rest = take (all_steps - n) (up_to (last_of s) rest)

pub record HasAdded (s : Subject) (faults : List FaultValue) (n : ℕ) (mark : Mark) (marks : Marks) (causes : List Cause) (lines : List (List ℕ)) : Type 0 where
  pub rest : List FaultValue
  pub are : AreLaterOf (IsToldOf (checked s.font s.edition) s.waivers (s.glyph + 1)) (path_at (checked s.font s.edition)) mark rest
  pub marks_are : marks.done.items ++ marks_from s marks.last (left_to_add s n rest) ≡ marks_from s None (shown_of s faults)
  pub causes_are : causes ++ all_causes s (left_to_add s n rest) ≡ all_causes s (shown_of s faults)
  pub lines_are : lines ++ lines_of s (left_to_add s n rest) ≡ lines_of s (shown_of s faults)

marks_next : (s : Subject) (o : Option FaultMark) (f : FaultValue) (fs : List FaultValue)
    → marks_from s o (f ∷ fs) ≡ done_with o (pen_at s f.step) ++ marks_from s (Some (last_with o (pen_at s f.step) f.number)) fs
marks_next s None f fs = refl
marks_next s (Some mark) f fs = by_test (same_point mark.point (pen_at s f.step)) refl
  where
    by_test : (b : Bool) → same_point mark.point (pen_at s f.step) ≡ b
        → marks_from s (Some mark) (f ∷ fs) ≡ done_with (Some mark) (pen_at s f.step) ++ marks_from s (Some (last_with (Some mark) (pen_at s f.step) f.number)) fs
    by_test true same = rw same refl
    by_test false other = rw other refl

left_next : (s : Subject) (n : ℕ) (f : FaultValue) (fs : List FaultValue) → n < all_steps → nat_le f.step (last_of s) ≡ true
    → left_to_add s n (f ∷ fs) ≡ f ∷ left_to_add s (n + 1) fs
left_next s n f fs less shown =
    let more : all_steps - n ≡ suc (all_steps - (n + 1)) = omega (arith, less) in
    ap (λ b. take (all_steps - n) (cond b (f ∷ up_to (last_of s) fs) [])) shown ∙ ap (λ (k : ℕ). take k (f ∷ up_to (last_of s) fs)) more

pub one_added : (s : Subject) (faults : List FaultValue) (n : ℕ) (mark : Mark) (marks marks' : Marks) (causes causes' : List Cause)
    (lines lines' : List (List ℕ)) (f : FaultValue)
    → HasAdded s faults n mark marks causes lines → n < all_steps → IsNextInUnit (checked s.font s.edition) s.waivers (s.glyph + 1) mark f
    → nat_le f.step (last_of s) ≡ true → IsMarked marks marks' (pen_at s f.step) f.number → causes' ≡ causes ++ causes_of s f
    → lines' ≡ lines ++ fault_lines s f → HasAdded s faults (n + 1) (mark_of f) marks' causes' lines'
one_added s faults n mark marks marks' causes causes' lines lines' f has less next shown marked caused lined =
    go has.rest has.are has.marks_are has.causes_are has.lines_are
  where
    Told : Place → Type 0
    Told = IsToldOf (checked s.font s.edition) s.waivers (s.glyph + 1)

    go : (rest : List FaultValue) → AreLaterOf (IsToldOf (checked s.font s.edition) s.waivers (s.glyph + 1)) (path_at (checked s.font s.edition)) mark rest
        → marks.done.items ++ marks_from s marks.last (left_to_add s n rest) ≡ marks_from s None (shown_of s faults)
        → causes ++ all_causes s (left_to_add s n rest) ≡ all_causes s (shown_of s faults)
        → lines ++ lines_of s (left_to_add s n rest) ≡ lines_of s (shown_of s faults)
        → HasAdded s faults (n + 1) (mark_of f) marks' causes' lines'
    go [] none marks_are causes_are lines_are = absurd (none (place_of f) next.violation.violated next.later)
    go (x ∷ xs) later marks_are causes_are lines_are =
        let same : x ≡ f =
        one_next (IsToldOf (checked s.font s.edition) s.waivers (s.glyph + 1)) (path_at (checked s.font s.edition)) mark x f later.0 next in
        let left : left_to_add s n (x ∷ xs) ≡ f ∷ left_to_add s (n + 1) xs =
        ap (λ (y : FaultValue). left_to_add s n (y ∷ xs)) same ∙ left_next s n f xs less shown in
        let tail = marks_from s (Some (last_with marks.last (pen_at s f.step) f.number)) (left_to_add s (n + 1) xs) in record {
          rest = xs;
          are = subst (λ (y : FaultValue). AreLaterOf (IsToldOf (checked s.font s.edition) s.waivers (s.glyph + 1)) (path_at (checked s.font s.edition)) (mark_of y) xs)
              same later.1;
          marks_are =
              ap (λ (o : Option FaultMark). marks'.done.items ++ marks_from s o (left_to_add s (n + 1) xs)) marked.last
              ∙ ap (λ (ms : List FaultMark). ms ++ tail) marked.done
              ∙ append_assoc marks.done.items (done_with marks.last (pen_at s f.step)) tail
              ∙ ap (λ (ms : List FaultMark). marks.done.items ++ ms) (sym (marks_next s marks.last f (left_to_add s (n + 1) xs)))
              ∙ ap (λ (fs : List FaultValue). marks.done.items ++ marks_from s marks.last fs) (sym left)
              ∙ marks_are;
          causes_are =
              ap (λ (cs : List Cause). cs ++ all_causes s (left_to_add s (n + 1) xs)) caused
              ∙ append_assoc causes (causes_of s f) (all_causes s (left_to_add s (n + 1) xs))
              ∙ ap (λ (fs : List FaultValue). causes ++ all_causes s fs) (sym left)
              ∙ causes_are;
          lines_are =
              ap (λ (ls : List (List ℕ)). ls ++ lines_of s (left_to_add s (n + 1) xs)) lined
              ∙ append_assoc lines (fault_lines s f) (lines_of s (left_to_add s (n + 1) xs))
              ∙ ap (λ (fs : List FaultValue). lines ++ lines_of s fs) (sym left)
              ∙ lines_are;
        }

last_alone : (s : Subject) (o : Option FaultMark) → option_to_list o ≡ marks_from s o []
last_alone s None = refl
last_alone s (Some mark) = refl

pub all_added : (s : Subject) (faults : List FaultValue) (n : ℕ) (mark : Mark) (marks : Marks) (causes : List Cause) (lines : List (List ℕ))
    → (has : HasAdded s faults n mark marks causes lines) → left_to_add s n has.rest ≡ [] → AreThose s faults marks causes lines
all_added s faults n mark marks causes lines has none = record {
  marks_are = ap (λ (ms : List FaultMark). marks.done.items ++ ms) (last_alone s marks.last)
      ∙ ap (λ (fs : List FaultValue). marks.done.items ++ marks_from s marks.last fs) (sym none) ∙ has.marks_are;
  causes_are = sym (append-nil causes) ∙ ap (λ (fs : List FaultValue). causes ++ all_causes s fs) (sym none) ∙ has.causes_are;
  lines_are = sym (append-nil lines) ∙ ap (λ (fs : List FaultValue). lines ++ lines_of s fs) (sym none) ∙ has.lines_are;
}

-- Why nothing is left: no fault comes, the next one is after the last step, or so many were added.
none_of_none : (k : ℕ) → take {A = FaultValue} k [] ≡ []
none_of_none zero = refl
none_of_none (suc k) = refl

pub none_comes : (s : Subject) (waivers : List Waiver) (n : ℕ) (mark : Mark) (rest : List FaultValue)
    → AreLaterOf (IsToldOf (checked s.font s.edition) waivers (s.glyph + 1)) (path_at (checked s.font s.edition)) mark rest
    → HasNoneLaterInUnit (checked s.font s.edition) waivers (s.glyph + 1) mark → left_to_add s n rest ≡ []
none_comes s waivers n mark [] are none = none_of_none (all_steps - n)
none_comes s waivers n mark (x ∷ xs) are none = absurd (none (place_of x) are.0.violation.violated are.0.later)

pub none_drawn : (s : Subject) (waivers : List Waiver) (n : ℕ) (mark : Mark) (rest : List FaultValue) (f : FaultValue)
    → AreLaterOf (IsToldOf (checked s.font s.edition) waivers (s.glyph + 1)) (path_at (checked s.font s.edition)) mark rest
    → IsNextInUnit (checked s.font s.edition) waivers (s.glyph + 1) mark f → nat_le f.step (last_of s) ≡ false → left_to_add s n rest ≡ []
none_drawn s waivers n mark [] f are next past = none_of_none (all_steps - n)
none_drawn s waivers n mark (x ∷ xs) f are next past =
    let same : x ≡ f = one_next (IsToldOf (checked s.font s.edition) waivers (s.glyph + 1)) (path_at (checked s.font s.edition)) mark x f are.0 next in
    ap (λ b. take (all_steps - n) (cond b (x ∷ up_to (last_of s) xs) [])) (ap (λ (y : FaultValue). nat_le y.step (last_of s)) same ∙ past)
    ∙ none_of_none (all_steps - n)

pub none_fits : (s : Subject) (n : ℕ) (rest : List FaultValue) → all_steps ≤ n → left_to_add s n rest ≡ []
none_fits s n rest full =
    let none : all_steps - n ≡ 0 = omega (arith, full) in ap (λ (k : ℕ). take k (up_to (last_of s) rest)) none

-- ---- waived faults that were counted

pub record HasCounted (s : Subject) (faults : List FaultValue) (n : ℕ) (mark : Mark) (count : ℕ) : Type 0 where
  pub rest : List FaultValue
  pub are : AreLaterOf (IsToldOf (checked s.font s.edition) [] (s.glyph + 1)) (path_at (checked s.font s.edition)) mark rest
  pub count_is : min (count + count_by (is_waived_of s) (left_to_add s n rest)) all_steps ≡ waived_of s faults
  pub small : count ≤ all_steps

count_next : (s : Subject) (count more : ℕ) (b : Bool) → count ≤ all_steps
    → min (counted count b + more) all_steps ≡ min (count + ((if b then 1 else 0) + more)) all_steps
count_next s count more true small = omega (arith, small)
count_next s count more false small = omega (arith, small)

still_small : (count : ℕ) (b : Bool) → count ≤ all_steps → counted count b ≤ all_steps
still_small count true small = omega (arith, small)
still_small count false small = small

pub one_counted : (s : Subject) (faults : List FaultValue) (n : ℕ) (mark : Mark) (count count' : ℕ) (f : FaultValue)
    → HasCounted s faults n mark count → n < all_steps → IsNextInUnit (checked s.font s.edition) [] (s.glyph + 1) mark f
    → nat_le f.step (last_of s) ≡ true → count' ≡ counted count (is_waived_of s f) → HasCounted s faults (n + 1) (mark_of f) count'
one_counted s faults n mark count count' f has less next shown is = go has.rest has.are has.count_is
  where
    go : (rest : List FaultValue) → AreLaterOf (IsToldOf (checked s.font s.edition) [] (s.glyph + 1)) (path_at (checked s.font s.edition)) mark rest
        → min (count + count_by (is_waived_of s) (left_to_add s n rest)) all_steps ≡ waived_of s faults → HasCounted s faults (n + 1) (mark_of f) count'
    go [] none count_is = absurd (none (place_of f) next.violation.violated next.later)
    go (x ∷ xs) later count_is =
        let same : x ≡ f = one_next (IsToldOf (checked s.font s.edition) [] (s.glyph + 1)) (path_at (checked s.font s.edition)) mark x f later.0 next in
        let left : left_to_add s n (x ∷ xs) ≡ f ∷ left_to_add s (n + 1) xs =
        ap (λ (y : FaultValue). left_to_add s n (y ∷ xs)) same ∙ left_next s n f xs less shown in record {
          rest = xs;
          are = subst (λ (y : FaultValue). AreLaterOf (IsToldOf (checked s.font s.edition) [] (s.glyph + 1)) (path_at (checked s.font s.edition)) (mark_of y) xs)
              same later.1;
          count_is =
              ap (λ (k : ℕ). min (k + count_by (is_waived_of s) (left_to_add s (n + 1) xs)) all_steps) is
              ∙ count_next s count (count_by (is_waived_of s) (left_to_add s (n + 1) xs)) (is_waived_of s f) has.small
              ∙ ap (λ (k : ℕ). min (count + k) all_steps) (sym (sum_by-cons (λ x. cond (is_waived_of s x) 1 0) f (left_to_add s (n + 1) xs)))
              ∙ ap (λ (fs : List FaultValue). min (count + count_by (is_waived_of s) fs) all_steps) (sym left)
              ∙ count_is;
          small = subst (λ (k : ℕ). k ≤ all_steps) (sym is) (still_small count (is_waived_of s f) has.small);
        }

pub all_counted : (s : Subject) (faults : List FaultValue) (n : ℕ) (mark : Mark) (count : ℕ)
    → (has : HasCounted s faults n mark count) → left_to_add s n has.rest ≡ [] → count ≡ waived_of s faults
all_counted s faults n mark count has none =
    let end : min (count + 0) all_steps ≡ waived_of s faults =
    ap (λ (fs : List FaultValue). min (count + count_by (is_waived_of s) fs) all_steps) (sym none) ∙ has.count_is in
    omega (arith, end, has.small)

-- ---- runs

pub still_for : (s : Subject) (m m' : MachineView) → IsRunFor s m → IsOfSameGlyph m m' → IsRunFor s m'
still_for s m m' run same = record {
  font = same.font ∙ run.font;
  glyph = same.glyph ∙ run.glyph;
  edition = same.edition ∙ run.edition;
}

-- The same of reasons, which are found by a machine of the glyph.
pub still_of : (s : Subject) (m m' : MachineView) → IsRunFor s m → IsSameMachine m m' → IsRunFor s m'
still_of s m m' run same = record {
  font = same.font ∙ run.font;
  glyph = same.glyph ∙ run.glyph;
  edition = same.edition ∙ run.edition;
}

reason_in_glyph : (s : Subject) (m : MachineView) (rule : Rule) (step : ℕ) → IsRunFor s m
    → reason_at m rule step ≡ glyph_reason s.font s.edition s.glyph rule step
reason_in_glyph s m rule zero run = refl
reason_in_glyph s m rule (suc place) run = rw (run.font, run.glyph, run.edition) refl

-- A fault of the glyph is none of the font, and no waiver.
other_unit : (unit other : ℕ) → (unit ≡ other → ⊥) → (unit == other) ≡ false
other_unit unit other differ = by_test (unit == other) refl
  where
    by_test : (b : Bool) → (unit == other) ≡ b → b ≡ false
    by_test true same = absurd (differ (eqb-true unit other same))
    by_test false not = refl

pub in_glyph : (s : Subject) (f : FaultValue) → f.unit ≡ s.glyph + 1 → (f.unit == 0) ≡ false
in_glyph s f unit = other_unit f.unit 0 (λ none. omega (arith, unit, none))

no_waiver : (s : Subject) (f : FaultValue) → f.unit ≡ s.glyph + 1 → s.glyph < length s.font.glyphs → (f.unit == length s.font.glyphs + 1) ≡ false
no_waiver s f unit there = other_unit f.unit (length s.font.glyphs + 1) (λ past. omega (arith, unit, there, past))

pub reason_is : (s : Subject) (m : MachineView) (f : FaultValue) → IsRunFor s m → f.unit ≡ s.glyph + 1 → s.glyph < length s.font.glyphs
    → reason_at m f.rule f.step ≡ reason_of s f
reason_is s m f run unit there =
    let place : f.unit - 1 ≡ s.glyph = omega (arith, unit) in
    let at_step : reason_of s f ≡ glyph_reason s.font s.edition (f.unit - 1) f.rule f.step = rw (in_glyph s f unit, no_waiver s f unit there) refl in
    reason_in_glyph s m f.rule f.step run
    ∙ ap (λ (g : ℕ). glyph_reason s.font s.edition g f.rule f.step) (sym place)
    ∙ sym at_step

-- Where the stems of its step are, and what its reason names.
pub steps_of_glyph : (s : Subject) (m : MachineView) → IsRunFor s m → steps_in m ≡ glyph_steps s
steps_of_glyph s m run = rw (run.font, run.glyph, run.edition) refl

pub direction_is : (s : Subject) (m : MachineView) (f : FaultValue) (direction : Option Direction) → IsRunFor s m → f.unit ≡ s.glyph + 1
    → direction ≡ direction_among (steps_in m) f.step → direction ≡ direction_at s f
direction_is s m f direction run unit is =
    is ∙ ap (λ (ss : List StepView). direction_among ss f.step) (steps_of_glyph s m run)
    ∙ sym (ap (λ b. cond b None (direction_among (glyph_steps s) f.step)) (in_glyph s f unit))

pub place_is : (s : Subject) (f : FaultValue) (place : StemPlace) → place.edition ≡ s.edition → place.start ≡ start_of (own_part s)
    → place.direction ≡ direction_at s f → place ≡ place_of_stems s f
place_is s f place edition start direction =
    ap (λ (e : Edition). record place { edition = e }) edition
    ∙ ap (λ (p : Point). record { edition = s.edition; start = p; direction = place.direction }) start
    ∙ ap (λ (d : Option Direction). record { edition = s.edition; start = start_of (own_part s); direction = d }) direction

pub causes_are : (s : Subject) (f : FaultValue) (place : StemPlace) (reason : Option Reason) → f.unit ≡ s.glyph + 1
    → place ≡ place_of_stems s f → reason ≡ reason_of s f → causes_of_reason place f.rule reason ≡ causes_of s f
causes_are s f place reason unit placed is =
    ap (λ (p : StemPlace). causes_of_reason p f.rule reason) placed
    ∙ ap (λ (r : Option Reason). causes_of_reason (place_of_stems s f) f.rule r) is
    ∙ sym (ap (λ b. cond b (option_to_list (zone_at s.font f.step)) [] ++ causes_of_reason (place_of_stems s f) f.rule (reason_of s f)) (in_glyph s f unit))

-- Without waivers nothing is waived.
none_is_waived : (s : Subject) (faults : List FaultValue) → s.waivers ≡ [] → count_by (is_waived_of s) faults ≡ 0
none_is_waived s [] none = refl
none_is_waived s (f ∷ fs) none =
    let first : ◌≡◌ {A = ℕ} (cond (is_waived_of s f) 1 0) 0 =
    ap (λ (ws : List Waiver). cond (is_waived ws (glyph_name s.font s.glyph) (number_of f.rule)) 1 0) none in
    omega (arith, sum_by-cons (λ x. cond (is_waived_of s x) 1 0) f fs, first, none_is_waived s fs none)

pub none_waived : (s : Subject) (faults : List FaultValue) → s.waivers ≡ [] → 0 ≡ waived_of s faults
none_waived s faults none = sym (ap (λ (k : ℕ). min k all_steps) (none_is_waived s (shown_of s faults) none))

-- The pen before a step.
pub pen_there : (s : Subject) (m m' : MachineView) (count number : ℕ) → IsRunFor s m' → GoesTo m m' count → count ≡ number - 1
    → current_point (seen_steps m') ≡ pen_at s number
pen_there s m m' count number run goes is =
    let steps : steps_in m' ≡ glyph_steps s = steps_of_glyph s m' run in
    ap current_point (goes.seen ∙ ap (λ (ss : List StepView). take count ss) steps ∙ ap (λ (k : ℕ). take k (glyph_steps s)) is)
