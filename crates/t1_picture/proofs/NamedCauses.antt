-- What is marked is what the reasons of faults name.
use Rattle.std.proofs.Common.{◌≡◌, ◌↔◌, ◌==◌, ℕ, ℤ, Bool, true, false, if◌then◌else◌, Option, Some, None, List, [], ◌∷◌, ◌++◌, flat_map, inl, inr, refl, sym, ap, subst, ◌∙◌, arith}
use Rattle.std.proofs.lemmas.List.Elements.{Contains-append_cases, Contains-append_left, Contains-append_right}
use Rattle.std.specs.List.{Contains}
use Rattle.std.specs.Option.{option_map, option_to_list}
use Rattle.t1_drawing.specs.declared.direction.Direction.{Direction}
use Rattle.t1_drawing.specs.declared.touching.UntouchedStem.{UntouchedStem}
use Rattle.t1_outline.specs.declared.segment.Segment.{Segment}
use Rattle.t1_picture.specs.declared.causes.Cause.{Cause}
use Rattle.t1_picture.specs.declared.causes.Cause.TheVariants.{Accent, Base, Coordinate, Ends, Miss as Missed, Outside as OutsideBox, Stem as NamedOne, Stroke as DrawnStroke, Turns, Untouched as LeftAlone, Zone}
use Rattle.t1_picture.specs.declared.causes.NamedStem.{NamedStem}
use Rattle.t1_picture.specs.declared.causes.Role.{Role}
use Rattle.t1_picture.specs.declared.causes.Role.TheVariants.{Other, Own}
use Rattle.t1_picture.specs.declared.causes.StemPlace.{StemPlace}
use Rattle.t1_picture.specs.Causes.{causes_in, causes_of_reason, line_before, means_components, named_stem, nearest_point, stem_cause, stroke_of, untouched_stem, zone_at}
use Rattle.t1_picture.specs.Marks.{all_causes, causes_of, faults_by, place_of_stems, reason_of, shown_of, zone_of}
use Rattle.t1_picture.specs.NamedCauses.{IsNamed, IsOfFault, IsShownOf, MarksAreOfFaults, NamesCodes, NamesCoordinate, NamesSidebearings, NamesStem, NamesStroke, NamesTurns, NamesUntouched, NamesZone, by_place, by_reason}
use Rattle.t1_picture.specs.Subjects.{ShownValue, Subject, everything, one_fault, up_to}
use Rattle.t1_reason_texts.specs.declared.decimals.Unit.TheVariants.{OnCurve}
use Rattle.t1_reason_texts.specs.Decimals.{coordinate_of, in_unit}
use Rattle.t1_reasons.proofs.NamedStems.{none_in, one_is}
use Rattle.t1_reasons.specs.declared.reason.Reason.{Reason}
use Rattle.t1_reasons.specs.declared.reason.Reason.TheVariants.{Area, Beyond, Codes, Miss, Open, Outside, Sidebearings, Stem as OneStem, Stems, Stroke, Triple, Untouched, Zones}
use Rattle.t1_report.specs.Faults.{FaultValue}
use Rattle.t1_rules.specs.declared.font_rules.zones.Edges.{Edges}
use Rattle.t1_rules.specs.declared.rule.Rule.{Rule}
use Rattle.t1_rules.specs.declared.step_rules.flex.Point.{Point}
use Rattle.t1_rules.specs.declared.step_rules.stems.Stem.{Stem}

-- ---- members

alone : {A : Type 0} (x y : A) → x ≡ y → Contains (x ∷ []) y
alone x y same = (0, omega arith, same)

from_flat : {A B : Type 0} (f : A → List B) (xs : List A) (y : B) → Contains (flat_map f xs) y → (x : A) × (Contains xs x × Contains (f x) y)
from_flat f [] y some = none_in y some
from_flat f (x ∷ xs) y some = elim (Contains-append_cases (f x) (flat_map f xs) y some) [
  | inl here ↦ (x, (Contains-append_left (x ∷ []) xs x (alone x x refl), here))
  | inr later ↦ let rest = from_flat f xs y later in (rest.0, (Contains-append_right (x ∷ []) xs rest.0 rest.1.0, rest.1.1))
]

to_flat : {A B : Type 0} (f : A → List B) (xs : List A) (x : A) (y : B) → Contains xs x → Contains (f x) y → Contains (flat_map f xs) y
to_flat f [] x y there some = none_in x there
to_flat f (z ∷ zs) x y there some = elim (Contains-append_cases (z ∷ []) zs x there) [
  | inl here ↦ Contains-append_left (f z) (flat_map f zs) y (subst (λ w. Contains (f w) y) (sym (one_is z x here)) some)
  | inr later ↦ Contains-append_right (f z) (flat_map f zs) y (to_flat f zs x y later some)
]

-- ---- one reason

module _ (place : StemPlace) (rule : Rule) where
  abbrev stems : Role → Stem → List Cause
  stems role stem = stem_cause place role stem

  stem_named : (reason : Reason) (role : Role) (stem : Stem) → NamesStem reason role stem → (cause : Cause) → Contains (stems role stem) cause
      → IsNamed place rule reason cause
  stem_named reason role stem names cause some = go place.direction refl some
    where
      go : (direction : Option Direction) → place.direction ≡ direction
          → Contains (option_to_list (option_map (named_stem place.edition place.start role stem) direction)) cause → IsNamed place rule reason cause
      go None lies some = none_in cause some
      go (Some direction) lies some =
          subst (IsNamed place rule reason) (one_is (named_stem place.edition place.start role stem direction) cause some)
          (record { stem = stem; direction = direction; names = names; lies = lies; drawn = refl })

  stroke_named : (line_start start : Option Point) (segment : Segment) (cause : Cause) → Contains (option_to_list (stroke_of rule line_start start segment)) cause
      → IsNamed place rule (Stroke line_start start segment) cause
  stroke_named line_start None segment cause some = none_in cause some
  stroke_named line_start (Some start) segment cause some =
      subst (IsNamed place rule (Stroke line_start (Some start) segment)) (one_is (DrawnStroke (line_before rule line_start) start segment) cause some) refl

  nearest_named : (stem : UntouchedStem) (step : ℕ) (nearest : Option ℤ) (cause : Cause)
      → Contains (option_to_list (nearest_point stem.direction nearest)) cause → IsNamed place rule (Untouched stem step nearest) cause
  nearest_named stem step None cause some = none_in cause some
  nearest_named stem step (Some number) cause some =
      subst (IsNamed place rule (Untouched stem step (Some number))) (one_is (Coordinate stem.direction (coordinate_of number)) cause some) refl

  named : (reason : Reason) (cause : Cause) → Contains (causes_in place rule reason) cause → IsNamed place rule reason cause
  named (Stems own other) cause some = elim (Contains-append_cases (stems Own own) (stems Other other.stem) cause some) [
    | inl here ↦ stem_named (Stems own other) Own own refl cause here
    | inr here ↦ stem_named (Stems own other) Other other.stem refl cause here
  ]
  named (OneStem stem) cause some = stem_named (OneStem stem) Own stem refl cause some
  named (Triple one two three) cause some = elim (Contains-append_cases (stems Own one) (stems Own two ++ stems Own three) cause some) [
    | inl here ↦ stem_named (Triple one two three) Own one (inl refl) cause here
    | inr more ↦ elim (Contains-append_cases (stems Own two) (stems Own three) cause more) [
      | inl here ↦ stem_named (Triple one two three) Own two (inr (inl refl)) cause here
      | inr here ↦ stem_named (Triple one two three) Own three (inr (inr refl)) cause here
    ]
  ]
  named (Miss point pen) cause some = subst (IsNamed place rule (Miss point pen)) (one_is (Missed point pen) cause some) refl
  named (Open start pen) cause some = subst (IsNamed place rule (Open start pen)) (one_is (Ends start pen) cause some) refl
  named (Codes base accent) cause some = go (means_components rule) refl some
    where
      go : (b : Bool) → means_components rule ≡ b → Contains (if b then Base ∷ (Accent ∷ []) else []) cause → IsNamed place rule (Codes base accent) cause
      go true means some = elim (Contains-append_cases (Base ∷ []) (Accent ∷ []) cause some) [
        | inl here ↦ subst (IsNamed place rule (Codes base accent)) (one_is Base cause here) (means, tt)
        | inr here ↦ subst (IsNamed place rule (Codes base accent)) (one_is Accent cause here) (inl (means, tt))
      ]
      go false means some = none_in cause some
  named (Sidebearings told own) cause some = subst (IsNamed place rule (Sidebearings told own)) (one_is Accent cause some) (inr tt)
  named (Zones own other distance) cause some = subst (IsNamed place rule (Zones own other distance)) (one_is (Zone other) cause some) refl
  named (Outside point box) cause some = subst (IsNamed place rule (Outside point box)) (one_is (OutsideBox point box) cause some) refl
  named (Stroke line_start start segment) cause some = stroke_named line_start start segment cause some
  named (Beyond direction quarters number from to) cause some =
      subst (IsNamed place rule (Beyond direction quarters number from to)) (one_is (Coordinate direction (in_unit OnCurve number)) cause some) refl
  named (Area twentyfold turns) cause some = subst (IsNamed place rule (Area twentyfold turns)) (one_is Turns cause some) tt
  named (Untouched stem step nearest) cause some =
      elim (Contains-append_cases (untouched_stem place.start stem ∷ []) (option_to_list (nearest_point stem.direction nearest)) cause some) [
        | inl here ↦ subst (IsNamed place rule (Untouched stem step nearest)) (one_is (untouched_stem place.start stem) cause here) refl
        | inr here ↦ nearest_named stem step nearest cause here
      ]
  named _ cause some = none_in cause some

  stem_marked : (reason : Reason) (role : Role) (stem : Stem) (cause : Cause) → NamesStem reason role stem → Contains (stems role stem) cause
      → Contains (causes_in place rule reason) cause
  stem_marked (Stems own other) Own stem cause same here =
      Contains-append_left (stems Own own) (stems Other other.stem) cause (subst (λ s. Contains (stems Own s) cause) same here)
  stem_marked (Stems own other) Other stem cause same here =
      Contains-append_right (stems Own own) (stems Other other.stem) cause (subst (λ s. Contains (stems Other s) cause) same here)
  stem_marked (OneStem own) Own stem cause same here = subst (λ s. Contains (stems Own s) cause) same here
  stem_marked (Triple one two three) Own stem cause (inl same) here =
      Contains-append_left (stems Own one) (stems Own two ++ stems Own three) cause (subst (λ s. Contains (stems Own s) cause) same here)
  stem_marked (Triple one two three) Own stem cause (inr (inl same)) here =
      Contains-append_right (stems Own one) (stems Own two ++ stems Own three) cause
      (Contains-append_left (stems Own two) (stems Own three) cause (subst (λ s. Contains (stems Own s) cause) same here))
  stem_marked (Triple one two three) Own stem cause (inr (inr same)) here =
      Contains-append_right (stems Own one) (stems Own two ++ stems Own three) cause
      (Contains-append_right (stems Own two) (stems Own three) cause (subst (λ s. Contains (stems Own s) cause) same here))
  stem_marked _ _ stem cause none here = absurd none

  zone_marked : (reason : Reason) (zone : Edges) → NamesZone reason zone → Contains (causes_in place rule reason) (Zone zone)
  zone_marked (Zones own other distance) zone is = alone (Zone other) (Zone zone) (ap (λ edges. Zone edges) (sym is))
  zone_marked _ zone is = absurd is

  stroke_marked : (reason : Reason) (cause : Cause) → NamesStroke rule reason cause → Contains (causes_in place rule reason) cause
  stroke_marked (Stroke line_start start segment) cause is = subst (λ (found : Option Cause). Contains (option_to_list found) cause) (sym is) (alone cause cause refl)
  stroke_marked _ cause is = absurd is

  coordinate_marked : (reason : Reason) (cause : Cause) → NamesCoordinate reason cause → Contains (causes_in place rule reason) cause
  coordinate_marked (Beyond direction quarters number from to) cause is = alone (Coordinate direction (in_unit OnCurve number)) cause (sym is)
  coordinate_marked (Untouched stem step nearest) cause is =
      Contains-append_right (untouched_stem place.start stem ∷ []) (option_to_list (nearest_point stem.direction nearest)) cause
      (subst (λ (found : Option Cause). Contains (option_to_list found) cause) (sym is) (alone cause cause refl))
  coordinate_marked _ cause is = absurd is

  untouched_marked : (reason : Reason) (named : NamedStem) → NamesUntouched place.start reason named → Contains (causes_in place rule reason) (LeftAlone named)
  untouched_marked (Untouched stem step nearest) named is =
      Contains-append_left (untouched_stem place.start stem ∷ []) (option_to_list (nearest_point stem.direction nearest)) (LeftAlone named)
      (alone (untouched_stem place.start stem) (LeftAlone named) (sym is))
  untouched_marked _ named is = absurd is

  turns_marked : (reason : Reason) → NamesTurns reason → Contains (causes_in place rule reason) Turns
  turns_marked (Area twentyfold turns) is = alone Turns Turns refl
  turns_marked _ is = absurd is

  base_marked : (reason : Reason) → means_components rule ≡ true → NamesCodes reason → Contains (causes_in place rule reason) Base
  base_marked (Codes base accent) means is = rw means (Contains-append_left (Base ∷ []) (Accent ∷ []) Base (alone Base Base refl))
  base_marked _ means is = absurd is

  accent_marked : (reason : Reason) → means_components rule ≡ true → NamesCodes reason → Contains (causes_in place rule reason) Accent
  accent_marked (Codes base accent) means is = rw means (Contains-append_right (Base ∷ []) (Accent ∷ []) Accent (alone Accent Accent refl))
  accent_marked _ means is = absurd is

  sidebearing_marked : (reason : Reason) → NamesSidebearings reason → Contains (causes_in place rule reason) Accent
  sidebearing_marked (Sidebearings told own) is = alone Accent Accent refl
  sidebearing_marked _ is = absurd is

  marked : (reason : Reason) (cause : Cause) → IsNamed place rule reason cause → Contains (causes_in place rule reason) cause
  marked reason (NamedOne stem) is =
      stem_marked reason stem.role is.stem (NamedOne stem) is.names
      (rw is.lies (alone (named_stem place.edition place.start stem.role is.stem is.direction) (NamedOne stem) (sym is.drawn)))
  marked reason (Zone zone) is = zone_marked reason zone is
  marked reason (Missed point pen) is = subst (λ r. Contains (causes_in place rule r) (Missed point pen)) (sym is) (alone (Missed point pen) (Missed point pen) refl)
  marked reason (Ends start pen) is = subst (λ r. Contains (causes_in place rule r) (Ends start pen)) (sym is) (alone (Ends start pen) (Ends start pen) refl)
  marked reason (OutsideBox point box) is = subst (λ r. Contains (causes_in place rule r) (OutsideBox point box)) (sym is) (alone (OutsideBox point box) (OutsideBox point box) refl)
  marked reason (DrawnStroke before start segment) is = stroke_marked reason (DrawnStroke before start segment) is
  marked reason (Coordinate direction coordinate) is = coordinate_marked reason (Coordinate direction coordinate) is
  marked reason (LeftAlone stem) is = untouched_marked reason stem is
  marked reason Turns is = turns_marked reason is
  marked reason Base is = base_marked reason is.0 is.1
  marked reason Accent (inl is) = accent_marked reason is.0 is.1
  marked reason Accent (inr is) = sidebearing_marked reason is

-- ---- a fault

module _ (s : Subject) (fault : FaultValue) (cause : Cause) where
  abbrev place_in : StemPlace
  place_in = place_of_stems s fault

  of_reason : (found : Option Reason) → reason_of s fault ≡ found → Contains (causes_of_reason place_in fault.rule found) cause → IsOfFault s fault cause
  of_reason None told some = none_in cause some
  of_reason (Some reason) told some = by_reason reason told (named place_in fault.rule reason cause some)

  of_zone : (b : Bool) → (fault.unit == 0) ≡ b → Contains (if b then option_to_list (zone_at s.font fault.step) else []) cause → IsOfFault s fault cause
  of_zone false font some = none_in cause some
  of_zone true font some = go (zone_at s.font fault.step) refl some
    where
      go : (zone : Option Cause) → zone_at s.font fault.step ≡ zone → Contains (option_to_list zone) cause → IsOfFault s fault cause
      go None at some = none_in cause some
      go (Some zone) at some = by_place font (at ∙ ap (λ c. Some c) (one_is zone cause some))

  of_fault : Contains (causes_of s fault) cause → IsOfFault s fault cause
  of_fault some = elim (Contains-append_cases (zone_of s fault) (causes_of_reason place_in fault.rule (reason_of s fault)) cause some) [
    | inl here ↦ of_zone (fault.unit == 0) refl here
    | inr here ↦ of_reason (reason_of s fault) refl here
  ]

  marked_of : IsOfFault s fault cause → Contains (causes_of s fault) cause
  marked_of (by_reason reason told is) =
      Contains-append_right (zone_of s fault) (causes_of_reason place_in fault.rule (reason_of s fault)) cause
      (subst (λ found. Contains (causes_of_reason place_in fault.rule found) cause) (sym told) (marked place_in fault.rule reason cause is))
  marked_of (by_place font at) =
      Contains-append_left (zone_of s fault) (causes_of_reason place_in fault.rule (reason_of s fault)) cause (rw (font, at) (alone cause cause refl))

-- ---- all faults that are shown

pub marks_are_of_faults : MarksAreOfFaults
marks_are_of_faults s faults all cause = go s.shown
  where
    several : Contains (all_causes s (shown_of s faults)) cause ↔ ((fault : FaultValue) × (Contains (shown_of s faults) fault × IsOfFault s fault cause))
    several = (
      λ some. let found = from_flat (causes_of s) (shown_of s faults) cause some in (found.0, (found.1.0, of_fault s found.0 cause found.1.1)),
      λ found. to_flat (causes_of s) (shown_of s faults) found.0 cause found.1.0 (marked_of s found.0 cause found.1.1),
    )

    go : (shown : ShownValue)
        → Contains (faults_by shown s faults all).causes cause ↔ ((fault : FaultValue) × (IsShownOf shown s faults fault × IsOfFault s fault cause))
    go (one_fault fault) = (
      λ some. (fault, (refl, of_fault s fault cause some)),
      λ found. subst (λ f. Contains (causes_of s f) cause) found.1.0 (marked_of s found.0 cause found.1.1),
    )
    go everything = several
    go (up_to step) = several
