-- Laws of stems and hint sets.
use Rattle.std.specs.Prelude.{◌≡◌, ℕ, ℤ, neg_ℤ, ◌+ℤ◌, ◌-ℤ◌, ◌≤◌, ◌≤ℤ◌, ◌<ℤ◌, ◌↔◌, Bool, true, false, List, [], ◌∷◌, ◌++◌, length, take}
use Rattle.t1_char.specs.declared.command.Command.{Command as Commands}
use Rattle.t1_char.specs.declared.command.Command.TheVariants.{Hstem, Hstem3, Vstem, Vstem3}
use Rattle.t1_char.specs.declared.edition.Edition.{Edition}
use Rattle.t1_char.specs.Arguments.{argument, is_hint_replacement}
use Rattle.t1_char.specs.Steps.{StepView}
use Rattle.t1_rules.specs.declared.rule.Rule.TheVariants.{H04}
use Rattle.t1_rules.specs.declared.step_rules.stems.Stem.{Stem}
use Rattle.t1_rules.specs.Laws.StepRules.{violates}
use Rattle.t1_rules.specs.StepRules.Stems.{hint_set, lies_across, lower, overlap, stands_upright, upper, most_stems}
use Rattle.t1_rules.specs.StepRules.Tokens.{IsCommand}

-- A place lies in a stem: from the lower edge on, and below the upper one; in units of 1/65536.
pub record LiesIn (stem : Stem) (place : ℤ) : Type 0 where
  pub from : lower stem ≤ℤ place
  pub below : place <ℤ upper stem

pub record ShareAPlace (one other : Stem) : Type 0 where
  pub place : ℤ
  pub in_one : LiesIn one place
  pub in_other : LiesIn other place

-- Two stems overlap exactly where they share such a place.
abbrev pub StemsOverlapWhereTheyShareAPlace : Type 0
StemsOverlapWhereTheyShareAPlace = (one other : Stem) → (overlap one other ≡ true) ↔ ShareAPlace one other

abbrev pub OverlapIsMutual : Type 0
OverlapIsMutual = (one other : Stem) → overlap one other ≡ overlap other one

-- The same stem from its other edge: the width's sign has no say.
abbrev pub from_other_edge : Stem → Stem
from_other_edge stem = record { position = stem.position +ℤ stem.width; width = neg_ℤ stem.width }

abbrev pub SignsHaveNoSay : Type 0
SignsHaveNoSay = (one other : Stem) → overlap (from_other_edge one) other ≡ overlap one other

-- A hint replacement empties the hint sets, and they never have more than 96 stems.
abbrev pub ReplacementsEmptyHintSets : Type 0
ReplacementsEmptyHintSets =
    (direction : Commands → Bool) (before : List StepView) (step : StepView) →
    is_hint_replacement step ≡ true → hint_set direction (before ++ step ∷ []) ≡ []

abbrev pub HintSetsAreBounded : Type 0
HintSetsAreBounded = (direction : Commands → Bool) (before : List StepView) → length (hint_set direction before) ≤ most_stems

-- The commands of a direction: that of one stem, and that of three.
pub data AreOf : (Commands → Bool) → Commands → Commands → Type 0 where
  across : AreOf lies_across Hstem Hstem3
  upright : AreOf stands_upright Vstem Vstem3

-- The stem of the arguments at two places.
abbrev pub stem : List ℤ → ℕ → ℕ → Stem
stem stack position width = record { position = argument stack position; width = argument stack width }

-- A hint set grows by the stem of a command, or by its three, up to 96; other commands leave it as it is.
abbrev pub OneStemIsKept : Type 0
OneStemIsKept =
    (direction : Commands → Bool) (one three : Commands) (before : List StepView) (step : StepView) →
    AreOf direction one three → IsCommand step one →
    hint_set direction (before ++ step ∷ []) ≡ take most_stems (hint_set direction before ++ stem step.stack 0 1 ∷ [])

abbrev pub ThreeStemsAreKept : Type 0
ThreeStemsAreKept =
    (direction : Commands → Bool) (one three : Commands) (before : List StepView) (step : StepView) →
    AreOf direction one three → IsCommand step three →
    hint_set direction (before ++ step ∷ [])
    ≡ take most_stems (hint_set direction before ++ stem step.stack 0 1 ∷ stem step.stack 2 3 ∷ stem step.stack 4 5 ∷ [])

abbrev pub OthersLeaveHintSets : Type 0
OthersLeaveHintSets =
    (direction : Commands → Bool) (one three : Commands) (before : List StepView) (step : StepView) →
    AreOf direction one three → (IsCommand step one → ⊥) → (IsCommand step three → ⊥) →
    is_hint_replacement step ≡ false → hint_set direction (before ++ step ∷ []) ≡ hint_set direction before

-- The space between a stem and the next one.
abbrev pub gap : Stem → Stem → ℤ
gap one other = other.position -ℤ (one.position +ℤ one.width)

-- The outer two of three stems are equally wide, and the gaps between them and the middle one too.
pub record AreEven (one two three : Stem) : Type 0 where
  pub widths : one.width ≡ three.width
  pub gaps : gap one two ≡ gap two three

-- hstem3 and vstem3 break no H04 exactly where their stems are so; other commands never break it.
abbrev pub ThreeStemsAreEven : Type 0
ThreeStemsAreEven =
    (direction : Commands → Bool) (one three : Commands) (edition : Edition) (before : List StepView) (step : StepView) →
    AreOf direction one three → IsCommand step three →
    (violates edition H04 before step ≡ false)
    ↔ AreEven (stem step.stack 0 1) (stem step.stack 2 3) (stem step.stack 4 5)

abbrev pub OthersAreNotUneven : Type 0
OthersAreNotUneven =
    (edition : Edition) (before : List StepView) (step : StepView) →
    (IsCommand step Hstem3 → ⊥) → (IsCommand step Vstem3 → ⊥) → violates edition H04 before step ≡ false
