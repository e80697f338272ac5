-- Laws of the two editions: what the second has of its own, and where both agree.
use Rattle.std.specs.Prelude.{◌≡◌, ℕ, ◌<◌, ◌≤◌, ◌||◌, Bool, true, false, Some, List, [], ◌∷◌, ◌++◌, length, take}
use Rattle.std.specs.List.{list_any}
use Rattle.t1_char.specs.declared.command.Command.{Command as Commands}
use Rattle.t1_char.specs.declared.edition.Edition.{Edition}
use Rattle.t1_char.specs.declared.edition.Edition.TheVariants.{One, Two}
use Rattle.t1_char.specs.Arguments.{is_hint_replacement}
use Rattle.t1_char.specs.Editions.{limit_of}
use Rattle.t1_char.specs.Steps.{StepView, steps_of}
use Rattle.t1_font.specs.Fonts.{FontValue}
use Rattle.t1_rules.specs.declared.rule.Rule.TheVariants.{H02, K04, K05, K07}
use Rattle.t1_rules.specs.declared.step_rules.stems.Stem.{Stem}
use Rattle.t1_rules.specs.Book.{number_of}
use Rattle.t1_rules.specs.Components.{components_of, glyph_named}
use Rattle.t1_rules.specs.StandardEncoding.{standard_name}
use Rattle.t1_rules.specs.StepRules.{StepRule, breaks, charstring_rules, step_rules}
use Rattle.t1_rules.specs.StepRules.Stems.{has_one_edge, hint_set, lies_across, overlap_by, stands_upright, stems_in, stems_of, most_stems}
use Rattle.t1_rules.specs.StepRules.Tokens.{is_command}

-- ---- stems of one edge

-- In each edition it has no say which of two stems is named first.
abbrev pub OverlapByIsMutual : Type 0
OverlapByIsMutual = (edition : Edition) (one other : Stem) → overlap_by edition one other ≡ overlap_by edition other one

-- In the second edition a stem of one edge overlaps nothing, and other stems overlap as in the first.
abbrev pub OneEdgeOverlapsNothing : Type 0
OneEdgeOverlapsNothing = (one other : Stem) → has_one_edge one ≡ true → overlap_by Two one other ≡ false

abbrev pub OtherStemsOverlapAsBefore : Type 0
OtherStemsOverlapAsBefore =
    (one other : Stem) → (has_one_edge one || has_one_edge other) ≡ false →
    overlap_by Two one other ≡ overlap_by One one other

-- The stems of a step are kept whatever their widths, of one edge too, while there is room for 96.
abbrev pub StemsAreKept : Type 0
StemsAreKept =
    (direction : Commands → Bool) (before : List StepView) (step : StepView) →
    is_hint_replacement step ≡ false → is_command direction step.token ≡ true →
    hint_set direction (before ++ step ∷ []) ≡ take most_stems (hint_set direction before ++ stems_of step)

-- A step sets a stem of one edge.
abbrev pub sets_one_edge : StepView → Bool
sets_one_edge step =
    list_any has_one_edge (stems_in lies_across step) || list_any has_one_edge (stems_in stands_upright step)

-- Where no step so far sets such a stem, a step breaks the same rules in both editions.
abbrev pub EditionsAgreeWithoutOneEdge : Type 0
EditionsAgreeWithoutOneEdge =
    (n : ℕ) (before : List StepView) (step : StepView) →
    list_any sets_one_edge before ≡ false → sets_one_edge step ≡ false →
    breaks (step_rules Two) n before step ≡ breaks (step_rules One) n before step

-- What a step breaks in the second edition it breaks in the first too, given the steps before.
abbrev pub SecondTellsNoMore : Type 0
SecondTellsNoMore =
    (n : ℕ) (before : List StepView) (step : StepView) →
    breaks (step_rules Two) n before step ≡ true → breaks (step_rules One) n before step ≡ true

-- ---- all rules on steps

-- The rules on steps of a font's glyphs.
abbrev pub rules_in : Edition → FontValue → List StepRule
rules_in edition font = charstring_rules edition (components_of (limit_of edition) font)

-- Each step of a font breaks the same rules in both editions, but for the overlap of stems, and for what
-- components have.
abbrev pub EditionsAgreeOnOtherRules : Type 0
EditionsAgreeOnOtherRules =
    (font : FontValue) (n : ℕ) (before : List StepView) (step : StepView) →
    (n ≡ number_of H02 → ⊥) → (n ≡ number_of K04 → ⊥) → (n ≡ number_of K05 → ⊥) → (n ≡ number_of K07 → ⊥) →
    breaks (rules_in Two font) n before step ≡ breaks (rules_in One font) n before step

-- No glyph that StandardEncoding names has more steps than the first edition looks at.
abbrev pub HasShortComponents : FontValue → Type 0
HasShortComponents font =
    (code glyph : ℕ) → 0 < length (standard_name code) → glyph_named font (standard_name code) ≡ Some glyph →
    length (steps_of font glyph) ≤ limit_of One

-- In such a font the overlap of stems alone can differ.
abbrev pub EditionsAgreeOnShortComponents : Type 0
EditionsAgreeOnShortComponents =
    (font : FontValue) → HasShortComponents font → (n : ℕ) (before : List StepView) (step : StepView) →
    (n ≡ number_of H02 → ⊥) → breaks (rules_in Two font) n before step ≡ breaks (rules_in One font) n before step

-- So in such a font a step breaks no more in the second edition than in the first.
abbrev pub SecondTellsNoMoreInFonts : Type 0
SecondTellsNoMoreInFonts =
    (font : FontValue) → HasShortComponents font → (n : ℕ) (before : List StepView) (step : StepView) →
    breaks (rules_in Two font) n before step ≡ true → breaks (rules_in One font) n before step ≡ true

-- And nothing differs where no step so far sets a stem of one edge.
abbrev pub EditionsAgreeOnUsualSteps : Type 0
EditionsAgreeOnUsualSteps =
    (font : FontValue) → HasShortComponents font → (n : ℕ) (before : List StepView) (step : StepView) →
    list_any sets_one_edge before ≡ false → sets_one_edge step ≡ false →
    breaks (rules_in Two font) n before step ≡ breaks (rules_in One font) n before step
