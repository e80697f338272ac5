-- Laws of accented characters. Type 1 Font Format, chapter 6 (seac).
use Rattle.std.specs.Prelude.{◌≡◌, ◌≢◌, ℕ, ℤ, pos, ◌<◌, ◌↔◌, is_none, Bool, true, false, Some, None, List, [], ◌∷◌, ◌++◌, length, slice_get, take}
use Rattle.std.specs.List.{list_any}
use Rattle.t1_font.specs.Fonts.{FontValue}
use Rattle.t1_char.specs.declared.command.Command.TheVariants.{Seac}
use Rattle.t1_char.specs.declared.edition.Edition.{Edition}
use Rattle.t1_char.specs.Arguments.{argument}
use Rattle.t1_char.specs.Numbers.{units}
use Rattle.t1_char.specs.Steps.{StepView, steps_of}
use Rattle.t1_rules.specs.declared.rule.Rule.{Rule}
use Rattle.t1_rules.specs.declared.rule.Rule.TheVariants.{K01, K02, K03, K04, K05, K07}
use Rattle.t1_rules.specs.Book.{number_of}
use Rattle.t1_rules.specs.Components.{components_of, glyph_named}
use Rattle.t1_rules.specs.Laws.Othersubrs.{how_many}
use Rattle.t1_rules.specs.Laws.StepRules.{violates}
use Rattle.t1_rules.specs.StandardEncoding.{standard_name}
use Rattle.t1_rules.specs.StepRules.{breaks, component_rules}
use Rattle.t1_rules.specs.StepRules.Seac.{seac_code, is_named, is_unnamed}
use Rattle.t1_rules.specs.StepRules.Tokens.{sets_width, IsCommand}
use Rattle.t1_font.specs.Bounds.{code_count}

-- ---- codes

-- A number is a code exactly where it is a whole number from 0 to 255.
pub record IsCode (z : ℤ) (code : ℕ) : Type 0 where
  pub below : code < code_count
  pub whole : z ≡ units (pos code)

abbrev pub CodesAreWholeTo255 : Type 0
CodesAreWholeTo255 = (z : ℤ) (code : ℕ) → (seac_code z ≡ Some code) ↔ IsCode z code

-- An argument is exactly one of three: no code, one without a name, one with a name.
abbrev pub CodesAreOneOfThree : Type 0
CodesAreOneOfThree = (z : ℤ) →
    how_many (is_none (seac_code z) ∷ is_unnamed (seac_code z) ∷ is_named (seac_code z) ∷ []) ≡ 1

-- The arguments of seac that are codes, counted from 0: the base's and the accent's.
pub data IsCodePlace : ℕ → Type 0 where
  base : IsCodePlace 3
  accent : IsCodePlace 4

-- One of them is no code.
pub record HasNoCode (step : StepView) : Type 0 where
  pub place : ℕ
  pub is_place : IsCodePlace place
  pub none : (code : ℕ) → IsCode (argument step.stack place) code → ⊥

-- One of them is a code that has no name in StandardEncoding.
pub record HasUnnamedCode (step : StepView) : Type 0 where
  pub place : ℕ
  pub is_place : IsCodePlace place
  pub code : ℕ
  pub is_code : IsCode (argument step.stack place) code
  pub unnamed : standard_name code ≡ []

-- seac breaks K01 and K02 exactly there, and no other command breaks one of them.
abbrev pub WrongCodesAreTold : Type 0
WrongCodesAreTold =
    (edition : Edition) (before : List StepView) (step : StepView) → IsCommand step Seac →
    (violates edition K01 before step ≡ true) ↔ HasNoCode step

abbrev pub UnnamedCodesAreTold : Type 0
UnnamedCodesAreTold =
    (edition : Edition) (before : List StepView) (step : StepView) → IsCommand step Seac →
    (violates edition K02 before step ≡ true) ↔ HasUnnamedCode step

pub record HasNoWrongCodes (edition : Edition) (before : List StepView) (step : StepView) : Type 0 where
  pub wrong : violates edition K01 before step ≡ false
  pub unnamed : violates edition K02 before step ≡ false

abbrev pub SeacAloneHasCodes : Type 0
SeacAloneHasCodes =
    (edition : Edition) (before : List StepView) (step : StepView) →
    (IsCommand step Seac → ⊥) → HasNoWrongCodes edition before step

-- ---- components

-- The argument at a place is the code of this name in StandardEncoding.
pub record Names (step : StepView) (place : ℕ) (name : List ℕ) : Type 0 where
  pub code : ℕ
  pub is_code : IsCode (argument step.stack place) code
  pub is_name : standard_name code ≡ name
  pub has_letters : 0 < length name

-- The glyph of the font that it names.
pub record NamesGlyph (font : FontValue) (step : StepView) (place glyph : ℕ) : Type 0 where
  pub name : List ℕ
  pub names : Names step place name
  pub found : glyph_named font name ≡ Some glyph

-- The steps of a glyph that are looked at.
abbrev pub looked_at : ℕ → FontValue → ℕ → List StepView
looked_at limit font glyph = take limit (steps_of font glyph)

abbrev pub is_width : StepView → Bool
is_width step = sets_width step.token

-- seac names a glyph that the font doesn't have.
pub record LacksComponent (font : FontValue) (step : StepView) : Type 0 where
  pub place : ℕ
  pub is_place : IsCodePlace place
  pub name : List ℕ
  pub names : Names step place name
  pub missing : glyph_named font name ≡ None

-- It names a glyph among whose steps is a seac.
pub record Nests (limit : ℕ) (font : FontValue) (step : StepView) : Type 0 where
  pub place : ℕ
  pub is_place : IsCodePlace place
  pub glyph : ℕ
  pub names : NamesGlyph font step place glyph
  pub at : ℕ
  pub seac : StepView
  pub there : slice_get (looked_at limit font glyph) at ≡ Some seac
  pub is_seac : IsCommand seac Seac

-- The first hsbw or sbw of the accent has another sidebearing than seac's first argument.
pub record DiffersInSidebearing (limit : ℕ) (font : FontValue) (step : StepView) : Type 0 where
  pub glyph : ℕ
  pub names : NamesGlyph font step 4 glyph
  pub front : List StepView
  pub width : StepView
  pub rest : List StepView
  pub steps : looked_at limit font glyph ≡ front ++ width ∷ rest
  pub first : list_any is_width front ≡ false
  pub sets : sets_width width.token ≡ true
  pub differs : argument width.stack 0 ≢ argument step.stack 0

-- It names a glyph without hsbw and sbw.
pub record LacksSidebearing (limit : ℕ) (font : FontValue) (step : StepView) : Type 0 where
  pub place : ℕ
  pub is_place : IsCodePlace place
  pub glyph : ℕ
  pub names : NamesGlyph font step place glyph
  pub none : list_any is_width (looked_at limit font glyph) ≡ false

-- seac breaks K03, K04, K05 and K07 exactly there, and no other command breaks one of them.
abbrev pub breaks_by_component : ℕ → FontValue → Rule → List StepView → StepView → Bool
breaks_by_component limit font rule before step =
    breaks (component_rules (components_of limit font)) (number_of rule) before step

abbrev pub MissingGlyphsAreTold : Type 0
MissingGlyphsAreTold =
    (limit : ℕ) (font : FontValue) (before : List StepView) (step : StepView) → IsCommand step Seac →
    (breaks_by_component limit font K03 before step ≡ true) ↔ LacksComponent font step

abbrev pub NestedSeacsAreTold : Type 0
NestedSeacsAreTold =
    (limit : ℕ) (font : FontValue) (before : List StepView) (step : StepView) → IsCommand step Seac →
    (breaks_by_component limit font K04 before step ≡ true) ↔ Nests limit font step

abbrev pub OtherSidebearingsAreTold : Type 0
OtherSidebearingsAreTold =
    (limit : ℕ) (font : FontValue) (before : List StepView) (step : StepView) → IsCommand step Seac →
    (breaks_by_component limit font K05 before step ≡ true) ↔ DiffersInSidebearing limit font step

abbrev pub MissingSidebearingsAreTold : Type 0
MissingSidebearingsAreTold =
    (limit : ℕ) (font : FontValue) (before : List StepView) (step : StepView) → IsCommand step Seac →
    (breaks_by_component limit font K07 before step ≡ true) ↔ LacksSidebearing limit font step

abbrev pub SeacAloneHasComponents : Type 0
SeacAloneHasComponents =
    (limit : ℕ) (font : FontValue) (rule : Rule) (before : List StepView) (step : StepView) →
    (IsCommand step Seac → ⊥) → breaks_by_component limit font rule before step ≡ false
