-- Subpaths of whole glyphs, and the rules on paths, P01 and P02.
use Rattle.std.specs.Prelude.{◌≡◌, ℕ, ◌+◌, ◌≤◌, ◌&&◌, not, Bool, true, false, List, [], ◌∷◌, ◌++◌, length, take}
use Rattle.t1_char.specs.declared.edition.Edition.{Edition}
use Rattle.t1_char.specs.Editions.{limit_of}
use Rattle.t1_char.specs.Steps.{StepView, steps_of}
use Rattle.t1_font.specs.Fonts.{FontValue}
use Rattle.t1_outline.specs.Laws.Paths.{is_opening, open_behind}
use Rattle.t1_outline.specs.Outlines.{DrawnView, outline_of}
use Rattle.t1_rules.specs.declared.rule.Rule.{Rule}
use Rattle.t1_rules.specs.declared.rule.Rule.TheVariants.{P01, P02}
use Rattle.t1_rules.specs.Laws.StepRules.{violates}
use Rattle.t1_rules.specs.StepRules.Paths.{outer_move}

-- None of the steps breaks the rule.
abbrev pub NoneViolates : Edition → Rule → List StepView → Type 0
NoneViolates edition rule steps =
    (front rest : List StepView) (step : StepView) → steps ≡ front ++ step ∷ rest → violates edition rule front step ≡ false

-- Each subpath that draws is closed: where the next one begins, and at the end, no line and no curve is open.
abbrev pub each_is_closed : Bool → List DrawnView → Bool
each_is_closed is [] = not is
each_is_closed is (d ∷ ds) = not (is_opening d.segment && is) && each_is_closed (open_behind is d.segment) ds

-- So it is in a glyph without P02 that ends within the limit.
abbrev pub GlyphsAreClosed : Type 0
GlyphsAreClosed =
    (edition : Edition) (font : FontValue) (glyph : ℕ) → length (steps_of font glyph) ≤ limit_of edition →
    NoneViolates edition P02 (steps_of font glyph) → each_is_closed false (outline_of edition font glyph) ≡ true

-- The step of a number, counted from 1, is a move outside flex.
pub record IsOuterMove (steps : List StepView) (number : ℕ) : Type 0 where
  pub front : List StepView
  pub step : StepView
  pub rest : List StepView
  pub are : steps ≡ front ++ step ∷ rest
  pub number_is : number ≡ length front + 1
  pub moves : outer_move front step ≡ true

-- What begins a subpath is drawn by such a step.
abbrev pub BeginAtMoves : List StepView → List DrawnView → Type 0
BeginAtMoves steps [] = Unit {0}
BeginAtMoves steps (d ∷ ds) = (is_opening d.segment ≡ true → IsOuterMove steps d.step) × BeginAtMoves steps ds

-- So it is in a glyph without P01.
abbrev pub GlyphsBeginAtMoves : Type 0
GlyphsBeginAtMoves =
    (edition : Edition) (font : FontValue) (glyph : ℕ) →
    NoneViolates edition P01 (take (limit_of edition) (steps_of font glyph)) →
    BeginAtMoves (take (limit_of edition) (steps_of font glyph)) (outline_of edition font glyph)
