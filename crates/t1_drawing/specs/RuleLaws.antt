-- Laws of the table of rules on the drawing.
use Rattle.std.specs.Prelude.{◌≡◌, ℕ, ℤ, ◌≤◌, true, false, Option, List, map}
use Rattle.std.specs.List.{range_with_len}
use Rattle.t1_char.specs.declared.token.CharToken.TheVariants.{Number}
use Rattle.t1_char.specs.Steps.{StepView}
use Rattle.t1_drawing.specs.declared.font_box.FontBox.{FontBox}
use Rattle.t1_drawing.specs.DrawingRules.{drawing_rules}
use Rattle.t1_rules.specs.Book.{last_number, number_of}
use Rattle.t1_rules.specs.StepRules.{breaks}

-- The rows have the numbers from 102 to 112, in order and each once.
abbrev pub DrawingRuleNumbersAreInOrder : Type 0
DrawingRuleNumbersAreInOrder = (box : Option FontBox) → map (λ r. number_of r.rule) (drawing_rules box) ≡ range_with_len 102 11

-- What a step breaks of them has one of these numbers.
abbrev pub DrawingRulesComeLast : Type 0
DrawingRulesComeLast =
    (box : Option FontBox) (n : ℕ) (before : List StepView) (step : StepView) →
    breaks (drawing_rules box) n before step ≡ true → (102 ≤ n) × (n ≤ last_number)

-- A number breaks none of them.
abbrev pub NumbersDrawNothing : Type 0
NumbersDrawNothing =
    (before : List StepView) (step : StepView) (z : ℤ) → step.token ≡ Number z → (box : Option FontBox) (n : ℕ) →
    breaks (drawing_rules box) n before step ≡ false
