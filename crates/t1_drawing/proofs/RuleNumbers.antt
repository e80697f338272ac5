-- The numbers of the rules on the drawing.
use Rattle.std.proofs.Common.{◌≡◌, true, Option, refl}
use Rattle.t1_drawing.specs.declared.font_box.FontBox.{FontBox}
use Rattle.t1_drawing.specs.DrawingRules.{drawing_rules}
use Rattle.t1_drawing.specs.RuleLaws.{DrawingRuleNumbersAreInOrder, DrawingRulesComeLast}
use Rattle.t1_rules.specs.Book.{last_number}
use Rattle.t1_rules.proofs.Lemmas.StepRules.{number_between, numbers_between}

pub numbers_are_in_order : DrawingRuleNumbersAreInOrder
unfolding drawing_rules
numbers_are_in_order box = refl

all_between : (box : Option FontBox) → numbers_between 102 last_number (drawing_rules box) ≡ true
unfolding drawing_rules
all_between box = refl

pub drawing_rules_come_last : DrawingRulesComeLast
drawing_rules_come_last box n before step broken = number_between 102 last_number (drawing_rules box) (all_between box) n before step broken
