-- Laws of flex and the current point.
use Rattle.std.specs.Prelude.{◌≡◌, ℕ, ℤ, ◌+◌, ◌<◌, ◌↔◌, pos, Bool, true, false, List, [], ◌∷◌, ◌++◌, length}
use Rattle.t1_char.specs.declared.command.Command.TheVariants.{Closepath, Hlineto, Hmoveto, Hsbw, Hvcurveto, Pop, Rlineto, Rmoveto, Rrcurveto, Sbw, Setcurrentpoint, Vhcurveto, Vlineto, Vmoveto}
use Rattle.t1_char.specs.Arguments.{argument, is_callothersubr, is_flex_end, is_flex_point, is_flex_start}
use Rattle.t1_char.specs.declared.edition.Edition.{Edition}
use Rattle.t1_char.specs.Steps.{StepView}
use Rattle.t1_rules.specs.declared.rule.Rule.TheVariants.{X04, X06}
use Rattle.t1_rules.specs.Book.{number_of}
use Rattle.t1_rules.specs.Laws.StepRules.{violates}
use Rattle.t1_rules.specs.StepRules.{step_rules, breaks_at}
use Rattle.t1_rules.specs.StepRules.Flex.{at, current_point, displacement, moved_by, plus}
use Rattle.t1_rules.specs.StepRules.Paths.{in_flex}
use Rattle.t1_rules.specs.StepRules.Tokens.{is_move, sets_point, IsCommand}

-- A start leaves one in flex, and an end doesn't.
abbrev pub StartsLeadIntoFlex : Type 0
StartsLeadIntoFlex =
    (before : List StepView) (step : StepView) →
    is_flex_start step ≡ true → in_flex (before ++ step ∷ []) ≡ true

abbrev pub EndsLeadOutOfFlex : Type 0
EndsLeadOutOfFlex =
    (before : List StepView) (step : StepView) →
    is_flex_end step ≡ true → in_flex (before ++ step ∷ []) ≡ false

-- The current point after a step: where hsbw puts it; a step that doesn't set it moves it on by its
-- displacement, and closepath leaves it.
abbrev pub WidthsSetThePoint : Type 0
WidthsSetThePoint =
    (before : List StepView) (step : StepView) → IsCommand step Hsbw →
    current_point (before ++ step ∷ []) ≡ at (argument step.stack 0) (pos 0)

abbrev pub StepsMoveThePoint : Type 0
StepsMoveThePoint =
    (before : List StepView) (step : StepView) → sets_point step.token ≡ false →
    current_point (before ++ step ∷ []) ≡ plus (current_point before) (displacement step)

abbrev pub ClosepathLeavesThePoint : Type 0
ClosepathLeavesThePoint =
    (before : List StepView) (step : StepView) → IsCommand step Closepath →
    current_point (before ++ step ∷ []) ≡ current_point before

-- A step that is neither a move nor a call of an OtherSubr.
pub record IsBeside (step : StepView) : Type 0 where
  pub no_move : is_move step.token ≡ false
  pub no_call : is_callothersubr step.token ≡ false

-- So many pairs of a move and a point of a flex, with other steps between; and whether a move more has
-- come, without its point.
pub data ArePairs : ℕ → Bool → List StepView → Type 0 where
  nothing : ArePairs 0 false []
  and_beside : (n : ℕ) (is_half : Bool) (steps : List StepView) (step : StepView) →
      ArePairs n is_half steps → IsBeside step → ArePairs n is_half (steps ++ step ∷ [])
  and_move : (n : ℕ) (steps : List StepView) (step : StepView) →
      ArePairs n false steps → is_move step.token ≡ true → ArePairs n true (steps ++ step ∷ [])
  and_point : (n : ℕ) (steps : List StepView) (step : StepView) →
      ArePairs n true steps → is_flex_point step ≡ true → ArePairs (n + 1) false (steps ++ step ∷ [])

-- Seven pairs after a start, and then an end, break no X04, whatever came before.
abbrev pub SevenPairsAreAFlex : Type 0
SevenPairsAreAFlex =
    (edition : Edition) (before pairs : List StepView) (start end : StepView) →
    is_flex_start start ≡ true → ArePairs 7 false pairs → is_flex_end end ≡ true →
    (place : ℕ) → length before < place → place < length before + length pairs + 2 →
    breaks_at (step_rules edition) (number_of X04) (((before ++ start ∷ []) ++ pairs) ++ end ∷ []) place ≡ false

-- After another number of pairs, or with a move whose point hasn't come, the end breaks it.
abbrev pub OtherCountsAreNoFlex : Type 0
OtherCountsAreNoFlex =
    (edition : Edition) (before pairs : List StepView) (start end : StepView) (n : ℕ) (is_half : Bool) →
    is_flex_start start ≡ true → ArePairs n is_half pairs → is_flex_end end ≡ true → (n ≡ 7 → is_half ≡ true) →
    violates edition X04 ((before ++ start ∷ []) ++ pairs) end ≡ true

-- The current point is (0, 0) before the first step, and where sbw and setcurrentpoint put it.
abbrev pub GlyphsBeginAtTheOrigin : Type 0
GlyphsBeginAtTheOrigin = current_point [] ≡ at (pos 0) (pos 0)

abbrev pub VectorsPutThePoint : Type 0
VectorsPutThePoint =
    (before : List StepView) (step : StepView) → IsCommand step Sbw →
    current_point (before ++ step ∷ []) ≡ at (argument step.stack 0) (argument step.stack 1)

abbrev pub SetcurrentpointPutsThePoint : Type 0
SetcurrentpointPutsThePoint =
    (before : List StepView) (step : StepView) → IsCommand step Setcurrentpoint →
    current_point (before ++ step ∷ []) ≡ at (argument step.stack 0) (argument step.stack 1)

-- Each short form leads as far as its full form in the standard. Type 1 Font Format, 6.4.
pub record LeadAsFar (a b c d : ℤ) : Type 0 where
  pub hmoveto : moved_by Hmoveto (a ∷ []) ≡ moved_by Rmoveto (a ∷ pos 0 ∷ [])
  pub vmoveto : moved_by Vmoveto (a ∷ []) ≡ moved_by Rmoveto (pos 0 ∷ a ∷ [])
  pub hlineto : moved_by Hlineto (a ∷ []) ≡ moved_by Rlineto (a ∷ pos 0 ∷ [])
  pub vlineto : moved_by Vlineto (a ∷ []) ≡ moved_by Rlineto (pos 0 ∷ a ∷ [])
  pub vhcurveto :
      moved_by Vhcurveto (a ∷ b ∷ c ∷ d ∷ []) ≡ moved_by Rrcurveto (pos 0 ∷ a ∷ b ∷ c ∷ d ∷ pos 0 ∷ [])
  pub hvcurveto :
      moved_by Hvcurveto (a ∷ b ∷ c ∷ d ∷ []) ≡ moved_by Rrcurveto (a ∷ pos 0 ∷ b ∷ c ∷ pos 0 ∷ d ∷ [])

abbrev pub ShortFormsLeadAsFar : Type 0
ShortFormsLeadAsFar = (a b c d : ℤ) → LeadAsFar a b c d

-- The last steps are the end of a flex and two pops.
pub record FollowsFlex (before : List StepView) : Type 0 where
  pub front : List StepView
  pub end : StepView
  pub first : StepView
  pub second : StepView
  pub ends : before ≡ front ++ end ∷ first ∷ second ∷ []
  pub is_end : is_flex_end end ≡ true
  pub first_pops : IsCommand first Pop
  pub second_pops : IsCommand second Pop

-- setcurrentpoint breaks X06 exactly where it doesn't follow them; nothing else breaks it.
abbrev pub SetcurrentpointFollowsFlex : Type 0
SetcurrentpointFollowsFlex =
    (edition : Edition) (before : List StepView) (step : StepView) → IsCommand step Setcurrentpoint →
    (violates edition X06 before step ≡ false) ↔ FollowsFlex before

abbrev pub SetcurrentpointAloneFollows : Type 0
SetcurrentpointAloneFollows =
    (edition : Edition) (before : List StepView) (step : StepView) →
    (IsCommand step Setcurrentpoint → ⊥) → violates edition X06 before step ≡ false
