-- Components of accented characters, step by step and code by code.
use Rattle.std.proofs.Common.{◌≡◌, ℕ, ◌==◌, ◌||◌, if◌then◌else◌, Bool, true, false, Some, is_some, List, [], ◌∷◌, ◌++◌, drop, length, take, refl, sym, ap, ◌∙◌, arith}
use Rattle.std.specs.List.{list_any}
use Rattle.std.proofs.lemmas.Bool.{or_parts}
use Rattle.std.proofs.lemmas.List.{take-append-drop}
use Rattle.std.proofs.lemmas.List.Folds.{list_any-append}
use Rattle.t1_char.specs.declared.command.Command.TheVariants.{Seac}
use Rattle.t1_char.specs.declared.token.CharToken.{CharToken}
use Rattle.t1_char.specs.declared.token.CharToken.TheVariants.{Command}
use Rattle.t1_char.specs.Seacs.{is_seac as has_it, step_is_seac, is_seac}
use Rattle.t1_char.specs.Arguments.{argument}
use Rattle.t1_char.specs.Steps.{StepView}
use Rattle.t1_font.specs.Fonts.{FontValue}
use Rattle.t1_rules.specs.declared.sidebearings.Component.{Component}
use Rattle.t1_rules.specs.Components.{component_in, component_named, component_of_glyph, glyph_named, first_sidebearing, is_seac_step}
use Rattle.t1_rules.specs.StepRules.Tokens.{sets_width}
use Rattle.t1_rules.specs.Private.Seac.{sidebearing_with, with_step}

-- One step more of a component.
pub component_goes_on : (steps : List StepView) (t : StepView) → component_in (steps ++ t ∷ []) ≡ with_step (component_in steps) t
component_goes_on steps t = rw (first_on steps t, any_on steps t) refl
  where
    any_on : (steps : List StepView) (t : StepView) → list_any is_seac_step (steps ++ t ∷ []) ≡ (list_any is_seac_step steps || is_seac_step t)
    any_on [] t = grind arith
    any_on (s ∷ ss) t = grind (arith, any_on ss t)

    first_on : (steps : List StepView) (t : StepView) → first_sidebearing (steps ++ t ∷ []) ≡ sidebearing_with (first_sidebearing steps) t
    first_on [] t = refl
    first_on (s ∷ ss) t = go (sets_width s.token) (first_on ss t)
      where
        go : (b : Bool) → first_sidebearing (ss ++ t ∷ []) ≡ sidebearing_with (first_sidebearing ss) t
            → (if b then Some (argument s.stack 0) else first_sidebearing (ss ++ t ∷ [])) ≡ sidebearing_with
            (if b then Some (argument s.stack 0) else first_sidebearing ss) t
        go true rest = refl
        go false rest = rest

-- A name that has letters.
pub named_by_letters : (limit : ℕ) (font : FontValue) (name : List ℕ) → (length name == 0) ≡ false → component_named limit font name ≡ component_of_glyph
    limit font (glyph_named font name)
named_by_letters limit font [] letters = let no : true ≡ false = letters in cc
named_by_letters limit font (c ∷ cs) letters = refl

-- Where no step is a seac, the first sidebearing is all.
pub component_known : (limit : ℕ) (all : List StepView) (k : ℕ) (known : Component) → list_any step_is_seac all ≡ false
    → known ≡ component_in (take k (take limit all)) → is_some known.sidebearing ≡ true → known ≡ component_in (take limit all)
component_known limit all k known none is some =
    let steps : List StepView = take limit all in
    let lack : list_any is_seac_step steps ≡ false = any_take limit all (same_test all ∙ none) in
    let first : first_sidebearing (take k steps) ≡ first_sidebearing steps =
    sym (first_front (take k steps) (drop k steps) (ap (λ c. is_some c.sidebearing) (sym is) ∙ some)) ∙ ap first_sidebearing (take-append-drop k steps) in
    is ∙ rw (first, any_take k steps lack, lack) refl
  where
    same_token : (t : CharToken) → is_seac t ≡ has_it t
    same_token (Command Seac) = refl
    same_token _ = refl

    same_test : (steps : List StepView) → list_any is_seac_step steps ≡ list_any step_is_seac steps
    same_test [] = refl
    same_test (s ∷ ss) = rw (same_token s.token, same_test ss) refl

    any_take : (k : ℕ) (steps : List StepView) → list_any is_seac_step steps ≡ false → list_any is_seac_step (take k steps) ≡ false
    any_take k steps none = (or_parts _ _ (sym (list_any-append is_seac_step (take k steps) (drop k steps))
        ∙ ap (list_any is_seac_step) (take-append-drop k steps) ∙ none)).0

    first_front : (front back : List StepView) → is_some (first_sidebearing front) ≡ true → first_sidebearing (front ++ back) ≡ first_sidebearing front
    first_front [] back some = let bad : false ≡ true = some in cc
    first_front (s ∷ front) back some = by_width (sets_width s.token) some (first_front front back)
      where
        by_width : (b : Bool) → is_some (if b then Some (argument s.stack 0) else first_sidebearing front) ≡ true
            → (is_some (first_sidebearing front) ≡ true → first_sidebearing (front ++ back) ≡ first_sidebearing front)
            → (if b then Some (argument s.stack 0) else first_sidebearing (front ++ back)) ≡ (if b then Some (argument s.stack 0) else first_sidebearing front)
        by_width true some rest = refl
        by_width false some rest = rest some
