-- What a pen keeps, one step further, and what it draws by that.
use Rattle.std.proofs.Common.{◌≡◌, ◌&&◌, ◌||◌, not, if◌then◌else◌, Bool, true, false, List, [], ◌∷◌, ◌++◌, take, refl, sym, ap, ◌∙◌}
use Rattle.t1_char.specs.Arguments.{is_flex_start}
use Rattle.t1_char.specs.Steps.{StepView}
use Rattle.t1_char.proofs.LookingBack.{since_goes_on}
use Rattle.t1_outline.specs.declared.flex_run.FlexRun.{FlexRun}
use Rattle.t1_outline.specs.declared.nib.Around.{Around}
use Rattle.t1_outline.specs.declared.segment.Segment.{Segment}
use Rattle.t1_outline.specs.declared.segment.Segment.TheVariants.{Move}
use Rattle.t1_outline.specs.Nibs.{IsAround}
use Rattle.t1_outline.specs.Outlines.{draws_flex, drawn, drawn_by, flex_curves, flex_places, has_subpath, is_spoiled, makes_subpath, stroke}
use Rattle.t1_outline.specs.Private.Standing.{FlexRunStandsFor}
use Rattle.t1_outline.specs.Private.Drawing.{drawn_in, makes_subpath_in, places_kept}
use Rattle.t1_outline.proofs.Flexes.{curves_kept, kept_is, places_go_on, spoiled_goes_on}
use Rattle.t1_rules.specs.StepRules.Flex.{current_point}
use Rattle.t1_rules.specs.StepRules.Paths.{closing_step, in_flex, outer_move}
use Rattle.t1_rules.specs.StepRules.Tokens.{closes}

-- What a flex keeps after a step.
pub record KeepsFlex (old new : FlexRun) (t : StepView) (around : Around) : Type 0 where
  pub places : new.places.items ≡ places_kept old.places.items around.start t
  pub spoiled : new.spoiled ≡ (around.spoils_flex || (old.spoiled && not (is_flex_start t && not around.is_in_flex)))

pub flex_run_on : (old new : FlexRun) (before : List StepView) (t : StepView) (around : Around) → FlexRunStandsFor old before
    → IsAround before t around → KeepsFlex old new t around → FlexRunStandsFor new (before ++ t ∷ [])
flex_run_on old new before t around st is keeps = record {
  places = keeps.places ∙ rw (st.places, is.start, kept_is (flex_places before) before t) (ap (take 8) (sym (places_go_on before t)));
  spoiled = keeps.spoiled ∙ rw (is.spoils, st.spoiled, is.inside) (sym (spoiled_goes_on before t));
}

pub subpath_on : (before : List StepView) (t : StepView) (old new inside spoiled : Bool)
    → inside ≡ in_flex before → spoiled ≡ is_spoiled (before ++ t ∷ []) → old ≡ has_subpath before
    → new ≡ (makes_subpath_in t inside spoiled || (old && not (closes t.token)))
    → new ≡ has_subpath (before ++ t ∷ [])
subpath_on before t old new inside spoiled is_inside is_spoiled_so is_there is =
    is ∙ rw (is_inside, is_spoiled_so, is_there) (sym (since_goes_on makes_subpath closing_step before t))

-- What it draws by what it keeps is what the step draws.
pub draws : (before : List StepView) (t : StepView) → drawn_in t (current_point before) (current_point (before ++ t ∷ [])) (in_flex before)
    (is_spoiled (before ++ t ∷ [])) (take 8 (flex_places (before ++ t ∷ []))) (has_subpath before) ≡ drawn before t
draws before t = go (outer_move before t) (draws_flex before t) refl
  where
    rest : List Segment
    rest = drawn_by (has_subpath before) (current_point before) (closes t.token) (stroke (current_point before) t)

    go : (moves flexes : Bool) → draws_flex before t ≡ flexes
        → (if moves then Move (current_point (before ++ t ∷ [])) ∷ []
        else (if flexes then flex_curves (has_subpath before) (take 8 (flex_places (before ++ t ∷ []))) else rest))
        ≡ (if moves then Move (current_point (before ++ t ∷ [])) ∷ []
        else (if flexes then flex_curves (has_subpath before) (flex_places before) else rest))
    go true flexes e = refl
    go false true e = curves_kept (has_subpath before) before t e
    go false false e = refl
