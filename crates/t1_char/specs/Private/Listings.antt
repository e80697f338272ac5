-- What a listing holds: the steps that were listed, the state after them, and the run of the tokens
-- that a cursor has left.
use Rattle.std.specs.Prelude.{◌≡◌, ◌≤◌, ◌-◌, List, [], ◌∷◌, ◌++◌, length, map}
use Rattle.t1_char.specs.declared.cursor.Cursor.{Cursor}
use Rattle.t1_char.specs.declared.expansion.Listing.{Listing}
use Rattle.t1_char.specs.declared.token.CharToken.{CharToken}
use Rattle.t1_char.specs.Effects.{State, Action, Effect, effect, most_calls, state_of}
use Rattle.t1_char.specs.Steps.{StepView, Run, expansion, step_at, effect_at}
use Rattle.t1_char.specs.Private.Cursors.{tokens_left, behind_token}
use Rattle.t1_char.specs.StepValues.{step_view}
use Rattle.t1_char.specs.Private.Steps.{AreNumbered, GoesOn}

abbrev pub steps_in : Listing → List StepView
steps_in listing = map step_view listing.steps.items

abbrev pub state_in : Listing → State
state_in listing = state_of listing.stack listing.waiting.items

abbrev pub run_from : Listing → Cursor → Run
run_from listing cursor =
    expansion listing.font.now (most_calls - length listing.path.items) listing.path.items
    (tokens_left cursor) (state_in listing)

-- The step and the effect of a token, which comes next.
abbrev pub step_taken : Listing → CharToken → Cursor → StepView
step_taken listing token behind =
    step_at listing.font.now listing.path.items token (behind_token token (tokens_left behind)) (state_in listing)

abbrev pub effect_taken : Listing → CharToken → Effect
effect_taken listing token = effect_at listing.font.now listing.path.items token (state_in listing)

-- What a listing has come to, from the one that it was begun with.
pub record IsListing (begun : Listing) (from : Cursor) (now : Listing) (left : Cursor) : Type 0 where
  pub goes_on : GoesOn (steps_in begun) (run_from begun from) (steps_in now) (run_from now left)
  pub room : length now.steps.items ≤ now.most
  pub numbered : AreNumbered now.steps.items
  pub path : now.path.items ≡ begun.path.items
  pub font : now.font.now ≡ begun.font.now
  pub most : now.most ≡ begun.most

-- The step of the next token was listed, and executed.
pub record Takes (old : Listing) (left : Cursor) (token : CharToken) (action : Action) (behind : Cursor) (new : Listing)
    : Type 0 where
  pub tokens : tokens_left left ≡ token ∷ behind_token token (tokens_left behind)
  pub step : steps_in new ≡ steps_in old ++ step_taken old token behind ∷ []
  pub effect_is : effect (state_in new) action ≡ effect_taken old token
  pub room : length new.steps.items ≤ old.most
  pub numbered : AreNumbered new.steps.items
  pub path : new.path.items ≡ old.path.items
  pub font : new.font.now ≡ old.font.now
  pub most : new.most ≡ old.most
