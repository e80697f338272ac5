-- A listing that was begun with nothing lists the first steps of the glyph.
use Rattle.std.proofs.Common.{◌≡◌, ℕ, ◌+◌, ◌-◌, Bool, List, [], ◌++◌, length, map, take, ap, ◌∙◌}
use Rattle.t1_char.specs.declared.cursor.Cursor.{Cursor}
use Rattle.t1_char.specs.declared.step.Step.{Step}
use Rattle.t1_char.specs.declared.expansion.Listing.{Listing}
use Rattle.t1_char.specs.Charstrings.{code_at, tokens_in}
use Rattle.t1_char.specs.Effects.{State, most_calls, state_of}
use Rattle.t1_char.specs.Steps.{at_start, expansion, numbered, steps_of, first_steps}
use Rattle.t1_char.specs.Private.Cursors.{tokens_left}
use Rattle.t1_char.specs.Private.Listings.{steps_in, run_from}
use Rattle.t1_char.specs.StepValues.{step_view, step_value}
use Rattle.t1_char.specs.Private.Steps.{AreNumbered, IsExpanded}

-- Nothing was listed or executed yet.
pub record IsEmpty (listing : Listing) : Type 0 where
  pub steps : listing.steps.items ≡ []
  pub path : listing.path.items ≡ []
  pub stack : listing.stack ≡ []
  pub waiting : listing.waiting.items ≡ []

run_is : (glyph : ℕ) (begun : Listing) (from : Cursor) → IsEmpty begun → tokens_left from ≡ tokens_in begun.font.now (code_at begun.font.now glyph)
    → (run_from begun from).steps ≡ steps_of begun.font.now glyph
unfolding steps_of
run_is glyph begun from empty tokens =
    ap (λ p. (expansion begun.font.now (most_calls - length p) p (tokens_left from) (state_of begun.stack begun.waiting.items)).steps) empty.path
    ∙ ap (λ s. (expansion begun.font.now most_calls [] (tokens_left from) (state_of s begun.waiting.items)).steps) empty.stack
    ∙ ap (λ w. (expansion begun.font.now most_calls [] (tokens_left from) (state_of [] w)).steps) empty.waiting
    ∙ ap (λ ts. (expansion begun.font.now most_calls [] ts at_start).steps) tokens

pub listed_from_nothing : (limit glyph : ℕ) (begun : Listing) (from : Cursor) (items : List Step) (finished : Bool) (s : State) → IsEmpty begun
    → tokens_left from ≡ tokens_in begun.font.now (code_at begun.font.now glyph) →
    IsExpanded (limit + 1) (steps_in begun) (run_from begun from) (map step_view items) finished s → AreNumbered items →
    map step_value items ≡ first_steps limit begun.font.now glyph
unfolding first_steps
listed_from_nothing limit glyph begun from items finished s empty tokens listed are_numbered =
    are_numbered
    ∙ ap (numbered 1) (listed.steps_are
    ∙ ap (λ l. take (limit + 1) (map step_view l ++ (run_from begun from).steps)) empty.steps
    ∙ ap (take (limit + 1)) (run_is glyph begun from empty tokens))
