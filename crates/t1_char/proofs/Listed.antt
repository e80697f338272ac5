-- What a step that was listed and executed leaves to be listed.
use Rattle.std.proofs.Common.{◌≡◌, ℕ, suc, ◌+◌, ◌-◌, ◌<◌, ◌≤◌, Bool, true, false, List, [], ◌∷◌, ◌++◌, length, length-append, take, ap, sym, subst, ◌∙◌, arith}
use Rattle.t1_char.specs.declared.cursor.Cursor.{Cursor}
use Rattle.t1_char.specs.declared.expansion.Listing.{Listing}
use Rattle.t1_char.specs.declared.token.CharToken.{CharToken}
use Rattle.t1_char.specs.Charstrings.{tokens_in}
use Rattle.t1_char.specs.Effects.{State, Action, goes, calls, returns, finishes, effect, most_calls}
use Rattle.t1_char.specs.Steps.{Run, StepView, named_at, first, only, and_then, expansion}
use Rattle.t1_char.specs.Private.Cursors.{tokens_left, behind_token}
use Rattle.t1_char.specs.Private.Listings.{steps_in, state_in, run_from, step_taken, effect_taken, IsListing, Takes}
use Rattle.t1_char.specs.StepValues.{step_view}
use Rattle.t1_char.specs.Private.Steps.{AreNumbered, GoesOn, IsExpanded}
use Rattle.std.proofs.lemmas.List.{length-map}
use Rattle.std.proofs.Math.Seq.{take-append_seam}
use Rattle.t1_char.proofs.Expanding.{run_goes, run_calls, run_returns, run_finishes, IsInner, open_by, behind_open}
use Rattle.t1_char.proofs.Additions.{goes_more, goes_out, Called, called_full, called_finished, called_open}

-- A token that goes on or calls isn't the end.
not_end : (old : Listing) (left : Cursor) (token : CharToken) (action : Action) (behind : Cursor) (new : Listing) → IsInner action
    → Takes old left token action behind new → behind_token token (tokens_left behind) ≡ tokens_left behind
not_end old left token action behind new inner took =
    behind_open token (tokens_left behind)
    (open_by token (named_at old.font.now token old.stack) (length old.path.items) (state_in old) (subst IsInner (ap (λ e. e.action) took.effect_is) inner))

-- The run of what is left depends on the font, the path and the state.
same_run : (old new : Listing) (behind : Cursor) → new.path.items ≡ old.path.items → new.font.now ≡ old.font.now
    → expansion old.font.now (most_calls - length old.path.items) old.path.items (tokens_left behind) (state_in new) ≡ run_from new behind
same_run old new behind path font =
    ap (λ f. expansion f (most_calls - length old.path.items) old.path.items (tokens_left behind) (state_in new)) (sym font)
    ∙ ap (λ p. expansion new.font.now (most_calls - length p) p (tokens_left behind) (state_in new)) (sym path)

went : (begun : Listing) (from : Cursor) (old : Listing) (left : Cursor) (rest : Run) → IsListing begun from old left → run_from old left ≡ rest
    → GoesOn (steps_in begun) (run_from begun from) (steps_in old) rest
went begun from old left rest so_far is = subst (λ r. GoesOn (steps_in begun) (run_from begun from) (steps_in old) r) is so_far.goes_on

-- The run goes on.
pub listing_goes : (begun : Listing) (from : Cursor) (old : Listing) (left : Cursor) (token : CharToken) (behind : Cursor) (new : Listing)
    → IsListing begun from old left → Takes old left token goes behind new → IsListing begun from new behind
listing_goes begun from old left token behind new so_far took =
    let n : ℕ = most_calls - length old.path.items in
    let is : run_from old left ≡ first (step_taken old token behind) (run_from new behind) =
    ap (λ ts. expansion old.font.now n old.path.items ts (state_in old)) took.tokens
    ∙ run_goes old.font.now n old.path.items token (behind_token token (tokens_left behind)) (state_in old) (state_in new) (sym took.effect_is)
    ∙ ap (λ ts. first (step_taken old token behind) (expansion old.font.now n old.path.items ts (state_in new)))
    (not_end old left token goes behind new tt took)
    ∙ ap (first (step_taken old token behind)) (same_run old new behind took.path took.font) in
    record {
      goes_on = subst (λ l. GoesOn (steps_in begun) (run_from begun from) l (run_from new behind)) (sym took.step)
          (goes_more (steps_in begun) (run_from begun from) (steps_in old) (step_taken old token behind) (run_from new behind)
          (went begun from old left _ so_far is));
      room = subst (λ m. length new.steps.items ≤ m) (sym took.most) took.room;
      numbered = took.numbered;
      path = took.path ∙ so_far.path;
      font = took.font ∙ so_far.font;
      most = took.most ∙ so_far.most;
    }

-- The run ends here, at a return or where the glyph is finished.
listing_out : (begun : Listing) (from : Cursor) (old : Listing) (left : Cursor) (token : CharToken) (action : Action) (behind : Cursor) (new : Listing)
    (finished : Bool) → IsListing begun from old left → Takes old left token action behind new → run_from old left ≡ only (step_taken old token behind) finished
    (state_in new) → IsExpanded begun.most (steps_in begun) (run_from begun from) (steps_in new) finished (state_in new)
listing_out begun from old left token action behind new finished so_far took is =
    let step : StepView = step_taken old token behind in
    let count : length new.steps.items ≡ length (steps_in old ++ step ∷ []) =
    sym (length-map new.steps.items step_view) ∙ ap (λ l. length l) took.step in
    subst (λ l. IsExpanded begun.most (steps_in begun) (run_from begun from) l finished (state_in new)) (sym took.step)
    (goes_out begun.most (steps_in begun) (run_from begun from) (steps_in old) step finished (state_in new)
    (subst (λ m. length (steps_in old ++ step ∷ []) ≤ m) so_far.most (subst (λ k. k ≤ old.most) count took.room))
    (went begun from old left _ so_far is))

pub listing_returns : (begun : Listing) (from : Cursor) (old : Listing) (left : Cursor) (token : CharToken) (behind : Cursor) (new : Listing)
    → IsListing begun from old left → Takes old left token returns behind new → IsExpanded begun.most (steps_in begun) (run_from begun from)
    (steps_in new) false (state_in new)
listing_returns begun from old left token behind new so_far took =
    listing_out begun from old left token returns behind new false so_far took
    (ap (λ ts. expansion old.font.now (most_calls - length old.path.items) old.path.items ts (state_in old)) took.tokens
    ∙ run_returns old.font.now (most_calls - length old.path.items) old.path.items token (behind_token token (tokens_left behind)) (state_in old)
    (state_in new) (sym took.effect_is))

pub listing_finishes : (begun : Listing) (from : Cursor) (old : Listing) (left : Cursor) (token : CharToken) (behind : Cursor) (new : Listing)
    → IsListing begun from old left → Takes old left token finishes behind new → IsExpanded begun.most (steps_in begun) (run_from begun from)
    (steps_in new) true (state_in new)
listing_finishes begun from old left token behind new so_far took =
    listing_out begun from old left token finishes behind new true so_far took
    (ap (λ ts. expansion old.font.now (most_calls - length old.path.items) old.path.items ts (state_in old)) took.tokens
    ∙ run_finishes old.font.now (most_calls - length old.path.items) old.path.items token (behind_token token (tokens_left behind)) (state_in old)
    (state_in new) (sym took.effect_is))

-- A Subr was called: its steps were added.
abbrev pub behind_call : Listing → Cursor → State → Run
behind_call old behind s = expansion old.font.now (most_calls - length old.path.items) old.path.items (tokens_left behind) s

pub listing_calls : (begun : Listing) (from : Cursor) (old : Listing) (left : Cursor) (token : CharToken) (number : ℕ) (code : List ℕ) (behind : Cursor)
    (new : Listing) (start : Cursor) (path : List ℕ) (steps : List StepView) (finished : Bool) (s : State) →
    IsListing begun from old left → Takes old left token (calls number code) behind new → length old.path.items < most_calls →
    path ≡ new.path.items ++ number ∷ [] → tokens_left start ≡ tokens_in new.font.now code →
    IsExpanded new.most (steps_in new) (expansion new.font.now (most_calls - length path) path (tokens_left start) (state_in new)) steps finished s →
    Called begun.most (steps_in begun) (run_from begun from) steps finished s (behind_call old behind)
listing_calls begun from old left token number code behind new start path steps finished s so_far took deep path_is tokens added =
    let n : ℕ = most_calls - length path in
    let count : length path ≡ length old.path.items + 1 = ap (λ l. length l) path_is ∙ length-append new.path.items (number ∷ [])
    ∙ ap (λ l. length l + 1) took.path in
    let one_more : most_calls - length old.path.items ≡ suc n = omega arith in
    let inner : Run = expansion old.font.now n (old.path.items ++ number ∷ []) (tokens_in old.font.now code) (state_in new) in
    let is : run_from old left ≡ first (step_taken old token behind) (and_then inner (behind_call old behind)) =
    ap (λ ts. expansion old.font.now (most_calls - length old.path.items) old.path.items ts (state_in old)) took.tokens
    ∙ ap (λ k. expansion old.font.now k old.path.items (token ∷ behind_token token (tokens_left behind)) (state_in old)) one_more
    ∙ run_calls old.font.now n old.path.items token (behind_token token (tokens_left behind)) (state_in old) (state_in new) number code (sym took.effect_is)
    ∙ ap (λ k. first (step_taken old token behind) (and_then inner (λ y. expansion old.font.now k old.path.items (behind_token token (tokens_left behind)) y)))
    (sym one_more)
    ∙ ap (λ ts. first (step_taken old token behind) (and_then inner (λ y. expansion old.font.now (most_calls - length old.path.items) old.path.items ts y)))
    (not_end old left token (calls number code) behind new tt took) in
    let same : expansion new.font.now n path (tokens_left start) (state_in new) ≡ inner =
    ap (λ ts. expansion new.font.now n path ts (state_in new)) tokens
    ∙ ap (λ f. expansion f n path (tokens_in f code) (state_in new)) took.font
    ∙ ap (λ p. expansion old.font.now n p (tokens_in old.font.now code) (state_in new)) (path_is ∙ ap (λ p. p ++ number ∷ []) took.path) in
    record {
      before = steps_in new;
      inner = inner;
      goes_on = subst (λ l. GoesOn (steps_in begun) (run_from begun from) l (and_then inner (behind_call old behind))) (sym took.step)
          (goes_more (steps_in begun) (run_from begun from) (steps_in old) (step_taken old token behind) (and_then inner (behind_call old behind))
          (went begun from old left _ so_far is));
      added = subst (λ m. IsExpanded m (steps_in new) inner steps finished s) (took.most ∙ so_far.most)
          (subst (λ r. IsExpanded new.most (steps_in new) r steps finished s) same added);
    }

-- What holds of a step that was taken, where its action is known.
pub takes_as : (old : Listing) (left : Cursor) (token : CharToken) (a b : Action) (behind : Cursor) (new : Listing) → a ≡ b →
    tokens_left left ≡ token ∷ behind_token token (tokens_left behind) →
    steps_in new ≡ steps_in old ++ step_taken old token behind ∷ [] →
    effect (state_in new) a ≡ effect_taken old token →
    length new.steps.items ≤ old.most → AreNumbered new.steps.items → new.path.items ≡ old.path.items → new.font.now ≡ old.font.now → new.most ≡ old.most →
    Takes old left token b behind new
takes_as old left token a b behind new is tokens step effects room numbered path font most =
    record {
      tokens = tokens;
      step = step;
      effect_is = subst (λ x. effect (state_in new) x ≡ effect_taken old token) is effects;
      room = room;
      numbered = numbered;
      path = path;
      font = font;
      most = most;
    }

-- A call filled the list, or finished the glyph.
pub call_fills : (begun : Listing) (from : Cursor) (old : Listing) (behind : Cursor) (new : Listing) (finished : Bool) → new.most ≡ begun.most
    → new.most ≤ length new.steps.items →
    Called begun.most (steps_in begun) (run_from begun from) (steps_in new) finished (state_in new) (behind_call old behind) →
    IsExpanded begun.most (steps_in begun) (run_from begun from) (steps_in new) finished (state_in new)
call_fills begun from old behind new finished most full called =
    let count : length (steps_in new) ≡ length new.steps.items = length-map new.steps.items step_view in
    called_full begun.most (steps_in begun) (run_from begun from) (steps_in new) finished (state_in new) (behind_call old behind) (omega arith) called

pub call_finishes : (begun : Listing) (from : Cursor) (old : Listing) (behind : Cursor) (new : Listing) → new.most ≡ begun.most
    → length new.steps.items < new.most →
    Called begun.most (steps_in begun) (run_from begun from) (steps_in new) true (state_in new) (behind_call old behind) →
    IsExpanded begun.most (steps_in begun) (run_from begun from) (steps_in new) true (state_in new)
call_finishes begun from old behind new most short called =
    let count : length (steps_in new) ≡ length new.steps.items = length-map new.steps.items step_view in
    called_finished begun.most (steps_in begun) (run_from begun from) (steps_in new) (state_in new) (behind_call old behind) (omega arith) called

-- A call left room, and the run goes on after it.
pub call_goes_on : (begun : Listing) (from : Cursor) (old : Listing) (behind : Cursor) (new : Listing) → new.most ≡ begun.most
    → length new.steps.items < new.most → AreNumbered new.steps.items →
    new.path.items ≡ old.path.items → new.font.now ≡ old.font.now → old.path.items ≡ begun.path.items → old.font.now ≡ begun.font.now →
    Called begun.most (steps_in begun) (run_from begun from) (steps_in new) false (state_in new) (behind_call old behind) →
    IsListing begun from new behind
call_goes_on begun from old behind new most short numbered path font old_path old_font called =
    let count : length (steps_in new) ≡ length new.steps.items = length-map new.steps.items step_view in
    record {
      goes_on = subst (λ r. GoesOn (steps_in begun) (run_from begun from) (steps_in new) r) (same_run old new behind path font)
          (called_open begun.most (steps_in begun) (run_from begun from) (steps_in new) (state_in new) (behind_call old behind) (omega arith) called);
      room = omega arith;
      numbered = numbered;
      path = path ∙ old_path;
      font = font ∙ old_font;
      most = most;
    }

-- A path without what was put on last.
pub path_back : (path now : List ℕ) (number : ℕ) (back : List ℕ) → now ≡ path ++ number ∷ [] → back ≡ take (length now - 1) now → back ≡ path
path_back path now number back is taken =
    let count : length (path ++ number ∷ []) - 1 ≡ length path = omega (arith, length-append path (number ∷ [])) in
    taken ∙ ap (λ p. take (length p - 1) p) is ∙ ap (λ k. take k (path ++ number ∷ [])) count ∙ take-append_seam path (number ∷ [])
