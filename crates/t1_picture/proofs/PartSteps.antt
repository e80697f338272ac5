-- The steps of a part that were drawn so far.
-- What n steps draw is kept as a fold over the first n; one step more is one turn more of the fold.
use Rattle.std.proofs.Common.{◌≡◌, ℕ, zero, suc, ◌+◌, ◌-◌, ◌<◌, ◌≤◌, ◌==◌, Bool, true, false, cond, nat_le, nat_lt, Option, None, Some, List, [], ◌∷◌, ◌++◌, drop, length, length-take, slice_get, take, take_all, append_assoc, append-nil, refl, sym, ap, ◌∙◌, arith, le-leb}
use Rattle.std.proofs.lemmas.Bool.{eqb-true, leb-true, ltb-true, ltb-false}
use Rattle.std.proofs.lemmas.List.{drop_all}
use Rattle.std.specs.Option.{option_map}
use Rattle.t1_char.specs.Editions.{limit_of}
use Rattle.t1_char.specs.Steps.{NumberedStep, StepView, steps_of}
use Rattle.t1_char.specs.Turns.{MachineView, step_of_number}
use Rattle.t1_outline.specs.declared.composition.Composition.{Composition}
use Rattle.t1_outline.specs.declared.pen.DrawnStep.{DrawnStep}
use Rattle.t1_outline.specs.declared.segment.Segment.{Segment}
use Rattle.t1_outline.specs.Outlines.{drawn}
use Rattle.t1_outline.specs.Parts.{composition_of}
use Rattle.t1_outline.specs.Private.Outlining.{steps_in}
use Rattle.t1_picture.specs.declared.parts.Stop.{Stop}
use Rattle.t1_picture.specs.declared.parts.Stop.TheVariants.{Reached, Ended, Limit}
use Rattle.t1_picture.specs.Layers.{LayersView}
use Rattle.t1_picture.specs.Private.PartViews.{DrawingSoFar, DrawsSteps, IsRunOf, stop_of}
use Rattle.t1_picture.specs.Parts.{PartView, drawn_steps, flex_note, flex_notes, last_step_of, limited_steps, line_of_step, with_step, with_steps}
use Rattle.t1_picture.specs.Private.Runs.{AreAllSeen, IsDrawnNext, IsInHand, IsOfSameGlyph, seen_steps}
use Rattle.t1_picture.specs.Texts.{legible_line}
use Rattle.t1_picture.proofs.Runs.{none_past}
use Rattle.t1_report.specs.Traces.{step_line}
use Rattle.t1_rules.specs.StepRules.Paths.{leaves_open}

-- The steps that are left, of those that are drawn.
abbrev pub left_behind : PartView → ℕ → List StepView
left_behind part n = take (part.last - n) (drop n (limited_steps part))

pub record HasDrawn (part : PartView) (old new : DrawingSoFar) (known : Composition) (n : ℕ) : Type 0 where
  pub within : n ≤ length (limited_steps part)
  pub layers : with_steps part new.layers (take n (limited_steps part)) (left_behind part n) ≡ with_steps part old.layers [] (drawn_steps part)
  pub notes : new.notes ++ flex_notes part.label (take n (limited_steps part)) (left_behind part n)
      ≡ old.notes ++ flex_notes part.label [] (drawn_steps part)
  pub composition : known ≡ composition_of (take n (limited_steps part))

pub none_drawn : (part : PartView) (old : DrawingSoFar) (known : Composition) → known ≡ composition_of [] → HasDrawn part old old known 0
none_drawn part old known is =
    let whole : part.last - 0 ≡ part.last = omega arith in
    record {
      within = omega arith;
      layers = ap (λ (k : ℕ). with_steps part old.layers [] (take k (limited_steps part))) whole;
      notes = ap (λ (k : ℕ). old.notes ++ flex_notes part.label [] (take k (limited_steps part))) whole;
      composition = is;
    }

-- One step more.
one_left : (part : PartView) (n : ℕ) (step : StepView) → n < part.last → drop n (limited_steps part) ≡ step ∷ drop (n + 1) (limited_steps part)
    → left_behind part n ≡ step ∷ left_behind part (n + 1)
one_left part n step less ahead =
    let more : part.last - n ≡ suc (part.last - (n + 1)) = omega (arith, less) in
    ap (λ (k : ℕ). take k (drop n (limited_steps part))) more ∙ ap (take (suc (part.last - (n + 1)))) ahead

pub one_drawn : (part : PartView) (old new new' : DrawingSoFar) (known known' : Composition) (n : ℕ) (step : StepView)
    → HasDrawn part old new known n → n < part.last → n < length (limited_steps part)
    → drop n (limited_steps part) ≡ step ∷ drop (n + 1) (limited_steps part)
    → take (n + 1) (limited_steps part) ≡ take n (limited_steps part) ++ step ∷ []
    → new'.layers ≡ with_step part (n + 1) (leaves_open (take n (limited_steps part)) step) (drawn (take n (limited_steps part)) step) new.layers
    → new'.notes ≡ new.notes ++ flex_note part.label (n + 1) step (drawn (take n (limited_steps part)) step)
    → known' ≡ composition_of (take n (limited_steps part) ++ step ∷ [])
    → HasDrawn part old new' known' (n + 1)
one_drawn part old new new' known known' n step has less within ahead seen drawn_is noted composed =
    let all = limited_steps part in
    let number : length (take n all) ≡ n = omega (arith, within, length-take n all) in
    let left = one_left part n step less ahead in
    let note = flex_note part.label (n + 1) step (drawn (take n all) step) in
    let rest = flex_notes part.label (take n all ++ step ∷ []) (left_behind part (n + 1)) in
    record {
      within = omega (arith, within);
      layers =
          ap (λ (ss : List StepView). with_steps part new'.layers ss (left_behind part (n + 1))) seen
          ∙ ap (λ (x : LayersView). with_steps part x (take n all ++ step ∷ []) (left_behind part (n + 1)))
          (drawn_is ∙ ap (λ (k : ℕ). with_step part (k + 1) (leaves_open (take n all) step) (drawn (take n all) step) new.layers) (sym number))
          ∙ ap (with_steps part new.layers (take n all)) (sym left)
          ∙ has.layers;
      notes =
          ap (λ (ss : List StepView). new'.notes ++ flex_notes part.label ss (left_behind part (n + 1))) seen
          ∙ ap (λ (x : List (List ℕ)). x ++ rest) noted
          ∙ append_assoc new.notes note rest
          ∙ ap (λ (k : ℕ). new.notes ++ (flex_note part.label (k + 1) step (drawn (take n all) step) ++ rest)) (sym number)
          ∙ ap (λ (ss : List StepView). new.notes ++ flex_notes part.label (take n all) ss) (sym left)
          ∙ has.notes;
      composition = composed ∙ ap composition_of (sym seen);
    }

-- So many are drawn as were requested.
pub all_drawn : (part : PartView) (old new : DrawingSoFar) (known : Composition) (m : MachineView) (n : ℕ)
    → HasDrawn part old new known n → IsRunOf part m → steps_in m ≡ limited_steps part → m.counted ≡ n → n ≡ part.last
    → DrawsSteps part old new known m Reached
all_drawn part old new known m n has run steps counted end =
    let none : part.last - n ≡ 0 = omega (arith, end) in
    let nothing : left_behind part n ≡ [] = ap (λ (k : ℕ). take k (drop n (limited_steps part))) none in
    record {
      layers = ap (with_steps part new.layers (take n (limited_steps part))) (sym nothing) ∙ has.layers;
      notes = sym (append-nil new.notes) ∙ ap (λ (ss : List StepView). new.notes ++ flex_notes part.label (take n (limited_steps part)) ss) (sym nothing) ∙ has.notes;
      composition = has.composition ∙ ap (λ (k : ℕ). composition_of (take k (limited_steps part))) end;
      run = run;
      seen = ap (λ (ss : List StepView). take m.counted ss) steps ∙ ap (λ (k : ℕ). take k (limited_steps part)) (counted ∙ end);
      stopped = sym (ap (λ b. cond b Reached (cond (nat_lt (limit_of part.edition) (length (steps_of part.font part.glyph))) Limit Ended))
          (le-leb part.last (length (limited_steps part)) (omega (arith, has.within, end))));
      counted = λ is. counted ∙ end;
    }

none_taken : (k : ℕ) → take {A = StepView} k [] ≡ []
none_taken zero = refl
none_taken (suc k) = refl

-- All are drawn that there are.
not_reached : (part : PartView) (n : ℕ) → length (limited_steps part) ≤ n → n < part.last → nat_le part.last (length (limited_steps part)) ≡ false
not_reached part n all less = by_test (nat_le part.last (length (limited_steps part))) refl
  where
    by_test : (b : Bool) → nat_le part.last (length (limited_steps part)) ≡ b → b ≡ false
    by_test true is = absurd (omega (arith, leb-true part.last (length (limited_steps part)) is, all, less))
    by_test false is = refl

pub none_left_to_draw : (part : PartView) (old new : DrawingSoFar) (known : Composition) (m : MachineView) (n : ℕ) (stop : Stop)
    → HasDrawn part old new known n → IsRunOf part m → steps_in m ≡ limited_steps part → n ≤ m.counted
    → length (limited_steps part) ≤ n → n < part.last
    → cond (nat_lt (limit_of part.edition) (length (steps_of part.font part.glyph))) Limit Ended ≡ stop → (stop ≡ Reached → ⊥)
    → DrawsSteps part old new known m stop
none_left_to_draw part old new known m n stop has run steps more all less why other =
    let nothing : left_behind part n ≡ [] = ap (take (part.last - n)) (drop_all n (limited_steps part) all) ∙ none_taken (part.last - n) in
    let whole : take n (limited_steps part) ≡ drawn_steps part =
    take_all n (limited_steps part) all ∙ sym (take_all part.last (limited_steps part) (omega (arith, all, less))) in
    record {
      layers = ap (with_steps part new.layers (take n (limited_steps part))) (sym nothing) ∙ has.layers;
      notes = sym (append-nil new.notes) ∙ ap (λ (ss : List StepView). new.notes ++ flex_notes part.label (take n (limited_steps part)) ss) (sym nothing) ∙ has.notes;
      composition = has.composition ∙ ap composition_of whole;
      run = run;
      seen = ap (λ (ss : List StepView). take m.counted ss) steps ∙ take_all m.counted (limited_steps part) (omega (arith, all, more))
          ∙ sym (take_all part.last (limited_steps part) (omega (arith, all, less)));
      stopped = sym why
          ∙ sym (ap (λ b. cond b Reached (cond (nat_lt (limit_of part.edition) (length (steps_of part.font part.glyph))) Limit Ended))
          (not_reached part n all less));
      counted = λ is. absurd (other is);
    }

pub why_ended : (part : PartView) → length (steps_of part.font part.glyph) ≤ limit_of part.edition
    → cond (nat_lt (limit_of part.edition) (length (steps_of part.font part.glyph))) Limit Ended ≡ Ended
why_ended part short = by_test (nat_lt (limit_of part.edition) (length (steps_of part.font part.glyph))) refl
  where
    by_test : (b : Bool) → nat_lt (limit_of part.edition) (length (steps_of part.font part.glyph)) ≡ b → cond b Limit Ended ≡ Ended
    by_test true is = absurd (omega (arith, short, ltb-true (limit_of part.edition) (length (steps_of part.font part.glyph)) is))
    by_test false is = refl

pub why_limited : (part : PartView) → limit_of part.edition < length (steps_of part.font part.glyph)
    → cond (nat_lt (limit_of part.edition) (length (steps_of part.font part.glyph))) Limit Ended ≡ Limit
why_limited part long = by_test (nat_lt (limit_of part.edition) (length (steps_of part.font part.glyph))) refl
  where
    by_test : (b : Bool) → nat_lt (limit_of part.edition) (length (steps_of part.font part.glyph)) ≡ b → cond b Limit Ended ≡ Limit
    by_test true is = refl
    by_test false is = absurd (omega (arith, long, ltb-false (limit_of part.edition) (length (steps_of part.font part.glyph)) is))

-- The steps of a run that executes the part's glyph.
pub steps_of_run : (part : PartView) (m : MachineView) → IsRunOf part m → steps_in m ≡ limited_steps part
steps_of_run part m run = rw (run.font, run.glyph, run.edition) refl

-- Where so many are drawn as were requested, the last one is in hand.
reached_within : (part : PartView) → stop_of part ≡ Reached → part.last ≤ length (limited_steps part)
reached_within part is = by_test (nat_le part.last (length (limited_steps part))) refl is
  where
    why : (b : Bool) → cond b Limit Ended ≡ Reached → ⊥
    why true is = cc
    why false is = cc

    by_test : (b : Bool) → nat_le part.last (length (limited_steps part)) ≡ b
        → cond b Reached (cond (nat_lt (limit_of part.edition) (length (steps_of part.font part.glyph))) Limit Ended) ≡ Reached
        → part.last ≤ length (limited_steps part)
    by_test true less is = leb-true part.last (length (limited_steps part)) less
    by_test false more is = absurd (why (nat_lt (limit_of part.edition) (length (steps_of part.font part.glyph))) is)

pub last_in_hand : (part : PartView) (m : MachineView) (line : List ℕ) → IsRunOf part m → stop_of part ≡ Reached → m.counted ≡ part.last
    → 0 < part.last → IsInHand m → line ≡ legible_line (step_line m.step) → Some line ≡ last_step_of part
last_in_hand part m line run stop counted some hand is = by_step (slice_get (limited_steps part) (part.last - 1)) refl
  where
    some_last : (part.last == 0) ≡ false
    some_last = by_test (part.last == 0) refl
      where
        by_test : (b : Bool) → (part.last == 0) ≡ b → b ≡ false
        by_test true none = absurd (omega (arith, eqb-true part.last 0 none, some))
        by_test false not = refl

    by_step : (o : Option StepView) → slice_get (limited_steps part) (part.last - 1) ≡ o → Some line ≡ last_step_of part
    by_step None none = absurd (omega (arith, none_past (limited_steps part) (part.last - 1) none, reached_within part stop, some))
    by_step (Some step) there =
        let held : m.step ≡ step_of_number m.counted step =
        hand step (omega (arith, counted, some))
        (ap (λ (ss : List StepView). slice_get ss (m.counted - 1)) (steps_of_run part m run)
        ∙ ap (λ (k : ℕ). slice_get (limited_steps part) (k - 1)) counted ∙ there) in
        ap (λ (l : List ℕ). Some l) (is ∙ ap (λ (s : NumberedStep). legible_line (step_line s)) (held ∙ ap (λ (k : ℕ). step_of_number k step) counted))
        ∙ sym (ap (λ b. cond b None (option_map (line_of_step part.last) (slice_get (limited_steps part) (part.last - 1)))) some_last
        ∙ ap (λ (o : Option StepView). option_map (line_of_step part.last) o) there)

-- ---- by what a run reported

pub still_of : (part : PartView) (m m' : MachineView) → IsRunOf part m → IsOfSameGlyph m m' → IsRunOf part m'
still_of part m m' run same = record {
  font = same.font ∙ run.font;
  glyph = same.glyph ∙ run.glyph;
  edition = same.edition ∙ run.edition;
}

pub one_executed : (part : PartView) (m m' : MachineView) (next : DrawnStep) (old new new' : DrawingSoFar) (known known' : Composition)
    (n : ℕ) → IsRunOf part m → IsOfSameGlyph m m' → m.counted ≡ n → HasDrawn part old new known n → n < part.last
    → IsDrawnNext m m' next
    → new'.layers ≡ with_step part m'.step.number next.leaves_open next.segments.items new.layers
    → new'.notes ≡ new.notes ++ flex_note part.label m'.step.number m'.step.step next.segments.items
    → ((seen : List StepView) → known ≡ composition_of seen → known' ≡ composition_of (seen ++ m'.step.step ∷ []))
    → HasDrawn part old new' known' (n + 1)
one_executed part m m' next old new new' known known' n run same counted has less is drawn_is noted composed =
    let all = limited_steps part in
    let steps = steps_of_run part m run in
    let steps' = steps_of_run part m' (still_of part m m' run same) in
    let counted' : m'.counted ≡ n + 1 = is.counted ∙ ap (λ (k : ℕ). k + 1) counted in
    let number : m'.step.number ≡ n + 1 = is.number ∙ ap (λ (k : ℕ). k + 1) counted in
    let seen : seen_steps m ≡ take n all = ap (λ (ss : List StepView). take m.counted ss) steps ∙ ap (λ (k : ℕ). take k all) counted in
    let seen' : seen_steps m' ≡ take (n + 1) all = ap (λ (ss : List StepView). take m'.counted ss) steps' ∙ ap (λ (k : ℕ). take k all) counted' in
    let ahead : drop n all ≡ drop m.counted (steps_in m) = ap (λ (k : ℕ). drop k all) (sym counted) ∙ ap (λ (ss : List StepView). drop m.counted ss) (sym steps) in
    let behind : drop m'.counted (steps_in m') ≡ drop (n + 1) all = ap (λ (ss : List StepView). drop m'.counted ss) steps' ∙ ap (λ (k : ℕ). drop k all) counted' in
    one_drawn part old new new' known known' n m'.step.step has less (omega (arith, is.within, counted, ap length steps))
    (ahead ∙ is.ahead ∙ ap (λ (ss : List StepView). m'.step.step ∷ ss) behind)
    (sym seen' ∙ is.seen ∙ ap (λ (ss : List StepView). ss ++ m'.step.step ∷ []) seen)
    (drawn_is ∙ ap (λ (k : ℕ). with_step part k next.leaves_open next.segments.items new.layers) number
    ∙ ap (λ (b : Bool). with_step part (n + 1) b next.segments.items new.layers) (is.leaves_open ∙ ap (λ (ss : List StepView). leaves_open ss m'.step.step) seen)
    ∙ ap (λ (xs : List Segment). with_step part (n + 1) (leaves_open (take n all) m'.step.step) xs new.layers)
    (is.segments ∙ ap (λ (ss : List StepView). drawn ss m'.step.step) seen))
    (noted ∙ ap (λ (k : ℕ). new.notes ++ flex_note part.label k m'.step.step next.segments.items) number
    ∙ ap (λ (xs : List Segment). new.notes ++ flex_note part.label (n + 1) m'.step.step xs) (is.segments ∙ ap (λ (ss : List StepView). drawn ss m'.step.step) seen))
    (composed (take n all) has.composition)

pub all_executed : (part : PartView) (m m' : MachineView) (old new : DrawingSoFar) (known : Composition) (n : ℕ) (stop : Stop)
    → IsRunOf part m → IsOfSameGlyph m m' → m.counted ≡ n → HasDrawn part old new known n → n < part.last → AreAllSeen m m'
    → cond (nat_lt (limit_of part.edition) (length (steps_of part.font part.glyph))) Limit Ended ≡ stop → (stop ≡ Reached → ⊥)
    → DrawsSteps part old new known m' stop
all_executed part m m' old new known n stop run same counted has less all why other =
    let run' = still_of part m m' run same in
    none_left_to_draw part old new known m' n stop has run' (steps_of_run part m' run') (omega (arith, all.more, counted))
    (omega (arith, all.all, counted, ap length (steps_of_run part m run))) less why other
