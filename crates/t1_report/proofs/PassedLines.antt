-- Numbers, lines, closepaths and moves that a machine passes, while the watchers are calm, or in the midst of a path.
use Rattle.std.proofs.Common.{◌≡◌, ℕ, ℤ, zero, suc, ◌+◌, ◌-◌, ◌<◌, ◌≤◌, ◌&&◌, inl, inr, ◌⊎◌, true, false, List, [], ◌∷◌, ◌++◌, length, length-take, take, refl, sym, ap, subst, ◌∙◌, le-ltb, lt-ltb, nat_lt, arith}
use Rattle.std.proofs.lemmas.Int.{ints}
use Rattle.std.proofs.lemmas.Bool.{cases_lt, or_cases}
use Rattle.std.proofs.lemmas.Option.{slice_get_within}
use Rattle.t1_char.specs.declared.command.Command.{Command as Commands}
use Rattle.t1_char.specs.declared.lines.Passing.{Passing}
use Rattle.t1_char.specs.declared.lines.Passing.TheVariants as passing
use Rattle.t1_char.specs.declared.edition.Edition.{Edition}
use Rattle.t1_char.specs.declared.command.Command.TheVariants.{Closepath, Rlineto, Hlineto, Vlineto, Rrcurveto, Vhcurveto, Hvcurveto, Rmoveto, Hmoveto, Vmoveto}
use Rattle.t1_char.specs.declared.lines.DrawnPath.{DrawnPath}
use Rattle.t1_char.specs.declared.lines.DrawnPath.TheVariants.{Nothing, Open, Closed}
use Rattle.t1_char.specs.declared.lines.Way.{Way}
use Rattle.t1_char.specs.Seacs.{is_seac}
use Rattle.t1_char.specs.declared.machine.Answer.{Answer}
use Rattle.t1_char.specs.declared.machine.Answer.TheVariants as answers
use Rattle.t1_char.specs.declared.machine.Answer.TheVariants.{Ended, Limit}
use Rattle.t1_char.specs.declared.step.Step.{Step}
use Rattle.t1_char.specs.declared.token.CharToken.TheVariants.{Command}
use Rattle.t1_char.specs.AnswerViews.{answer_view, is_limit, is_over}
use Rattle.t1_char.specs.Editions.{has_latest_rules, limit_of}
use Rattle.t1_char.specs.Lines.{GoesOn, IsAskedFar, IsCommandPassed, LeadsOn, PassesStep, PassesSteps, IsLed, can_follow, closed, drawn_after, further, is_closed, is_led, is_line_command, is_move_command, leads, no_way, way_by}
use Rattle.t1_char.specs.Passing.{IsPassed}
use Rattle.t1_char.specs.Steps.{StepView, steps_of}
use Rattle.t1_char.specs.StepValues.{step_value}
use Rattle.t1_char.specs.Turns.{MachineView, TurnValue, limited, stepped}
use Rattle.t1_char.proofs.EditionLemmas.{limit_few}
use Rattle.t1_char.proofs.TurnsTaken.{behind, limited_is, stepped_is}
use Rattle.t1_drawing.specs.DrawingRules.{box_of, drawing_rules}
use Rattle.t1_rules.specs.declared.sidebearings.Component.{Component}
use Rattle.t1_rules.specs.declared.step_rules.flex.FlexWatcher.{FlexWatcher}
use Rattle.t1_rules.specs.declared.step_rules.flex.Point.{Point}
use Rattle.t1_rules.specs.declared.watches.Watches.{Watches}
use Rattle.t1_rules.specs.Book.{number_of}
use Rattle.t1_rules.specs.Components.{components_of}
use Rattle.t1_rules.specs.StepRules.{StepRule, breaks, breaks_next, component_rules, step_rules}
use Rattle.t1_rules.specs.Private.Standing.{WatchesStandFor}
use Rattle.t1_rules.specs.StepRules.Flex.{at}
use Rattle.t1_rules.specs.Steady.{IsSteady, IsUndrawn, closed_on, drawn_on, led_by, moved_on, point_on}
use Rattle.t1_rules.specs.Watches.{IsCalm, IsNear, most_steps}
use Rattle.t1_rules.proofs.Lemmas.Flex.{plus_origin}
use Rattle.t1_rules.proofs.Lemmas.Lines.{IsDrawn, line_open, line_token, move_token, move_undrawn, no_fault_at_close, no_fault_at_move, none_at_line, stays_at_close, stays_at_line, stays_at_move}
use Rattle.t1_report.specs.Checked.{CheckedFont, step_limit}
use Rattle.t1_report.specs.Reports.{is_broken, rules_of}
use Rattle.t1_report.specs.Laws.PassedLines.{PassedLinesBreakNoRule, WatchersMoveOnByLines}
use Rattle.t1_report.specs.Private.Fitting.{IsFit, IsSteadyIn}
use Rattle.t1_report.specs.Private.Going.{HasGone, idled}
use Rattle.t1_report.specs.Private.Units.{IsQuiet, IsRun, executed}
use Rattle.t1_report.specs.Walks.{turns_of_glyph}
use Rattle.t1_report.proofs.Broken.{at_step, both_kinds, breaks_neither, rules_by, within_limit}
use Rattle.t1_report.proofs.GlyphSteps.{take_next}
use Rattle.t1_report.proofs.PassedNumbers.{EndsBehind, IsTurn, StandsBehind, calm_is_behind_none, ended_view, none_at, stands_more}
use Rattle.t1_report.proofs.RunSteps.{IsRunAt, IsTold, count_at_end, run_at, told_at, told_end}

-- Watchers that were moved on.
calm_on : (w : Watches) (way : Way) → IsCalm w → IsCalm (moved_on w way)
calm_on w way calm = by_drawn way.drawn
  where
    by_drawn : (drawn : DrawnPath) → IsCalm (record (led_by drawn w) { flex = record w.flex { point = point_on w.flex.point way; moves = w.flex.moves + way.moves } })
    by_drawn Nothing = record { replaced = calm.replaced; hints_popped = calm.hints_popped; ended = calm.ended; popped = calm.popped; popped_twice = calm.popped_twice }
    by_drawn Open = record { replaced = calm.replaced; hints_popped = calm.hints_popped; ended = calm.ended; popped = calm.popped; popped_twice = calm.popped_twice }
    by_drawn Closed = record { replaced = calm.replaced; hints_popped = calm.hints_popped; ended = calm.ended; popped = calm.popped; popped_twice = calm.popped_twice }

steady_on : (w : Watches) (way : Way) → is_closed way.drawn ≡ false → IsSteady w → IsSteady (moved_on w way)
steady_on w way unclosed steady = by_drawn way.drawn unclosed
  where
    by_drawn : (drawn : DrawnPath) → is_closed drawn ≡ false → IsSteady (record (led_by drawn w) { flex = record w.flex { point = point_on w.flex.point way; moves = w.flex.moves + way.moves } })
    by_drawn Nothing is = record { begun = steady.begun; path_flex = steady.path_flex; moved = steady.moved; stem_flex = steady.stem_flex; flex = steady.flex; seac_flex = steady.seac_flex; opened = steady.opened; going_on = steady.going_on }
    by_drawn Open is = record { begun = steady.begun; path_flex = steady.path_flex; moved = steady.moved; stem_flex = steady.stem_flex; flex = steady.flex; seac_flex = steady.seac_flex; opened = steady.opened; going_on = steady.going_on }
    by_drawn Closed is = let no : true ≡ false = is in cc

undrawn_on : (w : Watches) (way : Way) → way.drawn ≡ Nothing → IsUndrawn w → IsUndrawn (moved_on w way)
undrawn_on w way none undrawn = record {
  drawn = ap (λ drawn. (led_by drawn w).paths.drawn) none ∙ undrawn.drawn;
  outlined = ap (λ drawn. (led_by drawn w).seac.outlined) none ∙ undrawn.outlined;
}

drawn_by : (w : Watches) (way : Way) → way.drawn ≡ Open → IsDrawn (moved_on w way)
drawn_by w way is = record {
  path = ap (λ drawn. (led_by drawn w).paths.drawn) is;
  stems = ap (λ drawn. (led_by drawn w).stems.drawn) is;
  outlined = ap (λ drawn. (led_by drawn w).seac.outlined) is;
}

moved_nowhere : (w : Watches) → moved_on w no_way ≡ w
moved_nowhere w =
    let no_more : w.flex.moves + 0 ≡ w.flex.moves = omega arith in
    ap (λ point. record w { flex = record w.flex { point = point; moves = w.flex.moves + 0 } }) (plus_origin w.flex.point)
    ∙ ap (λ moves. record w { flex = record w.flex { moves = moves } }) no_more

same_point : (a b c d : ℤ) → a ≡ c → b ≡ d → at a b ≡ at c d
same_point a b c d x y = rw (x, y) refl

further_on : (p : Point) (one other : Way) → point_on (point_on p one) other ≡ point_on p (further one other)
further_on p one other = same_point _ _ _ _ (omega (arith, ints)) (omega (arith, ints))

flex_twice : (f : FlexWatcher) (one other : Way)
    → record f { point = point_on (point_on f.point one) other; moves = f.moves + one.moves + other.moves }
    ≡ record f { point = point_on f.point (further one other); moves = f.moves + (one.moves + other.moves) }
flex_twice f one other =
    let same : f.moves + one.moves + other.moves ≡ f.moves + (one.moves + other.moves) = omega arith in
    ap (λ point. record f { point = point; moves = f.moves + one.moves + other.moves }) (further_on f.point one other)
    ∙ ap (λ moves. record f { point = point_on f.point (further one other); moves = moves }) same

-- Watchers that are moved on twice, and once, by what was drawn.
twice : Watches → Way → Way → DrawnPath → DrawnPath → Watches
twice w one other first second =
    record (led_by second (record (led_by first w) { flex = record w.flex { point = point_on w.flex.point one; moves = w.flex.moves + one.moves } })) {
      flex = record w.flex { point = point_on (point_on w.flex.point one) other; moves = w.flex.moves + one.moves + other.moves };
    }

once : Watches → Way → Way → DrawnPath → Watches
once w one other drawn =
    record (led_by drawn w) { flex = record w.flex { point = point_on w.flex.point (further one other); moves = w.flex.moves + (one.moves + other.moves) } }

moved_by_line : (w : Watches) (one other : Way) → is_closed one.drawn ≡ false → other.drawn ≡ Open
    → moved_on (moved_on w one) other ≡ moved_on w (further one other)
unfolding twice once
moved_by_line w one other unclosed is =
    subst (λ second. twice w one other one.drawn second ≡ once w one other (drawn_after one.drawn second)) (sym is) (by_drawn one.drawn unclosed)
  where
    by_drawn : (first : DrawnPath) → is_closed first ≡ false → twice w one other first Open ≡ once w one other Open
    by_drawn Nothing open_yet = ap (λ flex. record (drawn_on w) { flex = flex }) (flex_twice w.flex one other)
    by_drawn Open open_yet = ap (λ flex. record (drawn_on w) { flex = flex }) (flex_twice w.flex one other)
    by_drawn Closed open_yet = let no : true ≡ false = open_yet in cc

moved_by_move : (w : Watches) (one other : Way) → other.drawn ≡ Nothing → moved_on (moved_on w one) other ≡ moved_on w (further one other)
unfolding twice once
moved_by_move w one other is =
    subst (λ second. twice w one other one.drawn second ≡ once w one other (drawn_after one.drawn second)) (sym is)
    (ap (λ flex. record (led_by one.drawn w) { flex = flex }) (flex_twice w.flex one other))

moved_closed : (w : Watches) (way : Way) → way.drawn ≡ Open → closed_on (moved_on w way) ≡ moved_on w (closed way)
moved_closed w way is =
    ap (λ drawn. closed_on (record (led_by drawn w) { flex = record w.flex { point = point_on w.flex.point way; moves = w.flex.moves + way.moves } })) is

-- No rule is broken at a line in the midst of a path, nor at a closepath.
no_component_fault : (components : List Component) (n : ℕ) (before : List StepView) (t : StepView) → is_seac t.token ≡ false
    → breaks (component_rules components) n before t ≡ false
unfolding component_rules
no_component_fault components n before t no_seac = rw (no_seac) refl

none_at_command : (what : Passing) (font : CheckedFont) (glyph k n : ℕ) (before after : Way) → has_latest_rules font.edition ≡ false
    → glyph < length font.value.glyphs
    → (passed : IsCommandPassed what (step_limit font) (steps_of font.value glyph) k before after) → is_seac passed.step.token ≡ false
    → breaks (step_rules font.edition) n (take k (steps_of font.value glyph)) passed.step ≡ false
    → is_broken font (glyph + 1) (k + 1) n ≡ false
none_at_command what font glyph k n before after early there passed no_seac none =
    let all : List StepView = steps_of font.value glyph in
    let components = components_of (step_limit font) font.value in
    at_step font (glyph + 1) (k + 1) glyph k n refl refl there
    ∙ within_limit (step_limit font) (rules_of font) n all k passed.near
    ∙ ap (breaks_next (rules_of font) n (take k all)) passed.there
    ∙ ap (λ (rules : List StepRule). breaks rules n (take k all) passed.step) (sym (rules_by font components refl))
    ∙ breaks_neither font.edition components (box_of font.value) n (take k all) passed.step
    (sym (both_kinds font.edition components n (take k all) passed.step false false false refl
    (sym none) (sym (no_component_fault components n (take k all) passed.step no_seac))))
    (ap (λ b. b && breaks (drawing_rules (box_of font.value)) n (take k all) passed.step) early)

none_at_move : (edition : Edition) (before : List StepView) (w : Watches) (n : ℕ) (step : StepView) (command : Commands)
    → step.token ≡ Command command → IsLed is_move_command command step.stack → IsCalm w → IsSteady w → IsUndrawn w
    → WatchesStandFor edition w before → breaks (step_rules edition) n before step ≡ false
unfolding WatchesStandFor
none_at_move edition before w n step command token move calm steady undrawn st =
    let behind_none = calm_is_behind_none edition w before st calm in
    no_fault_at_move edition n before step command token move behind_none.0 behind_none.1
    (sym st.0.begun ∙ steady.begun) (sym st.0.in_flex ∙ steady.path_flex) (sym st.0.drawn ∙ undrawn.drawn)
    (sym st.1.1.1.1.1.going_on ∙ steady.going_on)

none_at_close : (edition : Edition) (before : List StepView) (w : Watches) (n : ℕ) (step : StepView) → step.token ≡ Command Closepath
    → step.stack ≡ [] → IsCalm w → IsSteady w → IsDrawn w → WatchesStandFor edition w before → breaks (step_rules edition) n before step ≡ false
unfolding WatchesStandFor
none_at_close edition before w n step token alone calm steady drawn st =
    let behind_none = calm_is_behind_none edition w before st calm in
    no_fault_at_close edition n before step token alone behind_none.0 behind_none.1
    (sym st.0.begun ∙ steady.begun) (sym st.0.in_flex ∙ steady.path_flex) (sym st.0.drawn ∙ drawn.path)
    (sym st.1.1.1.1.1.going_on ∙ steady.going_on)

-- Which steps watchers match after the passed ones, and that no rule is broken at these.
pub record PassedOver (font : CheckedFont) (glyph n taken : ℕ) (w : Watches) (way : Way) : Type 0 where
  pub stands : WatchesStandFor font.edition (moved_on w way) (take (n + taken) (steps_of font.value glyph))
  pub quiet : (k r : ℕ) → n ≤ k → k < n + taken → is_broken font (glyph + 1) (k + 1) r ≡ false

over_number : (font : CheckedFont) (glyph n taken : ℕ) (w : Watches) (before way : Way) → glyph < length font.value.glyphs
    → PassedOver font glyph n taken w before → IsCalm w → IsPassed (step_limit font) (steps_of font.value glyph) (n + taken) → way ≡ before
    → PassedOver font glyph n (suc taken) w way
over_number font glyph n taken w before way there so_far calm passed same =
    let all : List StepView = steps_of font.value glyph in
    let k : ℕ = n + taken in
    let next : k + 1 ≡ n + suc taken = omega arith in
    let now_calm : IsCalm (moved_on w before) = calm_on w before calm in
    record {
      stands = subst (λ i. WatchesStandFor font.edition (moved_on w way) (take i all)) next
          (subst (λ (l : Way). WatchesStandFor font.edition (moved_on w l) (take (k + 1) all)) (sym same)
          (stands_more font.edition (moved_on w before) (step_limit font) all k now_calm passed so_far.stands));
      quiet = λ i r from to. elim (cases_lt i k) [
        | inl less ↦ so_far.quiet i r from less
        | inr here ↦
            let at : k ≡ i = omega (arith, here, to) in
            subst (λ j. is_broken font (glyph + 1) (j + 1) r ≡ false) at
            (none_at font (glyph + 1) glyph k r refl there passed
            (calm_is_behind_none font.edition (moved_on w before) (take k all) so_far.stands now_calm))
      ];
    }

over_command : (what : Passing) (font : CheckedFont) (glyph n taken : ℕ) (w after : Watches) (before way : Way) → has_latest_rules font.edition ≡ false
    → glyph < length font.value.glyphs → PassedOver font glyph n taken w before → (passed : IsCommandPassed what (step_limit font) (steps_of font.value glyph) (n + taken) before way)
    → is_seac passed.step.token ≡ false
    → ((r : ℕ) → breaks (step_rules font.edition) r (take (n + taken) (steps_of font.value glyph)) passed.step ≡ false)
    → WatchesStandFor font.edition after (take (n + taken) (steps_of font.value glyph) ++ passed.step ∷ []) → after ≡ moved_on w way
    → PassedOver font glyph n (suc taken) w way
over_command what font glyph n taken w after before way early there so_far passed no_seac none stands same =
    let all : List StepView = steps_of font.value glyph in
    let k : ℕ = n + taken in
    let next : k + 1 ≡ n + suc taken = omega arith in
    record {
      stands = subst (λ i. WatchesStandFor font.edition (moved_on w way) (take i all)) next
          (subst (WatchesStandFor font.edition (moved_on w way)) (sym (take_next all k passed.step passed.there))
          (subst (λ (v : Watches). WatchesStandFor font.edition v (take k all ++ passed.step ∷ [])) same stands));
      quiet = λ i r from to. elim (cases_lt i k) [
        | inl less ↦ so_far.quiet i r from less
        | inr here ↦
            let at : k ≡ i = omega (arith, here, to) in
            subst (λ j. is_broken font (glyph + 1) (j + 1) r ≡ false) at
            (none_at_command what font glyph k r before way early there passed no_seac (none r))
      ];
    }

-- Where a command can follow, the path isn't closed, and where a move can, nothing is drawn.
follows_unclosed : (command : Commands) (drawn : DrawnPath) → can_follow command drawn ≡ true → is_closed drawn ≡ false
follows_unclosed command Nothing from = refl
follows_unclosed command Open from = refl
follows_unclosed command Closed from = let no : false ≡ true = from in cc

move_follows : (command : Commands) (drawn : DrawnPath) → is_move_command command ≡ true → can_follow command drawn ≡ true → drawn ≡ Nothing
move_follows command Nothing move from = refl
move_follows command Closed move from = let no : false ≡ true = from in cc
move_follows command Open move from = absurd (no_line command move from)
  where
    no_line : (command : Commands) → is_move_command command ≡ true → is_line_command command ≡ true → ⊥
    no_line Rmoveto is line = let no : false ≡ true = line in cc
    no_line Hmoveto is line = let no : false ≡ true = line in cc
    no_line Vmoveto is line = let no : false ≡ true = line in cc
    no_line _ is line = let no : false ≡ true = is in cc

over_line : (what : Passing) (font : CheckedFont) (glyph n taken : ℕ) (w : Watches) (before way : Way) → has_latest_rules font.edition ≡ false
    → glyph < length font.value.glyphs → PassedOver font glyph n taken w before → IsCalm w → IsSteady w
    → (passed : IsCommandPassed what (step_limit font) (steps_of font.value glyph) (n + taken) before way)
    → LeadsOn what passed.command passed.step.stack before way → is_line_command passed.command ≡ true → PassedOver font glyph n (suc taken) w way
over_line what font glyph n taken w before way early there so_far calm steady passed leads line =
    let unclosed : is_closed before.drawn ≡ false = follows_unclosed passed.command before.drawn leads.from in
    let now_calm : IsCalm (moved_on w before) = calm_on w before calm in
    let now_steady : IsSteady (moved_on w before) = steady_on w before unclosed steady in
    let one : Way = way_by passed.command passed.step.stack in
    let no_seac : is_seac passed.step.token ≡ false = ap is_seac passed.token ∙ (line_token passed.command line).seac in
    over_command what font glyph n taken w (moved_on (moved_on w before) one) before way early there so_far passed no_seac
    (λ r. none_at_line font.edition (take (n + taken) (steps_of font.value glyph)) (moved_on w before) r passed.step passed.command
    passed.token (record { led = line; count = leads.is.count; near = leads.is.near }) now_calm now_steady so_far.stands)
    (stays_at_line font.edition (moved_on w before) (take (n + taken) (steps_of font.value glyph)) passed.step passed.command passed.token
    line now_calm now_steady so_far.stands)
    (moved_by_line w before one unclosed (line_open passed.command line passed.step.stack) ∙ ap (moved_on w) (sym leads.way))

over_move : (what : Passing) (font : CheckedFont) (glyph n taken : ℕ) (w : Watches) (before way : Way) → has_latest_rules font.edition ≡ false
    → glyph < length font.value.glyphs → PassedOver font glyph n taken w before → IsCalm w → IsSteady w → IsUndrawn w
    → (passed : IsCommandPassed what (step_limit font) (steps_of font.value glyph) (n + taken) before way)
    → LeadsOn what passed.command passed.step.stack before way → is_move_command passed.command ≡ true → PassedOver font glyph n (suc taken) w way
over_move what font glyph n taken w before way early there so_far calm steady undrawn passed leads move =
    let none : before.drawn ≡ Nothing = move_follows passed.command before.drawn move leads.from in
    let now_calm : IsCalm (moved_on w before) = calm_on w before calm in
    let now_steady : IsSteady (moved_on w before) = steady_on w before (ap is_closed none) steady in
    let now_undrawn : IsUndrawn (moved_on w before) = undrawn_on w before none undrawn in
    let one : Way = way_by passed.command passed.step.stack in
    let no_seac : is_seac passed.step.token ≡ false = ap is_seac passed.token ∙ (move_token passed.command move).seac in
    over_command what font glyph n taken w (moved_on (moved_on w before) one) before way early there so_far passed no_seac
    (λ r. none_at_move font.edition (take (n + taken) (steps_of font.value glyph)) (moved_on w before) r passed.step passed.command
    passed.token (record { led = move; count = leads.is.count; near = leads.is.near }) now_calm now_steady now_undrawn so_far.stands)
    (stays_at_move font.edition (moved_on w before) (take (n + taken) (steps_of font.value glyph)) passed.step passed.command passed.token
    move now_calm now_steady now_undrawn so_far.stands)
    (moved_by_move w before one (move_undrawn passed.command move passed.step.stack) ∙ ap (moved_on w) (sym leads.way))

-- A command that is passed is a line, or, where moves are passed, a move.
led_kind : (what : Passing) (command : Commands) → is_led what command ≡ true
    → (is_line_command command ≡ true) ⊎ ((is_move_command command ≡ true) × (what ≡ passing.Moves))
led_kind passing.Returned command is = let no : false ≡ true = is in cc
led_kind passing.Numbers command is = let no : false ≡ true = is in cc
led_kind passing.Lines command is = inl is
led_kind passing.Moves command is =
    elim (or_cases (is_line_command command) (is_move_command command) is) [
      | inl line ↦ inl line
      | inr move ↦ inr (move, refl)
    ]

over_one : (what : Passing) (font : CheckedFont) (glyph n taken : ℕ) (w : Watches) (before way : Way) → has_latest_rules font.edition ≡ false
    → glyph < length font.value.glyphs → PassedOver font glyph n taken w before → IsCalm w → IsSteady w → (what ≡ passing.Moves → IsUndrawn w)
    → (passed : IsCommandPassed what (step_limit font) (steps_of font.value glyph) (n + taken) before way)
    → GoesOn what passed.command passed.step.stack before way → PassedOver font glyph n (suc taken) w way
over_one what font glyph n taken w before way early there so_far calm steady undrawn passed (inl leads_on) =
    elim (led_kind what passed.command leads_on.is.led) [
      | inl line ↦ over_line what font glyph n taken w before way early there so_far calm steady passed leads_on line
      | inr move ↦ over_move what font glyph n taken w before way early there so_far calm steady (undrawn move.1) passed leads_on move.0
    ]
over_one what font glyph n taken w before way early there so_far calm steady undrawn passed (inr closes) =
    let now_calm : IsCalm (moved_on w before) = calm_on w before calm in
    let now_steady : IsSteady (moved_on w before) = steady_on w before (ap is_closed closes.drawn) steady in
    let token : passed.step.token ≡ Command Closepath = passed.token ∙ ap Command closes.closes in
    over_command what font glyph n taken w (closed_on (moved_on w before)) before way early there so_far passed (ap is_seac token)
    (λ r. none_at_close font.edition (take (n + taken) (steps_of font.value glyph)) (moved_on w before) r passed.step token closes.alone
    now_calm now_steady (drawn_by w before closes.drawn) so_far.stands)
    (stays_at_close font.edition (moved_on w before) (take (n + taken) (steps_of font.value glyph)) passed.step token now_calm now_steady
    (drawn_by w before closes.drawn) so_far.stands)
    (moved_closed w before closes.drawn ∙ ap (moved_on w) (sym closes.way))

over_step : (font : CheckedFont) (glyph n taken : ℕ) (w : Watches) (what : Passing) (before way : Way) → glyph < length font.value.glyphs
    → PassedOver font glyph n taken w before → IsCalm w → (leads what ≡ true → IsSteadyIn font.edition w) → (what ≡ passing.Moves → IsUndrawn w)
    → PassesStep what (step_limit font) (steps_of font.value glyph) (n + taken) before way → PassedOver font glyph n (suc taken) w way
over_step font glyph n taken w what before way there so_far calm steady undrawn (inl number) =
    over_number font glyph n taken w before way there so_far calm number.0 number.1
over_step font glyph n taken w what before way there so_far calm steady undrawn (inr line) =
    over_one what font glyph n taken w before way (steady line.0).0 there so_far calm (steady line.0).1 undrawn line.1 line.1.goes_on

pub passes_over : (font : CheckedFont) (glyph n taken : ℕ) (w : Watches) (what : Passing) (way : Way) → glyph < length font.value.glyphs
    → (0 < taken → IsCalm w) → (leads what ≡ true → IsSteadyIn font.edition w) → (what ≡ passing.Moves → IsUndrawn w) → WatchesStandFor font.edition w (take n (steps_of font.value glyph))
    → PassesSteps what (step_limit font) (steps_of font.value glyph) n taken way → PassedOver font glyph n taken w way
passes_over font glyph n zero w what way there calm steady undrawn st passes =
    let same : n ≡ n + 0 = omega arith in
    let where_from : w ≡ moved_on w way = sym (ap (moved_on w) passes ∙ moved_nowhere w) in
    record {
      stands = subst (λ i. WatchesStandFor font.edition (moved_on w way) (take i (steps_of font.value glyph))) same
          (subst (λ (v : Watches). WatchesStandFor font.edition v (take n (steps_of font.value glyph))) where_from st);
      quiet = λ k r from to. absurd (omega (arith, from, to));
    }
passes_over font glyph n (suc taken) w what way there calm steady undrawn st passes =
    over_step font glyph n taken w what passes.0 way there
    (passes_over font glyph n taken w what passes.0 there (λ some. calm (omega arith)) steady undrawn st passes.1.0) (calm (omega arith)) steady undrawn
    passes.1.1

-- They are there, and within the limit.
record AreThere (limit : ℕ) (all : List StepView) (n taken : ℕ) : Type 0 where
  near : n + taken ≤ limit
  within : n + taken ≤ length (take limit all) + 1

step_there : (what : Passing) (limit : ℕ) (all : List StepView) (k : ℕ) (before way : Way) → PassesStep what limit all k before way → (k < limit) × (k < length all)
step_there what limit all k before way (inl number) = (number.0.near, slice_get_within all k number.0.step number.0.there)
step_there what limit all k before way (inr line) = (line.1.near, slice_get_within all k line.1.step line.1.there)

are_there : (what : Passing) (limit : ℕ) (all : List StepView) (n taken : ℕ) (way : Way) → PassesSteps what limit all n taken way → n ≤ limit
    → n ≤ length (take limit all) + 1 → AreThere limit all n taken
are_there what limit all n zero way passes near few = record { near = omega (arith, near); within = omega (arith, few) }
are_there what limit all n (suc taken) way passes near few =
    let last = step_there what limit all (n + taken) passes.0 way passes.1.1 in
    record { near = omega (arith, last.0); within = omega (arith, last.0, last.1, length-take limit all) }

turns_there : (font : CheckedFont) (glyph n : ℕ) (limit : ℕ) → n ≤ length (take (step_limit font) (steps_of font.value glyph)) + 1 → n ≤ turns_of_glyph font glyph
unfolding turns_of_glyph
turns_there font glyph n limit few = few

turns_few : (font : CheckedFont) (glyph n : ℕ) → n ≤ turns_of_glyph font glyph → n ≤ length (take (step_limit font) (steps_of font.value glyph)) + 1
unfolding turns_of_glyph
turns_few font glyph n few = few

-- What fits watchers.
fit_calm : (edition : Edition) (what : Passing) (w : Watches) (taken : ℕ) → IsFit edition what w → (what ≡ passing.Returned → taken ≡ 0) → 0 < taken → IsCalm w
fit_calm edition passing.Returned w taken fit told some = absurd (omega (arith, told refl, some))
fit_calm edition passing.Numbers w taken fit told some = fit
fit_calm edition passing.Lines w taken fit told some = fit.0
fit_calm edition passing.Moves w taken fit told some = fit.0

fit_steady : (edition : Edition) (what : Passing) (w : Watches) → IsFit edition what w → leads what ≡ true → IsSteadyIn edition w
fit_steady edition passing.Returned w fit is = let no : false ≡ true = is in cc
fit_steady edition passing.Numbers w fit is = let no : false ≡ true = is in cc
fit_steady edition passing.Lines w fit is = fit.1
fit_steady edition passing.Moves w fit is = fit.1.0

fit_undrawn : (edition : Edition) (what : Passing) (w : Watches) → IsFit edition what w → what ≡ passing.Moves → IsUndrawn w
fit_undrawn edition passing.Returned w fit is = let no : false ≡ true = ap leads is in cc
fit_undrawn edition passing.Numbers w fit is = let no : false ≡ true = ap leads is in cc
fit_undrawn edition passing.Lines w fit is = let no : false ≡ true = ap (λ p. is_led p Rmoveto) is in cc
fit_undrawn edition passing.Moves w fit is = fit.1.1

-- After the steps that a machine passed.
pub record GoneFar (font : CheckedFont) (glyph unit from before : ℕ) (w : Watches) : Type 0 where
  pub stands : StandsBehind font glyph unit from before w
  pub near : before ≤ step_limit font
  pub moves : w.flex.moves < most_steps
  pub point : (n : ℕ) × (IsNear n w.flex.point × (n < most_steps))

gone_of : (what : Passing) (font : CheckedFont) (glyph unit from n taken : ℕ) (w : Watches) (way : Way) → IsFit font.edition what w → (what ≡ passing.Returned → taken ≡ 0)
    → unit ≡ glyph + 1 → glyph < length font.value.glyphs → n ≤ step_limit font → IsRunAt font glyph n w → IsQuiet font unit from (n + 1)
    → PassesSteps what (step_limit font) (steps_of font.value glyph) n taken way
    → GoneFar font glyph unit from (n + taken) (moved_on w way)
unfolding WatchesStandFor
gone_of what font glyph unit from n taken w way fit told at there near run quiet passes =
    let all : List StepView = steps_of font.value glyph in
    let limit : ℕ = step_limit font in
    let over : PassedOver font glyph n taken w way =
    passes_over font glyph n taken w what way there (fit_calm font.edition what w taken fit told) (fit_steady font.edition what w fit) (fit_undrawn font.edition what w fit)
    (run.seen_are (omega (arith, near, length-take n all))) passes in
    let those : AreThere limit all n taken = are_there what limit all n taken way passes near (turns_few font glyph n run.counted_few) in
    let few : length (take (n + taken) all) < most_steps = omega (arith, those.near, length-take (n + taken) all, limit_few font.edition) in
    record {
      stands = record {
        run = record { counted_few = turns_there font glyph (n + taken) limit those.within; seen_are = λ less. over.stands };
        quiet = λ s rule past less. elim (cases_lt s (n + 1)) [
          | inl before ↦ quiet s rule past before
          | inr behind ↦
              let place : s - 1 + 1 ≡ s = omega (arith, behind) in
              subst (λ u. is_broken font u s (number_of rule) ≡ false) (sym at)
              (subst (λ i. is_broken font (glyph + 1) i (number_of rule) ≡ false) place
              (over.quiet (s - 1) (number_of rule) (omega (arith, behind)) (omega (arith, behind, less))))
        ];
      };
      near = those.near;
      moves = omega (arith, over.stands.1.1.0.few_moves, few);
      point = (length (take (n + taken) all), (over.stands.1.1.0.near, few));
    }

-- The same of a machine.
of_machine : (what : Passing) (m : MachineView) (font : CheckedFont) (glyph taken : ℕ) (way : Way) → executed m ≡ font → m.glyph ≡ glyph
    → PassesSteps what (limit_of m.edition) (steps_of m.font m.glyph) m.counted taken way
    → PassesSteps what (step_limit font) (steps_of font.value glyph) m.counted taken way
of_machine what m font glyph taken way of_font of_glyph passes =
    subst (λ (f : CheckedFont). PassesSteps what (step_limit f) (steps_of f.value glyph) m.counted taken way) of_font
    (subst (λ g. PassesSteps what (limit_of m.edition) (steps_of m.font g) m.counted taken way) of_glyph passes)

pub gone_far : (what : Passing) (m new : MachineView) (answer : TurnValue) (way : Way) (w : Watches) (font : CheckedFont) (glyph unit from : ℕ)
    → IsFit m.edition what w → executed m ≡ font → m.glyph ≡ glyph → unit ≡ glyph + 1 → IsRun m w → IsQuiet font unit from (m.counted + 1)
    → m.counted ≤ step_limit font → (asked : IsAskedFar what m new answer way)
    → GoneFar font glyph unit from (m.counted + asked.taken) (moved_on w way)
gone_far what m new answer way w font glyph unit from fit of_font of_glyph at run quiet near asked =
    gone_of what font glyph unit from m.counted asked.taken w way (subst (λ (f : CheckedFont). IsFit f.edition what w) of_font fit) asked.returned at
    (subst (λ (f : CheckedFont). glyph < length f.value.glyphs) of_font (subst (λ g. g < length m.font.glyphs) of_glyph run.there))
    near (run_at font glyph m w of_font of_glyph run) quiet (of_machine what m font glyph asked.taken way of_font of_glyph asked.passed)

-- The same of a machine and its watchers alone.
pub gone_now : (what : Passing) (m new : MachineView) (answer : TurnValue) (way : Way) (w : Watches) → IsFit m.edition what w → IsRun m w
    → m.counted ≤ step_limit (executed m) → (asked : IsAskedFar what m new answer way)
    → GoneFar (executed m) m.glyph (m.glyph + 1) (m.counted + 1) (m.counted + asked.taken) (moved_on w way)
gone_now what m new answer way w fit run near asked =
    gone_far what m new answer way w (executed m) m.glyph (m.glyph + 1) (m.counted + 1) fit refl refl refl run
    (λ s r from to. absurd (omega (arith, from, to))) near asked

is_idled : (seen v : Watches) → seen ≡ v → seen ≡ idled v seen
is_idled seen v is = subst (λ (u : Watches). seen ≡ idled u seen) is refl

-- A line moves nowhere without drawing, and so no move is in a way of lines.
line_unmoved : (command : Commands) → is_line_command command ≡ true → (v : List ℤ) → (way_by command v).moves ≡ 0
line_unmoved Rlineto is v = refl
line_unmoved Hlineto is v = refl
line_unmoved Vlineto is v = refl
line_unmoved Rrcurveto is v = refl
line_unmoved Vhcurveto is v = refl
line_unmoved Hvcurveto is v = refl
line_unmoved _ is v = let no : false ≡ true = is in cc

command_unmoved : (command : Commands) (stack : List ℤ) (before way : Way) → before.moves ≡ 0 → GoesOn passing.Lines command stack before way
    → way.moves ≡ 0
command_unmoved command stack before way none (inl leads_on) =
    omega (arith, ap (λ (w : Way). w.moves) leads_on.way, none, line_unmoved command leads_on.is.led stack)
command_unmoved command stack before way none (inr closes) = ap (λ (w : Way). w.moves) closes.way ∙ none

pub unmoved : (limit : ℕ) (steps : List StepView) (n taken : ℕ) (way : Way) → PassesSteps passing.Lines limit steps n taken way → way.moves ≡ 0
unmoved limit steps n zero way passes = ap (λ (w : Way). w.moves) passes
unmoved limit steps n (suc taken) way passes = by_one passes.0 (unmoved limit steps n taken passes.0 passes.1.0) passes.1.1
  where
    by_one : (before : Way) → before.moves ≡ 0 → PassesStep passing.Lines limit steps (n + taken) before way → way.moves ≡ 0
    by_one before none (inl number) = ap (λ (w : Way). w.moves) number.1 ∙ none
    by_one before none (inr command) = command_unmoved command.1.command command.1.step.stack before way none command.1.goes_on

-- Numbers alone lead nowhere, and the watchers stay as they are.
still : (what : Passing) → leads what ≡ false → (limit : ℕ) (steps : List StepView) (n taken : ℕ) (way : Way) → PassesSteps what limit steps n taken way
    → way ≡ no_way
still what none limit steps n zero way passes = passes
still what none limit steps n (suc taken) way passes =
    by_one passes.0 (still what none limit steps n taken passes.0 passes.1.0) passes.1.1
  where
    by_one : (before : Way) → before ≡ no_way → PassesStep what limit steps (n + taken) before way → way ≡ no_way
    by_one before nowhere (inl number) = number.1 ∙ nowhere
    by_one before nowhere (inr command) = let no : false ≡ true = sym none ∙ command.0 in cc

pub has_stayed : (what : Passing) → leads what ≡ false → (m new : MachineView) (answer : TurnValue) (way : Way) (w : Watches) → IsFit m.edition what w
    → IsAskedFar what m new answer way → HasGone m w new w answer
has_stayed what none m new answer way w fit asked =
    let nowhere = still what none (limit_of m.edition) (steps_of m.font m.glyph) m.counted asked.taken way asked.passed in
    record {
      what = what;
      way = way;
      fit = fit;
      asked = asked;
      moved = is_idled w (moved_on w way) (sym (ap (moved_on w) nowhere ∙ moved_nowhere w));
    }

pub stands_idled : (font : CheckedFont) (glyph unit from before : ℕ) (v other : Watches) → StandsBehind font glyph unit from before v
    → StandsBehind font glyph unit from before (idled v other)
unfolding WatchesStandFor
stands_idled font glyph unit from before v other stands = record {
  run = record { counted_few = stands.run.counted_few; seen_are = stands.run.seen_are };
  quiet = stands.quiet;
}

-- Two laws.
pub passed_lines_break_none : PassedLinesBreakNoRule
passed_lines_break_none font glyph from count place n what w way is least less =
    let over = passes_over font glyph from count w what way is.there (λ any. is.calm) (λ on. (is.earlier, is.steady)) is.undrawn is.seen is.passed in
    let unit_is : glyph + 1 ≡ suc glyph = omega arith in
    let step_is : place + 1 ≡ suc place = omega arith in
    subst (λ unit. is_broken font unit (suc place) n ≡ false) unit_is
    (subst (λ step. is_broken font (glyph + 1) step n ≡ false) step_is (over.quiet place n least less))

pub watchers_move_on : WatchersMoveOnByLines
watchers_move_on font glyph from count what w way is =
    (passes_over font glyph from count w what way is.there (λ any. is.calm) (λ on. (is.earlier, is.steady)) is.undrawn is.seen is.passed).stands

-- What the machine returned after them: a step, or the first past the limit.
told_far : (what : Passing) (m new : MachineView) (answer : Answer) (way : Way) (step : Step) (font : CheckedFont) (glyph : ℕ) → executed m ≡ font
    → m.glyph ≡ glyph → is_over answer ≡ false → step_value step ≡ new.step
    → (asked : IsAskedFar what m new (answer_view answer new.step) way) → m.counted + asked.taken ≤ step_limit font
    → IsTold font glyph (m.counted + asked.taken) new.counted step
told_far what m new Ended way step font glyph of_font of_glyph on here asked near = let no : true ≡ false = on in cc
told_far what m new answers.Step way step font glyph of_font of_glyph on here asked near =
    told_at (behind m (m.counted + asked.taken)) font glyph new.counted step of_font of_glyph near asked.counted (inl (ap stepped here ∙ asked.turn))
told_far what m new Limit way step font glyph of_font of_glyph on here asked near =
    told_at (behind m (m.counted + asked.taken)) font glyph new.counted step of_font of_glyph near asked.counted (inr (ap limited here ∙ asked.turn))

pub turn_far : (what : Passing) (m new : MachineView) (answer : Answer) (way : Way) (step : Step) (w moved : Watches) (font : CheckedFont) (glyph unit from : ℕ)
    → IsFit m.edition what w → executed m ≡ font → m.glyph ≡ glyph → unit ≡ glyph + 1 → IsRun m w → IsQuiet font unit from (m.counted + 1)
    → m.counted ≤ step_limit font → is_over answer ≡ false → step_value step ≡ new.step → (asked : IsAskedFar what m new (answer_view answer new.step) way)
    → moved ≡ idled (moved_on w way) moved → IsTurn font glyph unit from m.counted (m.counted + asked.taken) new.counted moved step
turn_far what m new answer way step w moved font glyph unit from fit of_font of_glyph at run quiet near on here asked is =
    let gone = gone_far what m new (answer_view answer new.step) way w font glyph unit from fit of_font of_glyph at run quiet near asked in
    record {
      least = omega arith;
      stands = subst (StandsBehind font glyph unit from (m.counted + asked.taken)) (sym is)
          (stands_idled font glyph unit from (m.counted + asked.taken) (moved_on w way) moved gone.stands);
      told = told_far what m new answer way step font glyph of_font of_glyph on here asked gone.near;
    }

-- Or that there is none.
pub ended_far : (what : Passing) (m new : MachineView) (answer : Answer) (way : Way) (font : CheckedFont) (glyph : ℕ) → executed m ≡ font → m.glyph ≡ glyph
    → is_over answer ≡ true → (asked : IsAskedFar what m new (answer_view answer new.step) way) → m.counted + asked.taken ≤ turns_of_glyph font glyph
    → EndsBehind font glyph (m.counted + asked.taken) new.counted
ended_far what m new answer way font glyph of_font of_glyph is asked few =
    let over = told_end (behind m (m.counted + asked.taken)) font glyph of_font of_glyph (ended_view answer new.step is ∙ asked.turn) in
    record { over = over; counted_is = count_at_end (behind m (m.counted + asked.taken)) font glyph new.counted of_font of_glyph over few asked.counted }

-- The answer says whether that step is past the limit.
pub past_far : (what : Passing) (m new : MachineView) (answer : Answer) (way : Way) (step : Step) (font : CheckedFont) → executed m ≡ font
    → is_over answer ≡ false → step_value step ≡ new.step → IsAskedFar what m new (answer_view answer new.step) way
    → is_limit answer ≡ nat_lt (step_limit font) step.number
past_far what m new Ended way step font of_font on here asked = let no : true ≡ false = on in cc
past_far what m new answers.Step way step font of_font on here asked =
    let limit = limit_of m.edition in
    let all : List StepView = steps_of m.font m.glyph in
    let same : limit ≡ step_limit font = ap (λ (f : CheckedFont). step_limit f) of_font in
    let is = stepped_is limit all (m.counted + asked.taken) (step_value step) (ap stepped here ∙ asked.turn) in
    sym (le-ltb (step_limit font) step.number (omega (arith, is.within, is.number, same, length-take limit all)))
past_far what m new Limit way step font of_font on here asked =
    let limit = limit_of m.edition in
    let all : List StepView = steps_of m.font m.glyph in
    let same : limit ≡ step_limit font = ap (λ (f : CheckedFont). step_limit f) of_font in
    let is = limited_is limit all (m.counted + asked.taken) (step_value step) (ap limited here ∙ asked.turn) in
    sym (lt-ltb (step_limit font) step.number (omega (arith, is.number, same)))
