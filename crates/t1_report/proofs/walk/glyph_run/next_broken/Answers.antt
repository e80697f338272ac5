use Rattle.std.proofs.Common.{◌≡◌, nat_lt, ◌+◌, ◌≤◌, ◌++◌, ◌∷◌, [], take, refl, ap, sym, subst, ◌∙◌, arith}
use Rattle.std.proofs.lemmas.Bool.{ltb-false, ltb-true, not-false, not-true}
use Rattle.t1_char.specs.Editions.{has_latest_rules, limit_of}
use Rattle.t1_char.specs.Steps.{steps_of}
use Rattle.t1_char.specs.StepValues.{step_view}
use Rattle.t1_report.proofs.GlyphSteps.{is_next_by}
use Rattle.t1_rules.specs.Steady.{moved_on}
use Rattle.t1_report.proofs.PassedLines.{GoneFar, ended_far, gone_far, past_far, stands_idled, turn_far}
use Rattle.t1_report.proofs.PassedNumbers.{EndsBehind, IsTurn, StandsBehind, fewer_turns_left}
use Rattle.t1_report.proofs.RunSteps.{found_at, quiet_limit, quiet_more, quiet_over, run_at, run_more, run_of, run_over, step_agrees, turns_at_limit}
use Rattle.t1_drawing.specs.DrawingRules.{box_of}
use Rattle.t1_report.specs.Checked.{CheckedFont, step_limit}
use Rattle.t1_report.specs.Private.Units.{IsQuiet, executed}
use Rattle.t1_report.specs.Private.Reporting.{HaveDrawn, HaveSeen}
use Rattle.t1_report.proofs.DrawnRuns.{drawn_far, drawn_more, drawn_of, drawn_over}
use Rattle.t1_report.proofs.walk.glyph_run.next_broken.Goals as goal

-- The glyph is over.
abbrev gone : (c : goal.Then-is_over) → GoneFar (executed c.args.machine.now) c.args.machine.now.glyph c.args.unit (c.args.machine.now.counted + 1)
    (c.loop-on.machine.counted + c.go_on-answer.ensures.asked.asked.taken) (moved_on c.loop-on.watches c.go_on-answer.ensures.asked.way)
gone c =
    gone_far c.go_on-answer.ensures.asked.what c.loop-on.machine c.go_on-answer.new.machine _ c.go_on-answer.ensures.asked.way c.loop-on.watches (executed c.args.machine.now)
    c.args.machine.now.glyph c.args.unit (c.args.machine.now.counted + 1)
    c.go_on-answer.ensures.asked.fit c.loop-on.invariant.font c.loop-on.invariant.glyph c.requires.unit c.loop-on.invariant.run
    c.loop-on.invariant.quiet
    (c.loop-on.invariant.near c.loop-on-test.true) c.go_on-answer.ensures.asked.asked

abbrev stands : (c : goal.Then-is_over) → StandsBehind (executed c.args.machine.now) c.args.machine.now.glyph c.args.unit (c.args.machine.now.counted + 1)
    (c.loop-on.machine.counted + c.go_on-answer.ensures.asked.asked.taken) c.go_on-answer.new.watches
stands c =
    subst (StandsBehind (executed c.args.machine.now) c.args.machine.now.glyph c.args.unit (c.args.machine.now.counted + 1)
    (c.loop-on.machine.counted + c.go_on-answer.ensures.asked.asked.taken)) (sym c.go_on-answer.ensures.asked.moved)
    (stands_idled (executed c.args.machine.now) c.args.machine.now.glyph c.args.unit (c.args.machine.now.counted + 1)
    (c.loop-on.machine.counted + c.go_on-answer.ensures.asked.asked.taken) (moved_on c.loop-on.watches c.go_on-answer.ensures.asked.way)
    c.go_on-answer.new.watches (gone c).stands)

abbrev ended : (c : goal.Then-is_over) → EndsBehind (executed c.args.machine.now) c.args.machine.now.glyph
    (c.loop-on.machine.counted + c.go_on-answer.ensures.asked.asked.taken) c.go_on-answer.new.machine.counted
ended c =
    ended_far c.go_on-answer.ensures.asked.what c.loop-on.machine c.go_on-answer.new.machine c.go_on-answer.result c.go_on-answer.ensures.asked.way
    (executed c.args.machine.now) c.args.machine.now.glyph c.loop-on.invariant.font c.loop-on.invariant.glyph
    (sym c.is_over.ensures ∙ c.if-is_over.true) c.go_on-answer.ensures.asked.asked (stands c).run.counted_few

-- The machine is within the limit.
pub go_on-answer-requires-clause-near : goal.go_on-answer-requires-clause-near
go_on-answer-requires-clause-near c =
    subst (λ (f : CheckedFont). c.loop-on.machine.counted ≤ step_limit f) (sym c.loop-on.invariant.font) (c.loop-on.invariant.near c.loop-on-test.true)

pub returns-then-is_over-clause-found : goal.returns-then-is_over-clause-found
returns-then-is_over-clause-found c =
    quiet_over (executed c.args.machine.now) c.args.unit c.args.machine.now.glyph (c.args.machine.now.counted + 1) (c.loop-on.machine.counted + c.go_on-answer.ensures.asked.asked.taken) c.requires.unit
    (ended c).over (stands c).quiet

pub returns-then-is_over-clause-counted : goal.returns-then-is_over-clause-counted
returns-then-is_over-clause-counted c = (ended c).counted_is

pub returns-then-is_over-clause-run : goal.returns-then-is_over-clause-run
returns-then-is_over-clause-run c =
    let font = executed c.args.machine.now in
    let glyph = c.args.machine.now.glyph in
    run_of font glyph c.go_on-answer.new.machine c.go_on-answer.new.watches
    (c.go_on-answer.ensures.font ∙ c.loop-on.invariant.font)
    (c.go_on-answer.ensures.glyph ∙ c.loop-on.invariant.glyph) c.requires.run.there
    (run_over font glyph (c.loop-on.machine.counted + c.go_on-answer.ensures.asked.asked.taken) c.go_on-answer.new.machine.counted c.go_on-answer.new.watches (ended c).over (ended c).counted_is (stands c).run)

pub returns-then-is_over-clause-drawn : goal.returns-then-is_over-clause-drawn
returns-then-is_over-clause-drawn c =
    let font = executed c.args.machine.now in
    let glyph = c.args.machine.now.glyph in
    let n = c.loop-on.machine.counted + c.go_on-answer.ensures.asked.asked.taken in
    drawn_of font glyph c.go_on-answer.new.machine c.loop-on.drawing
    (c.go_on-answer.ensures.font ∙ c.loop-on.invariant.font)
    (c.go_on-answer.ensures.glyph ∙ c.loop-on.invariant.glyph)
    (drawn_over font glyph n c.go_on-answer.new.machine.counted c.loop-on.drawing (ended c).over (ended c).counted_is
    (drawn_far c.go_on-answer.ensures.asked.what c.loop-on.machine c.go_on-answer.new.machine _ c.go_on-answer.ensures.asked.way c.loop-on.watches
    c.loop-on.drawing font glyph c.go_on-answer.ensures.asked.fit c.loop-on.invariant.font c.loop-on.invariant.glyph
    (c.loop-on.invariant.near c.loop-on-test.true) c.loop-on.invariant.drawn c.go_on-answer.ensures.asked.asked))

-- What is drawn stands for a font and its edition.
pub go_on-answer-requires-clause-draws : goal.go_on-answer-requires-clause-draws
go_on-answer-requires-clause-draws c =
    c.requires.draws ∙ sym (ap (λ (f : CheckedFont). has_latest_rules f.edition) c.loop-on.invariant.font)

pub broken_at-rules-requires-clause-draws : goal.broken_at-rules-requires-clause-draws
broken_at-rules-requires-clause-draws c = c.requires.draws ∙ ap has_latest_rules (sym c.requires.edition)

-- The step, and that it is the next one for the watchers.
pub broken_at-rules-requires-clause-next : goal.broken_at-rules-requires-clause-next
broken_at-rules-requires-clause-next c =
    let font = executed c.args.machine.now in
    let all = steps_of font.value c.args.machine.now.glyph in
    let turn =
    turn_far c.go_on-answer.ensures.asked.what c.loop-on.machine c.go_on-answer.new.machine c.go_on-answer.result c.go_on-answer.ensures.asked.way c.current-step.result.now
    c.loop-on.watches c.go_on-answer.new.watches
    (executed c.args.machine.now) c.args.machine.now.glyph c.args.unit (c.args.machine.now.counted + 1)
    c.go_on-answer.ensures.asked.fit c.loop-on.invariant.font c.loop-on.invariant.glyph c.requires.unit c.loop-on.invariant.run
    c.loop-on.invariant.quiet
    (c.loop-on.invariant.near c.loop-on-test.true)
    (sym c.is_over.ensures ∙ c.if-is_over.false) c.current-step.ensures c.go_on-answer.ensures.asked.asked c.go_on-answer.ensures.asked.moved in
    let n = c.loop-on.machine.counted + c.go_on-answer.ensures.asked.asked.taken in
    let drawn = drawn_far c.go_on-answer.ensures.asked.what c.loop-on.machine c.go_on-answer.new.machine _ c.go_on-answer.ensures.asked.way c.loop-on.watches
    c.loop-on.drawing font c.args.machine.now.glyph c.go_on-answer.ensures.asked.fit c.loop-on.invariant.font c.loop-on.invariant.glyph
    (c.loop-on.invariant.near c.loop-on-test.true) c.loop-on.invariant.drawn c.go_on-answer.ensures.asked.asked in (
      box_of font.value,
      (
        take n all,
        is_next_by c.args.sidebearings.now.edition font.edition c.requires.edition (box_of font.value) all c.go_on-answer.new.watches c.loop-on.drawing n
            c.current-step.result.now turn.told.listed turn.stands.run.seen_are drawn,
      ),
    )

pub broken_at-rules-requires-clause-past : goal.broken_at-rules-requires-clause-past
broken_at-rules-requires-clause-past c =
    c.is_limit-is_past.ensures
    ∙ past_far c.go_on-answer.ensures.asked.what c.loop-on.machine c.go_on-answer.new.machine c.go_on-answer.result c.go_on-answer.ensures.asked.way c.current-step.result.now
    (executed c.args.machine.now) c.loop-on.invariant.font (sym c.is_over.ensures ∙ c.if-is_over.false) c.current-step.ensures
    c.go_on-answer.ensures.asked.asked
    ∙ ap (λ e. nat_lt (limit_of e) c.current-step.result.now.number) (sym c.requires.edition)

-- A rule is broken at it.
abbrev turn_broken : (c : goal.After-copy_of) → IsTurn (executed c.args.machine.now) c.args.machine.now.glyph c.args.unit (c.args.machine.now.counted + 1)
    c.loop-on.machine.counted (c.loop-on.machine.counted + c.go_on-answer.ensures.asked.asked.taken) c.go_on-answer.new.machine.counted c.go_on-answer.new.watches c.current-step.result.now
turn_broken c =
    turn_far c.go_on-answer.ensures.asked.what c.loop-on.machine c.go_on-answer.new.machine c.go_on-answer.result c.go_on-answer.ensures.asked.way c.current-step.result.now
    c.loop-on.watches c.go_on-answer.new.watches
    (executed c.args.machine.now) c.args.machine.now.glyph c.args.unit (c.args.machine.now.counted + 1)
    c.go_on-answer.ensures.asked.fit c.loop-on.invariant.font c.loop-on.invariant.glyph c.requires.unit c.loop-on.invariant.run
    c.loop-on.invariant.quiet
    (c.loop-on.invariant.near c.loop-on-test.true)
    (sym c.is_over.ensures ∙ c.if-is_over.false) c.current-step.ensures c.go_on-answer.ensures.asked.asked c.go_on-answer.ensures.asked.moved

pub returns-then-has_rules-clause-found : goal.returns-then-has_rules-clause-found
returns-then-has_rules-clause-found c =
    let font = executed c.args.machine.now in
    let glyph = c.args.machine.now.glyph in
    let turn = turn_broken c in
    let n = c.loop-on.machine.counted + c.go_on-answer.ensures.asked.asked.taken in
    let step = c.current-step.result.now in
    let drawn = drawn_far c.go_on-answer.ensures.asked.what c.loop-on.machine c.go_on-answer.new.machine _ c.go_on-answer.ensures.asked.way c.loop-on.watches
    c.loop-on.drawing font glyph c.go_on-answer.ensures.asked.fit c.loop-on.invariant.font c.loop-on.invariant.glyph
    (c.loop-on.invariant.near c.loop-on-test.true) c.loop-on.invariant.drawn c.go_on-answer.ensures.asked.asked in
    let next = is_next_by c.args.sidebearings.now.edition font.edition c.requires.edition (box_of font.value) (steps_of font.value glyph)
    c.go_on-answer.new.watches c.loop-on.drawing n step turn.told.listed turn.stands.run.seen_are drawn in
    let agrees = step_agrees font c.args.unit glyph n step c.args.sidebearings.now c.broken_at-rules.result c.requires.unit c.requires.run.there
    turn.told.listed c.requires.sidebearings c.requires.edition
    (λ k. c.broken_at-rules.ensures.broken (box_of font.value) (take n (steps_of font.value glyph)) next k) in
    found_at font c.args.unit glyph (c.args.machine.now.counted + 1) n step _ c.requires.run.there c.requires.unit turn.told.listed
    (omega (arith, c.loop-on.invariant.least, turn.least)) turn.stands.quiet
    refl refl c.copy_of.ensures agrees

pub returns-then-has_rules-clause-counted : goal.returns-then-has_rules-clause-counted
returns-then-has_rules-clause-counted c = (turn_broken c).told.counted_is ∙ sym (turn_broken c).told.listed.number

pub returns-then-has_rules-clause-run : goal.returns-then-has_rules-clause-run
returns-then-has_rules-clause-run c =
    let font = executed c.args.machine.now in
    let glyph = c.args.machine.now.glyph in
    let turn = turn_broken c in
    let n = c.loop-on.machine.counted + c.go_on-answer.ensures.asked.asked.taken in
    let step = c.current-step.result.now in
    let drawn = drawn_far c.go_on-answer.ensures.asked.what c.loop-on.machine c.go_on-answer.new.machine _ c.go_on-answer.ensures.asked.way c.loop-on.watches
    c.loop-on.drawing font glyph c.go_on-answer.ensures.asked.fit c.loop-on.invariant.font c.loop-on.invariant.glyph
    (c.loop-on.invariant.near c.loop-on-test.true) c.loop-on.invariant.drawn c.go_on-answer.ensures.asked.asked in
    let next = is_next_by c.args.sidebearings.now.edition font.edition c.requires.edition (box_of font.value) (steps_of font.value glyph)
    c.go_on-answer.new.watches c.loop-on.drawing n step turn.told.listed turn.stands.run.seen_are drawn in
    run_of font glyph c.go_on-answer.new.machine c.broken_at-rules.new.watches
    (c.go_on-answer.ensures.font ∙ c.loop-on.invariant.font)
    (c.go_on-answer.ensures.glyph ∙ c.loop-on.invariant.glyph) c.requires.run.there
    (run_more font glyph n c.go_on-answer.new.machine.counted step c.broken_at-rules.new.watches turn.told
    (subst (λ e. HaveSeen e c.broken_at-rules.new.watches (take n (steps_of font.value glyph) ++ step_view step ∷ [])) c.requires.edition
    (c.broken_at-rules.ensures.seen (box_of font.value) (take n (steps_of font.value glyph)) next)))

pub returns-then-has_rules-clause-drawn : goal.returns-then-has_rules-clause-drawn
returns-then-has_rules-clause-drawn c =
    let font = executed c.args.machine.now in
    let glyph = c.args.machine.now.glyph in
    let turn = turn_broken c in
    let n = c.loop-on.machine.counted + c.go_on-answer.ensures.asked.asked.taken in
    let step = c.current-step.result.now in
    let drawn = drawn_far c.go_on-answer.ensures.asked.what c.loop-on.machine c.go_on-answer.new.machine _ c.go_on-answer.ensures.asked.way c.loop-on.watches
    c.loop-on.drawing font glyph c.go_on-answer.ensures.asked.fit c.loop-on.invariant.font c.loop-on.invariant.glyph
    (c.loop-on.invariant.near c.loop-on-test.true) c.loop-on.invariant.drawn c.go_on-answer.ensures.asked.asked in
    let next = is_next_by c.args.sidebearings.now.edition font.edition c.requires.edition (box_of font.value) (steps_of font.value glyph)
    c.go_on-answer.new.watches c.loop-on.drawing n step turn.told.listed turn.stands.run.seen_are drawn in
    drawn_of font glyph c.go_on-answer.new.machine c.broken_at-rules.new.drawing
    (c.go_on-answer.ensures.font ∙ c.loop-on.invariant.font)
    (c.go_on-answer.ensures.glyph ∙ c.loop-on.invariant.glyph)
    (drawn_more font glyph n c.go_on-answer.new.machine.counted step c.broken_at-rules.new.drawing turn.told
    (subst (λ e. HaveDrawn e (box_of font.value) c.broken_at-rules.new.drawing (take n (steps_of font.value glyph) ++ step_view step ∷ [])) c.requires.edition
    (c.broken_at-rules.ensures.drawn (box_of font.value) (take n (steps_of font.value glyph)) next)))

-- No rule is broken at it.
abbrev turn_quiet : (c : goal.Else-has_rules) → IsTurn (executed c.args.machine.now) c.args.machine.now.glyph c.args.unit (c.args.machine.now.counted + 1)
    c.loop-on.machine.counted (c.loop-on.machine.counted + c.go_on-answer.ensures.asked.asked.taken) c.go_on-answer.new.machine.counted c.go_on-answer.new.watches c.current-step.result.now
turn_quiet c =
    turn_far c.go_on-answer.ensures.asked.what c.loop-on.machine c.go_on-answer.new.machine c.go_on-answer.result c.go_on-answer.ensures.asked.way c.current-step.result.now
    c.loop-on.watches c.go_on-answer.new.watches
    (executed c.args.machine.now) c.args.machine.now.glyph c.args.unit (c.args.machine.now.counted + 1)
    c.go_on-answer.ensures.asked.fit c.loop-on.invariant.font c.loop-on.invariant.glyph c.requires.unit c.loop-on.invariant.run
    c.loop-on.invariant.quiet
    (c.loop-on.invariant.near c.loop-on-test.true)
    (sym c.is_over.ensures ∙ c.if-is_over.false) c.current-step.ensures c.go_on-answer.ensures.asked.asked c.go_on-answer.ensures.asked.moved

-- Whether it is past the limit.
abbrev past_is : (c : goal.Else-has_rules) → c.is_limit-is_past.result ≡ nat_lt (step_limit (executed c.args.machine.now)) c.current-step.result.now.number
past_is c =
    c.is_limit-is_past.ensures
    ∙ past_far c.go_on-answer.ensures.asked.what c.loop-on.machine c.go_on-answer.new.machine c.go_on-answer.result c.go_on-answer.ensures.asked.way c.current-step.result.now
    (executed c.args.machine.now) c.loop-on.invariant.font (sym c.is_over.ensures ∙ c.if-is_over.false) c.current-step.ensures
    c.go_on-answer.ensures.asked.asked

pub loop-on-smaller : goal.loop-on-smaller
loop-on-smaller c =
    fewer_turns_left (executed c.args.machine.now) c.args.machine.now.glyph c.args.unit (c.args.machine.now.counted + 1) c.loop-on.machine.counted
    (c.loop-on.machine.counted + c.go_on-answer.ensures.asked.asked.taken) c.go_on-answer.new.machine.counted c.go_on-answer.new.watches c.current-step.result.now (turn_quiet c)
    (c.loop-on.invariant.near c.loop-on-test.true)

pub loop-on-preserved : goal.loop-on-preserved
loop-on-preserved c =
    let font = executed c.args.machine.now in
    let glyph = c.args.machine.now.glyph in
    let turn = turn_quiet c in
    let n = c.loop-on.machine.counted + c.go_on-answer.ensures.asked.asked.taken in
    let step = c.current-step.result.now in
    let drawn = drawn_far c.go_on-answer.ensures.asked.what c.loop-on.machine c.go_on-answer.new.machine _ c.go_on-answer.ensures.asked.way c.loop-on.watches
    c.loop-on.drawing font glyph c.go_on-answer.ensures.asked.fit c.loop-on.invariant.font c.loop-on.invariant.glyph
    (c.loop-on.invariant.near c.loop-on-test.true) c.loop-on.invariant.drawn c.go_on-answer.ensures.asked.asked in
    let next = is_next_by c.args.sidebearings.now.edition font.edition c.requires.edition (box_of font.value) (steps_of font.value glyph)
    c.go_on-answer.new.watches c.loop-on.drawing n step turn.told.listed turn.stands.run.seen_are drawn in
    let agrees = step_agrees font c.args.unit glyph n step c.args.sidebearings.now c.broken_at-rules.result c.requires.unit c.requires.run.there
    turn.told.listed c.requires.sidebearings c.requires.edition
    (λ k. c.broken_at-rules.ensures.broken (box_of font.value) (take n (steps_of font.value glyph)) next k) in
    let of_font = c.go_on-answer.ensures.font ∙ c.loop-on.invariant.font in
    let of_glyph = c.go_on-answer.ensures.glyph ∙ c.loop-on.invariant.glyph in
    record {
      run = run_of font glyph c.go_on-answer.new.machine c.broken_at-rules.new.watches of_font of_glyph c.requires.run.there
          (run_more font glyph n c.go_on-answer.new.machine.counted step c.broken_at-rules.new.watches turn.told
          (subst (λ e. HaveSeen e c.broken_at-rules.new.watches (take n (steps_of font.value glyph) ++ step_view step ∷ [])) c.requires.edition
          (c.broken_at-rules.ensures.seen (box_of font.value) (take n (steps_of font.value glyph)) next)));
      drawn = drawn_of font glyph c.go_on-answer.new.machine c.broken_at-rules.new.drawing of_font of_glyph
          (drawn_more font glyph n c.go_on-answer.new.machine.counted step c.broken_at-rules.new.drawing turn.told
          (subst (λ e. HaveDrawn e (box_of font.value) c.broken_at-rules.new.drawing (take n (steps_of font.value glyph) ++ step_view step ∷ [])) c.requires.edition
          (c.broken_at-rules.ensures.drawn (box_of font.value) (take n (steps_of font.value glyph)) next)));
      font = of_font;
      glyph = of_glyph;
      quiet = subst (λ k. IsQuiet font c.args.unit (c.args.machine.now.counted + 1) (k + 1)) (sym turn.told.counted_is)
          (quiet_more font c.args.unit (c.args.machine.now.counted + 1) n step c.broken_at-rules.result turn.told.listed.number turn.stands.quiet agrees
          (c.has_rules.ensures c.if-has_rules.false));
      least = omega (arith, c.loop-on.invariant.least, turn.least, turn.told.counted_is);
      near = λ on. omega (
        arith,
        ltb-false (step_limit font) step.number (sym (past_is c) ∙ not-true c.is_limit-is_past.result on),
        turn.told.counted_is,
        turn.told.listed.number,
      );
      past = λ off. omega (
        arith,
        ltb-true (step_limit font) step.number (sym (past_is c) ∙ not-false c.is_limit-is_past.result off),
        turn.told.counted_is,
        turn.told.listed.number,
      );
    }

pub returns-clause-found : goal.returns-clause-found
returns-clause-found c =
    quiet_limit (executed c.args.machine.now) c.args.unit c.args.machine.now.glyph (c.args.machine.now.counted + 1)
    c.loop-on.machine.counted c.requires.unit
    (c.loop-on.invariant.past c.loop-on-test.false) c.loop-on.invariant.quiet

pub returns-clause-counted : goal.returns-clause-counted
returns-clause-counted c =
    let font = executed c.args.machine.now in
    let glyph = c.args.machine.now.glyph in
    turns_at_limit font glyph c.loop-on.machine.counted
    (c.loop-on.invariant.past c.loop-on-test.false)
    (run_at font glyph c.loop-on.machine c.loop-on.watches c.loop-on.invariant.font c.loop-on.invariant.glyph
    c.loop-on.invariant.run).counted_few
