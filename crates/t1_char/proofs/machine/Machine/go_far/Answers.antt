use Rattle.std.proofs.Common.{◌+◌, sym, subst, arith}
use Rattle.t1_char.specs.declared.machine.Answer.TheVariants.{Step, Ended, Limit}
use Rattle.t1_char.specs.AnswerViews.{answer_view}
use Rattle.t1_char.specs.Editions.{limit_of}
use Rattle.t1_char.specs.Lines.{IsAskedFarBehind, no_way}
use Rattle.t1_char.specs.Steps.{steps_of}
use Rattle.t1_char.specs.StepValues.{step_value}
use Rattle.t1_char.specs.Private.Machines.{IsAt}
use Rattle.t1_char.proofs.MachineSteps.{Answers, asked_far, asked_far_none, has_read, still_goes_on, answers_end, answers_step, answers_limit}
use Rattle.t1_char.proofs.machine.Machine.go_far.Goals as goal

-- The glyph is finished.
pub invariant_of-self : goal.invariant_of-self
invariant_of-self c =
    let m = c.self.inside in
    let over : Answers (limit_of m.edition) (steps_of m.font.now m.glyph) m.font.now m.counted Ended c.execute.new.self =
    answers_end (limit_of m.edition) (steps_of m.font.now m.glyph) m.font.now m.counted m.frames c.execute.new.self
    (still_goes_on (limit_of m.edition) (steps_of m.font.now m.glyph) m.font.now m.counted m.answer m.frames c.in-Step.is c.self.invariant.0)
    c.if-not-execute.ensures.steps in
    (over.stands, c.self.invariant.1)

pub returns-then-not-execute-clause-asked : goal.returns-then-not-execute-clause-asked
returns-then-not-execute-clause-asked c =
    let m = c.self.inside in
    let over : Answers (limit_of m.edition) (steps_of m.font.now m.glyph) m.font.now m.counted Ended c.execute.new.self =
    answers_end (limit_of m.edition) (steps_of m.font.now m.glyph) m.font.now m.counted m.frames c.execute.new.self
    (still_goes_on (limit_of m.edition) (steps_of m.font.now m.glyph) m.font.now m.counted m.answer m.frames c.in-Step.is c.self.invariant.0)
    c.if-not-execute.ensures.steps in
    subst (λ view. IsAskedFarBehind c.args.passing (limit_of view.edition) (steps_of view.font view.glyph) view.counted (m.counted + 1)
    (answer_view Ended (step_value c.execute.new.self.step)) no_way) c.self.view_is
    (asked_far_none c.args.passing (limit_of m.edition) (steps_of m.font.now m.glyph) m.font.now m.counted Ended c.execute.new.self over)

-- The step past the limit was read.
pub invariant_of-self-then-self : goal.invariant_of-self-then-self
invariant_of-self-then-self c =
    let m = c.self.inside in
    let read = has_read c.args.passing (limit_of m.edition) m.limit (steps_of m.font.now m.glyph) m.font.now m.counted c.advance-gone.result m.answer m.frames
    c.execute.new.self c.advance-gone.new.self c.self.invariant.1 c.in-Step.is c.self.invariant.0 c.if-not-execute.ensures.steps
    c.if-not-execute.ensures.even c.advance-gone.ensures.over in
    let answers = answers_limit (limit_of m.edition) (steps_of m.font.now m.glyph) m.font.now c.advance-gone.result.before read.passed
    c.advance-gone.new.self read.behind read.next (omega (arith, c.self.invariant.1, c.if-self.true)) in
    (answers.stands, c.self.invariant.1)

pub returns-then-self-clause-asked : goal.returns-then-self-clause-asked
returns-then-self-clause-asked c =
    let m = c.self.inside in
    let read = has_read c.args.passing (limit_of m.edition) m.limit (steps_of m.font.now m.glyph) m.font.now m.counted c.advance-gone.result m.answer m.frames
    c.execute.new.self c.advance-gone.new.self c.self.invariant.1 c.in-Step.is c.self.invariant.0 c.if-not-execute.ensures.steps
    c.if-not-execute.ensures.even c.advance-gone.ensures.over in
    let answers = answers_limit (limit_of m.edition) (steps_of m.font.now m.glyph) m.font.now c.advance-gone.result.before read.passed
    c.advance-gone.new.self read.behind read.next (omega (arith, c.self.invariant.1, c.if-self.true)) in
    subst (λ view. IsAskedFarBehind c.args.passing (limit_of view.edition) (steps_of view.font view.glyph) view.counted
    (c.advance-gone.result.before + 1) (answer_view Limit (step_value c.advance-gone.new.self.step)) c.advance-gone.result.way) c.self.view_is
    (asked_far c.args.passing (limit_of m.edition) (steps_of m.font.now m.glyph) m.font.now m.counted c.advance-gone.result.before read.taken
    c.advance-gone.result.way read.passed Limit c.advance-gone.new.self read.taken_is read.gone_far c.advance-gone.ensures.returned answers)

-- The next step was read.
pub invariant_of-self-else-self : goal.invariant_of-self-else-self
invariant_of-self-else-self c =
    let m = c.self.inside in
    let read = has_read c.args.passing (limit_of m.edition) m.limit (steps_of m.font.now m.glyph) m.font.now m.counted c.advance-gone.result m.answer m.frames
    c.execute.new.self c.advance-gone.new.self c.self.invariant.1 c.in-Step.is c.self.invariant.0 c.if-not-execute.ensures.steps
    c.if-not-execute.ensures.even c.advance-gone.ensures.over in
    let answers = answers_step (limit_of m.edition) (steps_of m.font.now m.glyph) m.font.now c.advance-gone.result.before read.passed
    c.advance-gone.new.self read.behind read.next (omega (arith, c.self.invariant.1, c.if-self.false)) in (
      subst (λ answer. IsAt (limit_of m.edition) (steps_of m.font.now m.glyph) m.font.now (c.advance-gone.result.before + 1) answer
          c.advance-gone.new.self) (sym c.in-Step.is) answers.stands,
      c.self.invariant.1,
    )

pub returns-else-self-clause-asked : goal.returns-else-self-clause-asked
returns-else-self-clause-asked c =
    let m = c.self.inside in
    let read = has_read c.args.passing (limit_of m.edition) m.limit (steps_of m.font.now m.glyph) m.font.now m.counted c.advance-gone.result m.answer m.frames
    c.execute.new.self c.advance-gone.new.self c.self.invariant.1 c.in-Step.is c.self.invariant.0 c.if-not-execute.ensures.steps
    c.if-not-execute.ensures.even c.advance-gone.ensures.over in
    let answers = answers_step (limit_of m.edition) (steps_of m.font.now m.glyph) m.font.now c.advance-gone.result.before read.passed
    c.advance-gone.new.self read.behind read.next (omega (arith, c.self.invariant.1, c.if-self.false)) in
    subst (λ view. IsAskedFarBehind c.args.passing (limit_of view.edition) (steps_of view.font view.glyph) view.counted
    (c.advance-gone.result.before + 1) (answer_view Step (step_value c.advance-gone.new.self.step)) c.advance-gone.result.way) c.self.view_is
    (asked_far c.args.passing (limit_of m.edition) (steps_of m.font.now m.glyph) m.font.now m.counted c.advance-gone.result.before read.taken
    c.advance-gone.result.way read.passed Step c.advance-gone.new.self read.taken_is read.gone_far c.advance-gone.ensures.returned answers)
