use Rattle.std.proofs.Common.{ap, ◌∙◌, arith}
use Rattle.t1_char.specs.Effects.{effect, calls, returns, state_of}
use Rattle.t1_char.proofs.Executing.{effect_at_depth, executed_goes, executed_calls, executed_returns, executed_finishes}
use Rattle.t1_char.proofs.frames.Frames.execute_other.Goals as goal

pub returns-in-Goes-clause-steps : goal.returns-in-Goes-clause-steps
returns-in-Goes-clause-steps c =
    executed_goes c.args.font.now c.args.self.now (state_of c.apply.new.stack c.apply.new.waiting.items) c.requires
    (c.in-Goes.ensures.effect ∙ effect_at_depth c.args.self.now _ c.len-depth.ensures.value)

pub returns-in-Calls-clause-steps : goal.returns-in-Calls-clause-steps
returns-in-Calls-clause-steps c =
    executed_calls c.args.font.now c.args.self.now c.enter.new.self c.in-Calls.subr.number c.in-Calls.subr.code.now c.requires
    (omega (arith, c.in-Calls.ensures.nested, c.len-depth.ensures.value))
    (ap (λ s. effect s (calls c.in-Calls.subr.number c.in-Calls.subr.code.now)) c.enter.ensures.state ∙ c.in-Calls.ensures.effect
    ∙ effect_at_depth c.args.self.now _ c.len-depth.ensures.value)
    c.enter.ensures.path c.enter.ensures.callers c.enter.ensures.current

pub returns-in-Returns-clause-steps : goal.returns-in-Returns-clause-steps
returns-in-Returns-clause-steps c =
    executed_returns c.args.font.now c.args.self.now c.leave.new.self c.requires
    (ap (λ s. effect s returns) c.leave.ensures.state ∙ c.in-Returns.ensures.effect ∙ effect_at_depth c.args.self.now _ c.len-depth.ensures.value)
    c.leave.ensures.path c.leave.ensures.callers

pub returns-in-Finishes-clause-steps : goal.returns-in-Finishes-clause-steps
returns-in-Finishes-clause-steps c =
    executed_finishes c.args.font.now c.args.self.now (state_of c.apply.new.stack c.apply.new.waiting.items) c.requires
    (c.in-Finishes.ensures.effect ∙ effect_at_depth c.args.self.now _ c.len-depth.ensures.value)
