use Rattle.std.proofs.Common.{[], ◌∷◌, ◌++◌, ap, subst, sym, ◌∙◌}
use Rattle.t1_char.specs.StepValues.{step_view}
use Rattle.t1_rules.specs.declared.step_rules.flex.FlexWatcher.{FlexWatcher}
use Rattle.t1_rules.specs.declared.watches.Watches.{Watches}
use Rattle.t1_rules.specs.Private.Standing.{WatchesStandFor}
use Rattle.t1_rules.specs.Steady.{drawn_on}
use Rattle.t1_rules.specs.StepRules.Tokens.{is_line}
use Rattle.t1_rules.proofs.Lemmas.Lines.{line_is, none_at_line, stays_at_stroke}
use Rattle.t1_rules.proofs.watches.Watches.see_stroke.Goals as goal

pub returns-then-is_steady-clause-stands : goal.returns-then-is_steady-clause-stands
returns-then-is_steady-clause-stands c = λ edition before ws short there.
    let t = step_view c.args.step.now in
    let command = c.in-Command.command in
    let line = line_is command (ap is_line (sym c.in-Command.is) ∙ c.requires.line) in
    let led = ap (λ (flex : FlexWatcher). drawn_on (record c.args.self.now { flex = flex })) c.lead_to.ensures in
    subst (λ (w : Watches). WatchesStandFor edition w (before ++ t ∷ [])) (sym (c.draw.ensures ∙ led))
    (stays_at_stroke edition c.args.self.now before t command c.args.end c.in-Command.is line (c.is_usual.ensures.calm c.if-is_usual.true)
    (c.is_steady.ensures c.if-is_steady.true) there ws)

pub returns-then-is_steady-clause-answer : goal.returns-then-is_steady-clause-answer
returns-then-is_steady-clause-answer c = λ edition before ws short n.
    let t = step_view c.args.step.now in
    let command = c.in-Command.command in
    let line = line_is command (ap is_line (sym c.in-Command.is) ∙ c.requires.line) in
    c.empty.ensures n
    ∙ sym (none_at_line edition before c.args.self.now n t command c.in-Command.is
    (record { led = line; count = c.is_usual.ensures.count c.if-is_usual.true; near = c.is_usual.ensures.near c.if-is_usual.true })
    (c.is_usual.ensures.calm c.if-is_usual.true) (c.is_steady.ensures c.if-is_steady.true) ws)
