use Rattle.std.proofs.Common.{ap, ◌+◌, ◌∙◌}
use Rattle.t1_char.specs.Charstrings.{tokens_in}
use Rattle.t1_char.proofs.FirstSteps.{listed_from_nothing}
use Rattle.t1_char.proofs.expansion.expand_to.Goals as goal

pub returns : goal.returns
returns c =
    listed_from_nothing c.args.limit c.args.glyph
    (record { font = c.args.font; most = c.args.limit + 1; steps = c.new.result; path = c.new-2.result; stack = c.new-3.result; waiting = c.new-4.result })
    c.cursor_at.result c.list.new.self.steps.items _ _
    (record { steps = c.new.ensures.items; path = c.new-2.ensures; stack = c.new-3.ensures; waiting = c.new-4.ensures })
    (c.cursor_at.ensures ∙ ap (tokens_in c.args.font.now) c.code_at.ensures) c.in_ok-list.ensures.listed c.in_ok-list.ensures.numbered
