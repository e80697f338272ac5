use Rattle.std.proofs.Common.{refl, sym, ◌∙◌}
use Rattle.t1_options.proofs.settings.finding.start_at.Goals as goal
use Rattle.t1_options.specs.Settings.Finding.BeginsAt.{at_path, input}

pub returns-then-is_input : goal.returns-then-is_input
returns-then-is_input g c = input c.args.path.now refl (sym c.is_input.ensures ∙ c.if-is_input.true) refl refl

pub returns : goal.returns
returns g c =
    at_path c.args.path.now c.trim_word.result.now refl (sym c.is_input.ensures ∙ c.if-is_input.false) c.trim_word.ensures c.without_dot.ensures
