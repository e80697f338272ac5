use Rattle.std.proofs.Common.{ap, map, string_bytes, ◌∙◌}
use Rattle.std.proofs.lemmas.Result.{IfOk-weaker}
use Rattle.t1_options.specs.Choices.{codes_outside}
use Rattle.t1_options.proofs.choices.left_out.Goals as goal

pub returns : goal.returns
returns c =
    IfOk-weaker c.codes_outside.result _ _ (λ codes are. are ∙ ap (codes_outside (map string_bytes c.args.levels.now)) c.all_rules.ensures)
    c.codes_outside.ensures
