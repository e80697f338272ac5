use Rattle.std.proofs.Common.{◌≡◌, codes, ap, fold, ◌∙◌}
use Rattle.std.proofs.lemmas.Result.{IfOk-weaker}
use Rattle.clap.specs.Words.{App, app_of, new_app, with_rule}
use Rattle.clap.specs.Simple.{app_of_fields}
use Rattle.t1_options.specs.CommandLine.{last_counts, rules, t1check_all}
use Rattle.t1_options.proofs.command_line.command.Goals as goal

pub returns : goal.returns
unfolding t1check_all
returns c =
    let start : app_of c.args_override_self-command.result ≡ last_counts (new_app (codes "t1check-all")) =
    ap app_of_fields c.args_override_self-command.ensures ∙ ap last_counts c.new.ensures.app in
    IfOk-weaker c.with_arguments.result _ _ (λ command added. added ∙ ap (λ (app : App). fold with_rule app rules) start) c.with_arguments.ensures
