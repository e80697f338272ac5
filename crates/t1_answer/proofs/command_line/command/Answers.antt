use Rattle.std.proofs.Common.{◌≡◌, [], ◌∷◌, codes, ap, fold, ◌∙◌}
use Rattle.std.proofs.lemmas.Result.{IfOk-weaker}
use Rattle.clap.specs.Simple.{app_of_fields}
use Rattle.clap.specs.Words.{App, app_of, new_app, with_rule}
use Rattle.t1_answer.specs.CommandLine.{t1check, after_rule, file_rule, max_rule, trace_rule}
use Rattle.t1_run.specs.Words.{edition_rule, waive_rule}
use Rattle.t1_answer.proofs.command_line.command.Goals as goal

pub returns : goal.returns
unfolding t1check
returns c =
    let new : app_of c.after_help-command.result ≡ new_app (codes "t1check") =
    ap app_of_fields c.after_help-command.ensures ∙ ap app_of_fields c.about.ensures ∙ c.new.ensures.app in
    IfOk-weaker c.with_arguments.result _ _ (λ command added. added
    ∙ ap (λ (app : App). fold with_rule app (after_rule ∷ max_rule ∷ trace_rule ∷ edition_rule ∷ waive_rule ∷ file_rule ∷ [])) new)
    c.with_arguments.ensures
