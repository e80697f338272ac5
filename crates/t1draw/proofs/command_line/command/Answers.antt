use Rattle.std.proofs.Common.{◌≡◌, [], ◌∷◌, codes, ap, ap₂, fold, ◌∙◌}
use Rattle.std.proofs.lemmas.Result.{IfOk-weaker}
use Rattle.clap.specs.Simple.{app_of_fields}
use Rattle.clap.specs.Words.{App, app_of, new_app, with_rule}
use Rattle.t1draw.specs.CommandLine.{fault_rule, font_rule, glyph_rule, step_rule, t1draw}
use Rattle.t1_run.specs.Words.{edition_rule, waive_rule}
use Rattle.t1draw.proofs.command_line.command.Goals as goal

pub returns : goal.returns
unfolding t1draw
returns c =
    let new : app_of c.after_help-command.result ≡ new_app (codes "t1draw") =
    ap app_of_fields c.after_help-command.ensures ∙ ap app_of_fields c.about.ensures ∙ c.new.ensures.app in
    let options =
    c.in_ok-command.ensures ∙ ap (λ (app : App). fold with_rule app (edition_rule ∷ waive_rule ∷ step_rule ∷ fault_rule ∷ [])) new in
    let faulty = c.in_ok-command-2.ensures.shape c.faulty.ensures.own ∙ ap₂ with_rule options c.faulty.ensures.rule in
    let folder = c.in_ok-command-3.ensures.shape c.folder.ensures.own ∙ ap₂ with_rule faulty c.folder.ensures.rule in
    IfOk-weaker c.with_arguments-2.result _ _ (λ command added. added
    ∙ ap (λ (app : App). fold with_rule app (glyph_rule ∷ font_rule ∷ [])) folder)
    c.with_arguments-2.ensures
