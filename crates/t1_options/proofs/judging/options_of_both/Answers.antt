use Rattle.std.proofs.Common.{◌≡◌, Some, option_map}
use Rattle.std.proofs.lemmas.Result.{IfErr-weaker}
use Rattle.t1_options.proofs.Judged.{in_both, in_settings, passed_on, told_so}
use Rattle.t1_options.specs.Complaints.{choice_complaint, complaint_of, settings_usage, usage_text}
use Rattle.t1_options.specs.Given.{GivenValue, given_value}
use Rattle.t1_options.specs.Settings.Reading.{SettingsValue, settings_value}
use Rattle.t1_options.specs.Words.{usage_of_both}
use Rattle.t1_options.proofs.judging.options_of_both.Goals as goal

pub returns-in_err-judge_settings-clause-wrong : goal.returns-in_err-judge_settings-clause-wrong
returns-in_err-judge_settings-clause-wrong c =
    let settings : SettingsValue = settings_value c.args.settings.now in
    let both : GivenValue = given_value c.args.both.now in
    passed_on (λ told. option_map (settings_usage settings.file) (choice_complaint both) ≡ Some told) (λ told. usage_of_both settings both ≡ Some told)
    c.from_residual.result c.in_err-judge_settings.field-0.0 c.from_residual.ensures.1 c.in_err-judge_settings.ensures.wrong
    (in_settings settings both)

pub returns-clause-wrong : goal.returns-clause-wrong
returns-clause-wrong c =
    let settings : SettingsValue = settings_value c.args.settings.now in
    let both : GivenValue = given_value c.args.both.now in
    IfErr-weaker c.options_meant.result _ _ (λ error wrong.
    told_so (λ told. option_map usage_text (complaint_of both) ≡ Some told) (λ told. usage_of_both settings both ≡ Some told) error
    (λ told is. in_both settings both told c.in_ok-judge_settings.ensures.sound is) wrong) c.options_meant.ensures.wrong
