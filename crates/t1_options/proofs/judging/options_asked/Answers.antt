use Rattle.std.proofs.Common.{◌≡◌, Some, option_map, refl}
use Rattle.std.proofs.lemmas.Result.{IfErr-weaker, IfOk-weaker}
use Rattle.t1_options.proofs.Judged.{passed_on, told_so}
use Rattle.t1_options.specs.Complaints.{complaint_of_words, usage_text}
use Rattle.t1_options.specs.Given.{given_value}
use Rattle.t1_options.specs.Settings.Finding.{system_by}
use Rattle.t1_options.specs.Settings.Reading.{settings_value}
use Rattle.t1_options.specs.Words.{AreUnfound, AreWrong, usage_with}
use Rattle.t1_options.specs.Words.AreWrong.{in_file, in_words, with_settings}
use Rattle.t1_options.proofs.judging.options_asked.Goals as goal

pub returns-in_err-judge_words-clause-wrong : goal.returns-in_err-judge_words-clause-wrong
returns-in_err-judge_words-clause-wrong g c =
    let given = given_value c.args.given.now in
    let files = system_by g.F.FileSystem.asks c.args.files.now c.args.files.now in
    passed_on (λ told. option_map usage_text (complaint_of_words given) ≡ Some told) (AreWrong files given) c.from_residual.result
    c.in_err-judge_words.field-0.0 c.from_residual.ensures.1 c.in_err-judge_words.ensures.wrong (λ told is. in_words is refl)

pub returns-in_err-settings-clause-wrong : goal.returns-in_err-settings-clause-wrong
returns-in_err-settings-clause-wrong g c =
    let given = given_value c.args.given.now in
    let files = system_by g.F.FileSystem.asks c.args.files.now c.settings_of.new.files in
    passed_on (AreUnfound files given) (AreWrong files given) c.from_residual-in_err-settings.result c.in_err-settings.field-0.0
    c.from_residual-in_err-settings.ensures.1 c.in_err-settings.ensures.unfound (λ told is. in_file c.in_ok-judge_words.ensures.sound is)

pub returns-clause-asked : goal.returns-clause-asked
returns-clause-asked g c =
    IfOk-weaker c.options_with.result _ _ (λ options meant. record {
      sound = c.in_ok-judge_words.ensures.sound;
      settings = option_map settings_value c.in_ok-settings.settings;
      found = c.in_ok-settings.ensures.found;
      meant = meant;
    }) c.options_with.ensures.meant

pub returns-clause-wrong : goal.returns-clause-wrong
returns-clause-wrong g c =
    let given = given_value c.args.given.now in
    let files = system_by g.F.FileSystem.asks c.args.files.now c.settings_of.new.files in
    let settings = option_map settings_value c.in_ok-settings.settings in
    IfErr-weaker c.options_with.result _ _ (λ error wrong.
    told_so (λ told. usage_with given settings ≡ Some told) (AreWrong files given) error
    (λ told is. with_settings settings c.in_ok-judge_words.ensures.sound c.in_ok-settings.ensures.found is) wrong) c.options_with.ensures.wrong
