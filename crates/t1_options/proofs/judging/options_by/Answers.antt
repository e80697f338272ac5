use Rattle.std.proofs.Common.{◌≡◌, Bor, List, Some, ap, map, option_map, string_bytes, subst, ◌∙◌, ℕ}
use Rattle.std.proofs.lemmas.Result.{IfErr-weaker, IfOk-weaker}
use Rattle.std.specs.Option.{option_or}
use Rattle.t1_options.proofs.Judged.{map_or, merged_of}
use Rattle.t1_options.specs.Given.{GivenValue, given_value}
use Rattle.t1_options.specs.Merged.{values_or}
use Rattle.t1_options.specs.Options.{AreMeant}
use Rattle.t1_options.specs.Settings.Reading.{SettingsValue, settings_value}
use Rattle.t1_options.specs.Words.{IsUsageOr, usage_of_both}
use Rattle.t1_options.proofs.judging.options_by.Goals as goal

pub returns : goal.returns
returns c =
    let now = λ (s : Bor (List ℕ)). s.now in
    let given : GivenValue = given_value c.args.given.now in
    let settings : SettingsValue = settings_value c.args.settings.now in
    let edition = ap (option_map now) c.or.ensures ∙ map_or now c.args.given.now.edition c.args.settings.now.edition in
    let baseline = ap (option_map now) c.or-2.ensures ∙ map_or now c.args.given.now.baseline c.file_in.result
    ∙ ap (option_or given.baseline) c.file_in.ensures in
    let only = ap (map now) c.as_slice-6.ensures.value ∙ c.in_ok-only.ensures
    ∙ ap (λ (others : List _). values_or given.only (map string_bytes others)) c.as_slice.ensures.value in
    let except = ap (map now) c.as_slice-7.ensures.value ∙ c.in_ok-except.ensures
    ∙ ap (λ (others : List _). values_or given.except (map string_bytes others)) c.as_slice-2.ensures.value in
    let level = ap (map now) c.as_slice-8.ensures.value ∙ c.in_ok-level.ensures
    ∙ ap (λ (others : List _). values_or given.level (map string_bytes others)) c.as_slice-3.ensures.value in
    let fail_on = ap (map now) c.as_slice-9.ensures.value ∙ c.in_ok-fail_on.ensures
    ∙ ap (λ (others : List _). values_or given.fail_on (map string_bytes others)) c.as_slice-4.ensures.value in
    let exclude = ap (map now) c.as_slice-10.ensures.value ∙ c.in_ok-exclude.ensures
    ∙ ap (λ (others : List _). values_or given.exclude (map string_bytes others)) c.as_slice-5.ensures.value in
    let same = merged_of given settings _ _ _ _ _ _ _ edition baseline only except level fail_on exclude in
    record {
      meant = IfOk-weaker c.options_of_both.result _ _ (λ options meant. subst (λ (both : GivenValue). AreMeant both options) same meant)
          c.options_of_both.ensures.meant;
      wrong = IfErr-weaker c.options_of_both.result _ _ (λ error wrong.
          subst (λ (both : GivenValue). IsUsageOr (λ told. usage_of_both settings both ≡ Some told) error) same wrong) c.options_of_both.ensures.wrong;
    }
