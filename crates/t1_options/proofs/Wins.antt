-- What words and settings give together.
use Rattle.std.proofs.Common.{◌≡◌, true, false, List, [], Option, None, Some, is_some, ap, refl, ◌∙◌}
use Rattle.std.proofs.lemmas.Bool.{cond-false, cond-true}
use Rattle.std.specs.Option.{option_or}
use Rattle.clap.specs.Walk.{is_empty}
use Rattle.clap.specs.Words.{Text}
use Rattle.t1_options.specs.Laws.{GivenOptionsWin, SettingsCount, WritingHasNoBaseline}
use Rattle.t1_options.specs.Merged.{file_in, values_or}

value_wins : (value other : Option Text) → is_some value ≡ true → option_or value other ≡ value
value_wins (Some value) other is = refl
value_wins None other is = cc

values_win : (values others : List Text) → is_empty values ≡ false → values_or values others ≡ values
values_win values others some = cond-false (is_empty values) others values some

pub given_options_win : GivenOptionsWin
given_options_win = record {
  edition = λ given settings is. value_wins given.edition settings.edition is;
  baseline = λ given settings is. value_wins given.baseline (file_in given settings) is;
  only = λ given settings some. values_win given.only settings.only some;
  except = λ given settings some. values_win given.except settings.except some;
  level = λ given settings some. values_win given.level settings.level some;
  fail_on = λ given settings some. values_win given.fail_on settings.fail_on some;
  exclude = λ given settings some. values_win given.exclude settings.exclude some;
}

other_counts : (value other : Option Text) → value ≡ None → option_or value other ≡ other
other_counts value other none = ap (λ v. option_or v other) none

others_count : (values others : List Text) → values ≡ [] → values_or values others ≡ others
others_count values others none = ap (λ v. values_or v others) none

pub settings_count : SettingsCount
settings_count = record {
  edition = λ given settings none. other_counts given.edition settings.edition none;
  baseline = λ given settings none reading.
      other_counts given.baseline (file_in given settings) none ∙ cond-false given.write_waivers None settings.baseline reading;
  only = λ given settings none. others_count given.only settings.only none;
  except = λ given settings none. others_count given.except settings.except none;
  level = λ given settings none. others_count given.level settings.level none;
  fail_on = λ given settings none. others_count given.fail_on settings.fail_on none;
  exclude = λ given settings none. others_count given.exclude settings.exclude none;
}

no_other : (value : Option Text) → option_or value None ≡ value
no_other None = refl
no_other (Some value) = refl

pub writing_has_no_baseline : WritingHasNoBaseline
writing_has_no_baseline given settings writing =
    ap (option_or given.baseline) (cond-true given.write_waivers None settings.baseline writing) ∙ no_other given.baseline
