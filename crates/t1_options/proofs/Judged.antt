-- What is printed, by what it is about.
use Rattle.std.proofs.Common.{◌≡◌, Err, IfErr, List, None, Ok, Option, Result, Some, ap, option_map, refl, string_bytes, subst, sym, ◌∙◌, ℕ}
use Rattle.std.specs.Result.{IsErrAnd}
use Rattle.std.specs.Option.{option_or}
use Rattle.clap.specs.Words.{Text}
use Rattle.t1_options.specs.Complaints.{choice_complaint, complaint_of, settings_usage, usage_text}
use Rattle.t1_options.specs.Given.{GivenValue}
use Rattle.t1_options.specs.Merged.{file_in, merged_with, values_or}
use Rattle.t1_options.specs.Settings.Reading.{SettingsValue}
use Rattle.t1_options.specs.Words.{IsUsageOr, usage_of_both}
use Rattle.t1_run.specs.declared.usage.UsageError.{UsageError}
use Rattle.t1_run.specs.declared.usage.UsageError.TheVariants.{Help, Memory, Usage}

pub told_so : (Is Also : List ℕ → Type 0) (error : UsageError) → ((told : List ℕ) → Is told → Also told) → IsUsageOr Is error → IsUsageOr Also error
told_so Is Also (Help text) so is = is
told_so Is Also (Usage text) so is = so (string_bytes text) is
told_so Is Also Memory so is = tt

-- an error that is passed on
pub passed_on : {X : Type 0} (Is Also : List ℕ → Type 0) (r : Result X UsageError) (error : UsageError) → IsErrAnd r (λ e. e ≡ error)
    → IsUsageOr Is error → ((told : List ℕ) → Is told → Also told) → IfErr r (IsUsageOr Also)
passed_on Is Also (Ok x) error is told so = tt
passed_on Is Also (Err e) error is told so = subst (IsUsageOr Also) (sym is) (told_so Is Also error so told)

-- ---- settings

-- what is merged, value by value
pub merged_of : (given : GivenValue) (settings : SettingsValue) (edition baseline : Option Text) (only except level fail_on exclude : List Text)
    → edition ≡ option_or given.edition settings.edition → baseline ≡ option_or given.baseline (file_in given settings)
    → only ≡ values_or given.only settings.only → except ≡ values_or given.except settings.except → level ≡ values_or given.level settings.level
    → fail_on ≡ values_or given.fail_on settings.fail_on → exclude ≡ values_or given.exclude settings.exclude
    → record given { edition = edition; only = only; except = except; level = level; fail_on = fail_on; baseline = baseline; exclude = exclude }
    ≡ merged_with given settings
merged_of given settings edition baseline only except level fail_on exclude e b o x l f g = rw (e, b, o, x, l, f, g) refl

pub map_or : {X Y : Type 0} (f : X → Y) (value other : Option X) → option_map f (option_or value other) ≡ option_or (option_map f value) (option_map f other)
map_or f None other = refl
map_or f (Some value) other = refl

-- something is wrong with settings
pub in_settings : (settings : SettingsValue) (both : GivenValue) (told : Text)
    → option_map (settings_usage settings.file) (choice_complaint both) ≡ Some told → usage_of_both settings both ≡ Some told
in_settings settings both told is = ap (λ found. option_or found (option_map usage_text (complaint_of both))) is

-- or only with both together
pub in_both : (settings : SettingsValue) (both : GivenValue) (told : Text) → choice_complaint both ≡ None
    → option_map usage_text (complaint_of both) ≡ Some told → usage_of_both settings both ≡ Some told
in_both settings both told sound is =
    ap (λ found. option_or (option_map (settings_usage settings.file) found) (option_map usage_text (complaint_of both))) sound ∙ is
