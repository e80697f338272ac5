-- What words request, with the settings of their first path, or why they request nothing.
use Rattle.std.specs.Prelude.{◌≡◌, true, false, [], List, Option, None, Some, map, option_map, string_bytes}
use Rattle.std.specs.Option.{option_or}
use Rattle.clap.specs.Words.{Text, fault_of}
use Rattle.t1_run.specs.Words.{AreRefused}
use Rattle.t1_run.specs.declared.usage.UsageError.{UsageError}
use Rattle.t1_run.specs.declared.usage.UsageError.TheVariants.{Help, Memory, Usage}
use Rattle.t1_options.specs.CommandLine.{t1check_all}
use Rattle.t1_options.specs.Complaints.{choice_complaint, complaint_of, complaint_of_words, settings_usage, usage_text}
use Rattle.t1_options.specs.Given.{GivenValue, given_by}
use Rattle.t1_options.specs.Merged.{first_path, merged, merged_with}
use Rattle.t1_options.specs.Options.{AreMeant}
use Rattle.t1_options.specs.Settings.Finding.{AreSettled, AreUnsettled, IsUnasked, System}
use Rattle.t1_options.specs.Settings.Reading.{SettingsValue}
use Rattle.t1_options.specs.declared.asked.Options.{Options}
use Rattle.t1_options.specs.declared.asked.Request.{Request}
use Rattle.t1_options.specs.declared.asked.Request.TheVariants.{Check, Explain, Version}

-- The settings that count: those of the first path, or none with `--no-settings`.
pub data AreFound (system : System) (given : GivenValue) (settings : Option SettingsValue) : Type 0 where
  unwanted : given.no_settings ≡ true → settings ≡ None → IsUnasked system → AreFound system given settings
  wanted : given.no_settings ≡ false → AreSettled system (first_path given.paths) settings → AreFound system given settings

-- Nothing is wrong with the words by themselves, and with the settings that count they mean these options.
pub record AreAsked (system : System) (given : GivenValue) (options : Options) : Type 0 where
  pub sound : complaint_of_words given ≡ None
  pub settings : Option SettingsValue
  pub found : AreFound system given settings
  pub meant : AreMeant (merged given settings) options

-- A request for the version, for the pages of codes, which the paths are, or for a check with these options.
abbrev pub IsAsked : System → GivenValue → Request → Type 0
IsAsked system given Version = (given.version ≡ true) × IsUnasked system
IsAsked system given (Explain words) =
    (given.version ≡ false) × (given.explain ≡ true) × (map string_bytes words.items ≡ given.paths) × IsUnasked system
IsAsked system given (Check options) = (given.version ≡ false) × (given.explain ≡ false) × AreAsked system given options

-- clap's rules find no fault in the words, and what they say requests this.
pub record IsTaken (system : System) (words : List Text) (request : Request) : Type 0 where
  pub sound : fault_of t1check_all words ≡ []
  pub asked : IsAsked system (given_by words) request

-- Help has this text.
abbrev pub HasHelp : Text → UsageError → Type 0
HasHelp help (Help text) = string_bytes text ≡ help
HasHelp help (Usage text) = Unit {0}
HasHelp help Memory = Unit {0}

abbrev pub IsHelpTextOrMemory : Text → UsageError → Type 0
IsHelpTextOrMemory help (Help text) = string_bytes text ≡ help
IsHelpTextOrMemory help (Usage text) = ⊥
IsHelpTextOrMemory help Memory = Unit {0}

-- The same error, but help has this text; or memory ran out.
abbrev pub IsAnswered : Text → UsageError → UsageError → Type 0
IsAnswered help (Help text) answer = IsHelpTextOrMemory help answer
IsAnswered help (Usage text) answer = answer ≡ Usage text
IsAnswered help Memory answer = answer ≡ Memory

-- A text of which this is so is printed; or memory ran out.
abbrev pub IsUsageOr : (Text → Type 0) → UsageError → Type 0
IsUsageOr Is (Help text) = ⊥
IsUsageOr Is (Usage text) = Is (string_bytes text)
IsUsageOr Is Memory = Unit {0}

-- The settings that count can't be read, or something is wrong with their file, and this is printed.
pub record AreUnfound (system : System) (given : GivenValue) (told : Text) : Type 0 where
  pub wanted : given.no_settings ≡ false
  pub unsettled : AreUnsettled system (first_path given.paths) told

-- What is printed of words and settings together, if anything is wrong: with values of the settings, or else with both.
-- Values of the words are judged before, so what is wrong with those of both is wrong with those of the settings.
abbrev pub usage_of_both : SettingsValue → GivenValue → Option Text
usage_of_both settings both =
    option_or (option_map (settings_usage settings.file) (choice_complaint both)) (option_map usage_text (complaint_of both))

-- The same of words with the settings that count.
abbrev pub usage_with : GivenValue → Option SettingsValue → Option Text
usage_with given None = option_map usage_text (complaint_of given)
usage_with given (Some settings) = usage_of_both settings (merged_with given settings)

-- Something is wrong with what is given, and this is printed: of the words by themselves; of a settings file that can't be
-- read or has no settings; or of words with settings.
pub data AreWrong (system : System) (given : GivenValue) (told : Text) : Type 0 where
  in_words : option_map usage_text (complaint_of_words given) ≡ Some told → IsUnasked system → AreWrong system given told
  in_file : complaint_of_words given ≡ None → AreUnfound system given told → AreWrong system given told
  with_settings :
      (settings : Option SettingsValue) → complaint_of_words given ≡ None → AreFound system given settings
      → usage_with given settings ≡ Some told → AreWrong system given told

-- What is given requests no version. It requests no pages either, and something is wrong with it; or memory ran out.
pub record AsksNothing (system : System) (given : GivenValue) (error : UsageError) : Type 0 where
  pub no_version : given.version ≡ false
  pub wrong : IsUsageOr (λ told. (given.explain ≡ false) × AreWrong system given told) error

-- The words request nothing: clap finds a fault, or the request for help, which has this text; or what they say
-- requests nothing.
pub data IsRefused (help : Text) (system : System) (words : List Text) (error : UsageError) : Type 0 where
  by_clap : AreRefused t1check_all words error → HasHelp help error → IsUnasked system → IsRefused help system words error
  by_meaning : fault_of t1check_all words ≡ [] → AsksNothing system (given_by words) error → IsRefused help system words error
