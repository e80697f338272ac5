-- What is given by words and settings together.
use Rattle.std.specs.Prelude.{Bool, not, ◌&&◌, List, Option, None, Some, find, if◌then◌else◌}
use Rattle.std.specs.Option.{option_or}
use Rattle.clap.specs.Walk.{is_empty}
use Rattle.clap.specs.Words.{Text}
use Rattle.t1_many.specs.Unchecked.{has_line_end}
use Rattle.t1_options.specs.Given.{GivenValue}
use Rattle.t1_options.specs.Settings.Reading.{SettingsValue}
use Rattle.t1_options.specs.Values.{is_marked}

-- The values of the words, or else those of the settings.
abbrev pub values_or : List Text → List Text → List Text
values_or values others = if is_empty values then others else values

-- The file of known faults that settings name. Where waivers are written there is no use for it.
abbrev pub file_in : GivenValue → SettingsValue → Option Text
file_in given settings = if given.write_waivers then None else settings.baseline

-- What words give, and what a settings file gives where the words don't.
abbrev pub merged_with : GivenValue → SettingsValue → GivenValue
merged_with given settings = record given {
  edition = option_or given.edition settings.edition;
  only = values_or given.only settings.only;
  except = values_or given.except settings.except;
  level = values_or given.level settings.level;
  fail_on = values_or given.fail_on settings.fail_on;
  baseline = option_or given.baseline (file_in given settings);
  exclude = values_or given.exclude settings.exclude;
}

-- The same, if there is a settings file.
abbrev pub merged : GivenValue → Option SettingsValue → GivenValue
merged given None = given
merged given (Some settings) = merged_with given settings

-- A path that can be in a line.
abbrev pub is_namable : Text → Bool
is_namable path = not (is_marked path) && not (has_line_end path)

-- The first path that can be in a line: settings are looked for from there.
abbrev pub first_path : List Text → Option Text
first_path paths = find is_namable paths
