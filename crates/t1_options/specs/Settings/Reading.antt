-- What the text of a settings file gives, or what is wrong with it.
use Rattle.std.specs.Prelude.{◌≡◌, ◌+◌, ◌≤◌, ◌==◌, ◌++◌, ℕ, List, [], Option, None, Some, Result, Ok, Err, if◌then◌else◌, IsUtf8, codes, count_by, decimal, length, map, option_map, string_bytes, take}
use Rattle.std.specs.Path.{path_join}
use Rattle.std.specs.Str.{bytes_eq}
use Rattle.toml.specs.Data.{Data, Members, member, no_members}
use Rattle.toml.specs.Parse.{parse_document}
use Rattle.t1_options.specs.Complaints.{settings_text}
use Rattle.t1_options.specs.Settings.Values.{edition_in, file_below, globs_below, names_in}
use Rattle.t1_options.specs.declared.settings.reading.Key.{Key}
use Rattle.t1_options.specs.declared.settings.reading.Key.TheVariants.{Baseline, Edition, Except, Exclude, FailOn, Level, Only}
use Rattle.t1_options.specs.declared.settings.reading.Settings.{Settings}

-- The name of a settings file, and what it gives for each of its keys.
pub record SettingsValue : Type 0 where
  pub file : List ℕ
  pub baseline : Option (List ℕ)
  pub edition : Option (List ℕ)
  pub except : List (List ℕ)
  pub exclude : List (List ℕ)
  pub fail_on : List (List ℕ)
  pub level : List (List ℕ)
  pub only : List (List ℕ)

abbrev pub settings_value : Settings → SettingsValue
settings_value settings = record {
  file = string_bytes settings.file;
  baseline = option_map string_bytes settings.baseline;
  edition = option_map (λ s. s.now) settings.edition;
  except = map string_bytes settings.except.items;
  exclude = map string_bytes settings.exclude.items;
  fail_on = map string_bytes settings.fail_on.items;
  level = map string_bytes settings.level.items;
  only = map string_bytes settings.only.items;
}

-- The file of this name, where it gives nothing.
abbrev pub nothing_in : List ℕ → SettingsValue
nothing_in file = record {
  file = file;
  baseline = None;
  edition = None;
  except = [];
  exclude = [];
  fail_on = [];
  level = [];
  only = [];
}

-- ---- entries

-- The key of a name.
abbrev pub key_of : List ℕ → Option Key
key_of name =
    if bytes_eq name (codes "baseline") then Some Baseline
    else (if bytes_eq name (codes "edition") then Some Edition
    else (if bytes_eq name (codes "except") then Some Except
    else (if bytes_eq name (codes "exclude") then Some Exclude
    else (if bytes_eq name (codes "fail-on") then Some FailOn
    else (if bytes_eq name (codes "level") then Some Level
    else (if bytes_eq name (codes "only") then Some Only else None))))))

-- What a key wants, as is printed where its value is nothing of it.
abbrev pub wants_of : Key → List ℕ
wants_of Baseline = codes "baseline wants a file"
wants_of Edition = codes "edition wants 1, 2, 3 or 4"
wants_of Except = codes "except wants codes of rules or their letters, as [\"H02\", \"Z\"]"
wants_of Exclude = codes "exclude wants globs, as [\"old/**\"]"
wants_of FailOn = codes "fail-on wants levels, as [\"must\", \"should\"]"
wants_of Level = codes "level wants levels, as [\"must\", \"should\"]"
wants_of Only = codes "only wants codes of rules or their letters, as [\"H02\", \"Z\"]"

-- Settings of a file in this folder with the value of a key, if it is one that the key wants: each key sets the option
-- of its name.
abbrev pub with_value : List ℕ → SettingsValue → Key → Data → Option SettingsValue
with_value folder settings Baseline value = option_map (λ file. record settings { baseline = Some file }) (file_below folder value)
with_value folder settings Edition value = option_map (λ edition. record settings { edition = Some edition }) (edition_in value)
with_value folder settings Except value = option_map (λ names. record settings { except = names }) (names_in value)
with_value folder settings Exclude value = option_map (λ globs. record settings { exclude = globs }) (globs_below folder value)
with_value folder settings FailOn value = option_map (λ names. record settings { fail_on = names }) (names_in value)
with_value folder settings Level value = option_map (λ names. record settings { level = names }) (names_in value)
with_value folder settings Only value = option_map (λ names. record settings { only = names }) (names_in value)

abbrev pub unknown_key_text : List ℕ → List ℕ → List ℕ
unknown_key_text file name = settings_text file (codes "unknown key " ++ name)

-- Settings, if there are; or else what is printed.
abbrev pub or_told : List ℕ → Option SettingsValue → Result SettingsValue (List ℕ)
or_told told None = Err told
or_told told (Some settings) = Ok settings

-- Settings with an entry more of which this is the key; or what is printed where the entry is wrong.
abbrev pub with_key : List ℕ → SettingsValue → List ℕ → Data → Option Key → Result SettingsValue (List ℕ)
with_key folder settings name value None = Err (unknown_key_text settings.file name)
with_key folder settings name value (Some key) = or_told (settings_text settings.file (wants_of key)) (with_value folder settings key value)

abbrev pub with_entry : List ℕ → SettingsValue → List ℕ → Data → Result SettingsValue (List ℕ)
with_entry folder settings name value = with_key folder settings name value (key_of name)

abbrev pub then_others : (SettingsValue → Result SettingsValue (List ℕ)) → Result SettingsValue (List ℕ) → Result SettingsValue (List ℕ)
then_others others (Ok settings) = others settings
then_others others (Err told) = Err told

-- Settings with the entries of a table, in the order of their names; or what is printed of the first one that is wrong.
abbrev pub settings_in : List ℕ → SettingsValue → Members → Result SettingsValue (List ℕ)
settings_in folder settings no_members = Ok settings
settings_in folder settings (member name value rest) = then_others (λ more. settings_in folder more rest) (with_entry folder settings name value)

-- ---- texts

-- The name of a folder's settings file.
abbrev pub file_in : List ℕ → List ℕ
file_in folder = path_join folder (codes ".t1check.toml")

-- The text of a folder's file is TOML, and its entries give these settings or what is printed.
pub record HasSettings (folder text : List ℕ) (settings : Result SettingsValue (List ℕ)) : Type 0 where
  pub members : Members
  pub is_toml : parse_document text ≡ Some members
  pub are : settings_in folder (nothing_in (file_in folder)) members ≡ settings

-- The number of the line that a place is in.
abbrev pub line_at : List ℕ → ℕ → ℕ
line_at text place = 1 + count_by (λ byte. byte == 10) (take place text)

abbrev pub no_toml_text : List ℕ → ℕ → List ℕ
no_toml_text file line = settings_text (file ++ codes ":" ++ decimal line) (codes "not TOML")

-- The text of a folder's file is wrong, and this is printed. Where it is no TOML, the line is one of its own.
pub data IsWrongIn (folder text told : List ℕ) : Type 0 where
  no_toml :
      (place : ℕ) → (IsUtf8 text → parse_document text ≡ None) → place ≤ length text
      → told ≡ no_toml_text (file_in folder) (line_at text place) → IsWrongIn folder text told
  wrong_entry : HasSettings folder text (Err told) → IsWrongIn folder text told
