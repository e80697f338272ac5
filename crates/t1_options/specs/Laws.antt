-- The statements of laws.
use Rattle.std.specs.Prelude.{◌≡◌, ◌&&◌, ◌+◌, ◌<◌, ◌≤◌, ◌++◌, [], codes, Bool, true, false, ◌∷◌, None, Some, count_by, is_some, length, map, nat_lt, string_bytes}
use Rattle.clap.specs.Walk.{is_empty}
use Rattle.clap.specs.Words.{Text}
use Rattle.t1_many.specs.Choice.{is_told, letters_of}
use Rattle.t1_rules.specs.Book.{code_of, number_of}
use Rattle.t1_rules.specs.Mask.{has}
use Rattle.t1_rules.specs.declared.rule.Rule.{Rule}
use Rattle.t1_names.specs.Words.{is_input}
use Rattle.t1_options.specs.Choices.{codes_of, is_known, is_of_levels, words_of}
use Rattle.t1_options.specs.Complaints.{has_input}
use Rattle.t1_options.specs.Given.{GivenValue, given_by}
use Rattle.t1_options.specs.Merged.{merged_with}
use Rattle.t1_options.specs.Options.{AreMeant, is_anew}
use Rattle.t1_options.specs.Settings.Reading.{SettingsValue}
use Rattle.t1_options.specs.Values.{shard_in}
use Rattle.t1_options.specs.declared.asked.Baseline.TheVariants.{Unnamed}
use Rattle.t1_options.specs.declared.asked.Options.{Options}
use Rattle.t1_options.specs.declared.asked.Shard.{Shard}
use Rattle.t1_options.specs.declared.asked.Waivers.{Waivers}
use Rattle.t1_options.specs.declared.asked.Waivers.TheVariants.{LeftAside, Overwritten, Read, Written}

-- The code of each rule can be chosen, and the letters of each.
pub record RulesAreKnown : Type 0 where
  pub codes : (rule : Rule) → is_known (code_of rule) ≡ true
  pub letters : (rule : Rule) → is_known (letters_of (code_of rule)) ≡ true

-- No word that begins with E can: refusals are always printed.
abbrev pub NoRefusalIsKnown : Type 0
NoRefusalIsKnown = (rest : Text) → is_known (69 ∷ rest) ≡ false

-- The rules are those that the codes of the options choose.
abbrev pub CodesChooseRules : Type 0
CodesChooseRules =
    (given : GivenValue) (options : Options) → AreMeant given options → (rule : Rule) → has options.rules (number_of rule)
    ≡ is_told (record { only = map string_bytes options.only.items; except = map string_bytes options.except.items }) (code_of rule)

-- Codes and levels are both to choose a rule.
abbrev pub LevelsChooseRules : Type 0
LevelsChooseRules =
    (given : GivenValue) (options : Options) → AreMeant given options → (rule : Rule) → has options.rules (number_of rule)
    ≡ (is_told (record { only = codes_of given.only; except = codes_of given.except }) (code_of rule) && is_of_levels (words_of given.level) rule)

-- A part is one of those from 1 to their number, of which there are at most 99,999.
pub record IsPart (shard : Shard) : Type 0 where
  pub first : 1 ≤ shard.part
  pub last : shard.part ≤ shard.parts
  pub few : shard.parts ≤ 99999

abbrev pub ShardsAreParts : Type 0
ShardsAreParts = (text : Text) (shard : Shard) → shard_in text ≡ Some shard → IsPart shard

abbrev pub are_written : Waivers → Bool
are_written Read = false
are_written LeftAside = false
are_written Written = true
are_written Overwritten = true

-- Options that go together: known faults are updated of a whole list; waivers are written of a whole list without known
-- faults; the page of the rules is named in a form; there is a path or a list of them; standard input is read once.
pub record GoTogether (options : Options) : Type 0 where
  pub updated : is_anew options.known_faults ≡ true → options.shard ≡ None
  pub written : are_written options.waivers ≡ true → (options.known_faults ≡ Unnamed) × (options.shard ≡ None)
  pub docs : is_some options.docs ≡ true → is_some options.form ≡ true
  pub fonts : 0 < length options.paths.items + length options.files_from.items
  pub input_once : nat_lt 1 (count_by is_input (map string_bytes options.paths.items)) ≡ false
  pub input_alone : (has_input (map string_bytes options.paths.items) && has_input (map string_bytes options.files_from.items)) ≡ false

abbrev pub MeantGoTogether : Type 0
MeantGoTogether = (given : GivenValue) (options : Options) → AreMeant given options → GoTogether options

-- ---- words and settings

-- What words give for a key counts.
pub record GivenOptionsWin : Type 0 where
  pub edition : (given : GivenValue) (settings : SettingsValue) → is_some given.edition ≡ true → (merged_with given settings).edition ≡ given.edition
  pub baseline : (given : GivenValue) (settings : SettingsValue) → is_some given.baseline ≡ true → (merged_with given settings).baseline ≡ given.baseline
  pub only : (given : GivenValue) (settings : SettingsValue) → is_empty given.only ≡ false → (merged_with given settings).only ≡ given.only
  pub except : (given : GivenValue) (settings : SettingsValue) → is_empty given.except ≡ false → (merged_with given settings).except ≡ given.except
  pub level : (given : GivenValue) (settings : SettingsValue) → is_empty given.level ≡ false → (merged_with given settings).level ≡ given.level
  pub fail_on : (given : GivenValue) (settings : SettingsValue) → is_empty given.fail_on ≡ false → (merged_with given settings).fail_on ≡ given.fail_on
  pub exclude : (given : GivenValue) (settings : SettingsValue) → is_empty given.exclude ≡ false → (merged_with given settings).exclude ≡ given.exclude

-- What settings have for a key counts where words give nothing.
pub record SettingsCount : Type 0 where
  pub edition : (given : GivenValue) (settings : SettingsValue) → given.edition ≡ None → (merged_with given settings).edition ≡ settings.edition
  pub baseline :
      (given : GivenValue) (settings : SettingsValue) → given.baseline ≡ None → given.write_waivers ≡ false
      → (merged_with given settings).baseline ≡ settings.baseline
  pub only : (given : GivenValue) (settings : SettingsValue) → given.only ≡ [] → (merged_with given settings).only ≡ settings.only
  pub except : (given : GivenValue) (settings : SettingsValue) → given.except ≡ [] → (merged_with given settings).except ≡ settings.except
  pub level : (given : GivenValue) (settings : SettingsValue) → given.level ≡ [] → (merged_with given settings).level ≡ settings.level
  pub fail_on : (given : GivenValue) (settings : SettingsValue) → given.fail_on ≡ [] → (merged_with given settings).fail_on ≡ settings.fail_on
  pub exclude : (given : GivenValue) (settings : SettingsValue) → given.exclude ≡ [] → (merged_with given settings).exclude ≡ settings.exclude

-- Where waivers are written, settings name no file of known faults.
abbrev pub WritingHasNoBaseline : Type 0
WritingHasNoBaseline = (given : GivenValue) (settings : SettingsValue) → given.write_waivers ≡ true → (merged_with given settings).baseline ≡ given.baseline

-- ---- words

-- What two uses of an option mean.
abbrev pub given_twice : Text → Text → Text → GivenValue
given_twice option first last = given_by (codes "t1check-all" ∷ (option ++ first) ∷ (option ++ last) ∷ [])

-- Of two values of an option the last one counts, or both do in their order.
pub record UsesCount : Type 0 where
  pub edition : (first last : Text) → (given_twice (codes "--edition=") first last).edition ≡ Some last
  pub baseline : (first last : Text) → (given_twice (codes "--baseline=") first last).baseline ≡ Some last
  pub shard : (first last : Text) → (given_twice (codes "--shard=") first last).shard ≡ Some last
  pub format : (first last : Text) → (given_twice (codes "--format=") first last).format ≡ Some last
  pub docs : (first last : Text) → (given_twice (codes "--docs=") first last).docs ≡ Some last
  pub only : (first last : Text) → (given_twice (codes "--only=") first last).only ≡ first ∷ last ∷ []
  pub except : (first last : Text) → (given_twice (codes "--except=") first last).except ≡ first ∷ last ∷ []
  pub level : (first last : Text) → (given_twice (codes "--level=") first last).level ≡ first ∷ last ∷ []
  pub fail_on : (first last : Text) → (given_twice (codes "--fail-on=") first last).fail_on ≡ first ∷ last ∷ []
  pub files_from : (first last : Text) → (given_twice (codes "--files-from=") first last).files_from ≡ first ∷ last ∷ []
  pub exclude : (first last : Text) → (given_twice (codes "--exclude=") first last).exclude ≡ first ∷ last ∷ []
