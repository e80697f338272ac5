-- The options that were given.
use Rattle.std.specs.Prelude.{◌≡◌, ◌&&◌, Bool, true, false, if◌then◌else◌, Option, None, Some, is_some, map, option_and_then, option_map, string_bytes, unwrap_or}
use Rattle.clap.specs.Words.{Text}
use Rattle.t1_char.specs.declared.edition.Edition.TheVariants.{One}
use Rattle.t1_many.specs.Choice.{is_told}
use Rattle.t1_rules.specs.Book.{code_of, number_of}
use Rattle.t1_rules.specs.Mask.{has}
use Rattle.t1_rules.specs.declared.mask.Mask.{Mask}
use Rattle.t1_rules.specs.declared.rule.Rule.{Rule}
use Rattle.t1_options.specs.Choices.{choice_of, codes_of, excepted, is_of_levels, words_of}
use Rattle.t1_options.specs.Complaints.{complaint_of}
use Rattle.t1_options.specs.Given.{GivenValue}
use Rattle.t1_options.specs.Values.{edition_in, form_in, number_in, shard_in, url_in}
use Rattle.t1_options.specs.declared.asked.Baseline.{Baseline}
use Rattle.t1_options.specs.declared.asked.Baseline.TheVariants as faults
use Rattle.t1_options.specs.declared.asked.Options.{Options}
use Rattle.t1_options.specs.declared.asked.Reasons.{Reasons}
use Rattle.t1_options.specs.declared.asked.Reasons.TheVariants as reasons
use Rattle.t1_options.specs.declared.asked.Waivers.{Waivers}
use Rattle.t1_options.specs.declared.asked.Waivers.TheVariants as waivers

-- Waivers that are written are not read.
abbrev pub waivers_of : GivenValue → Waivers
waivers_of given =
    if given.write_waivers then (if given.force then waivers.Overwritten else waivers.Written)
    else (if given.no_waivers then waivers.LeftAside else waivers.Read)

-- No reasons are printed where both options are given.
abbrev pub reasons_of : GivenValue → Reasons
reasons_of given = if given.no_reasons then reasons.LeftOut else (if given.reasons then reasons.Each else reasons.First)

-- The file of known faults.
abbrev pub file_of : Baseline → Option Text
file_of faults.Unnamed = None
file_of (faults.Compared file) = Some (string_bytes file)
file_of (faults.Updated file) = Some (string_bytes file)

abbrev pub is_anew : Baseline → Bool
is_anew faults.Unnamed = false
is_anew (faults.Compared file) = false
is_anew (faults.Updated file) = true

-- The values of single options.
pub record HasValues (given : GivenValue) (options : Options) : Type 0 where
  pub quiet : options.quiet ≡ given.quiet
  pub edition : options.edition ≡ unwrap_or (option_and_then edition_in given.edition) One
  pub names_edition : options.names_edition ≡ is_some given.edition
  pub only : map string_bytes options.only.items ≡ codes_of given.only
  pub except : map string_bytes options.except.items ≡ excepted given
  pub waivers : options.waivers ≡ waivers_of given
  pub known_faults : file_of options.known_faults ≡ given.baseline
  pub anew : is_anew options.known_faults ≡ (given.update_baseline && is_some given.baseline)
  pub files_from : map string_bytes options.files_from.items ≡ given.files_from
  pub exclude : map string_bytes options.exclude.items ≡ given.exclude
  pub shard : options.shard ≡ option_and_then shard_in given.shard
  pub form : options.form ≡ option_and_then form_in given.format
  pub docs : option_map string_bytes options.docs ≡ option_and_then url_in given.docs
  pub clean : options.clean ≡ given.clean
  pub columns : options.columns ≡ option_and_then number_in given.columns
  pub colour : options.colour ≡ given.colour
  pub long : options.long ≡ given.long
  pub reasons : options.reasons ≡ reasons_of given
  pub paths : map string_bytes options.paths.items ≡ given.paths

-- These are the rules that the words choose.
abbrev pub AreChosen : GivenValue → Mask → Type 0
AreChosen given rules = (rule : Rule) → has rules (number_of rule) ≡ is_told (choice_of given) (code_of rule)

-- These are the rules whose lines make the status 1: those of the levels that `--fail-on` names, or all.
abbrev pub AreFailing : GivenValue → Mask → Type 0
AreFailing given rules = (rule : Rule) → has rules (number_of rule) ≡ is_of_levels (words_of given.fail_on) rule

-- Nothing is wrong with what was given, and it means these options.
pub record AreMeant (given : GivenValue) (options : Options) : Type 0 where
  pub faultless : complaint_of given ≡ None
  pub values : HasValues given options
  pub rules : AreChosen given options.rules
  pub failing : AreFailing given options.failing
