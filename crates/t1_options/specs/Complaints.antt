-- What can be wrong with options, and the text of each case.
use Rattle.std.specs.Prelude.{◌&&◌, ◌||◌, Bool, true, false, not, nat_lt, List, [], ◌∷◌, ◌++◌, Option, count_by, find, is_some, option_and_then, option_map, codes}
use Rattle.std.specs.List.{list_any}
use Rattle.clap.specs.Walk.{is_empty}
use Rattle.clap.specs.Words.{Text}
use Rattle.t1_names.specs.Words.{is_input}
use Rattle.t1_options.specs.Choices.{are_known, are_levels, codes_of, words_of}
use Rattle.t1_options.specs.Given.{GivenValue}
use Rattle.t1_options.specs.Values.{edition_in, file_in, form_in, is_marked, number_in, shard_in, url_in}
use Rattle.t1_options.specs.declared.complaint.Complaint.{Complaint}
use Rattle.t1_options.specs.declared.complaint.Complaint.TheVariants as complaint

abbrev pub text_of : Complaint → Text
text_of complaint.Jobs = codes "-j is gone; --shard I/N splits a list for several processes"
text_of complaint.Edition = codes "--edition wants 1, 2, 3 or 4"
text_of complaint.Columns = codes "--columns wants a number from 1 on"
text_of complaint.Baseline = codes "--baseline wants a file"
text_of complaint.Format = codes "--format wants jsonl, sarif, github or junit"
text_of complaint.Docs = codes "--docs wants a URL"
text_of complaint.UpdateOfNone = codes "--update-baseline wants --baseline"
text_of complaint.UpdateOfShard = codes "--update-baseline and --shard exclude one another"
text_of complaint.WaiversOfPart = codes "--write-waivers excludes --baseline and --shard"
text_of complaint.ForceOfNone = codes "--force wants --write-waivers"
text_of complaint.DocsOfLines = codes "--docs wants --format"
text_of complaint.NoFont = codes "no font is named"
text_of complaint.InputTwice = codes "- is named twice: standard input is read once"
text_of complaint.InputAsBoth = codes "- is a font or a list, not both: standard input is read once"
text_of complaint.Shard = codes "--shard wants I/N, I from 1 to N"
text_of complaint.Only = codes "--only wants codes of rules or their letters, as H02,Z"
text_of complaint.Except = codes "--except wants codes of rules or their letters, as H02,Z"
text_of complaint.Level = codes "--level wants must, should or tidy"
text_of complaint.FailOn = codes "--fail-on wants must, should or tidy"
text_of complaint.Exclude = codes "--exclude wants a glob that is UTF-8"

-- The two lines to print.
abbrev pub usage_text : Complaint → Text
usage_text c = codes "t1check-all: " ++ text_of c ++ codes "\nt1check-all: 't1check-all --help' says how it is used\n"

-- There is a value, and it means nothing.
abbrev pub is_wrong : {X : Type 0} → (Text → Option X) → Option Text → Bool
is_wrong meaning value = is_some value && not (is_some (option_and_then meaning value))

-- There are values, and they name no code or an unknown one.
abbrev pub are_wrong : List Text → Bool
are_wrong values = not (is_empty values) && not (are_known (codes_of values))

-- There are values, and they name no level or an unknown one.
abbrev pub are_no_levels : List Text → Bool
are_no_levels values = not (is_empty values) && not (are_levels (words_of values))

-- What can be wrong with the codes and levels that are named.
abbrev pub choice_checks : GivenValue → List (Bool × Complaint)
choice_checks given =
    (are_wrong given.only, complaint.Only)
    ∷ (are_wrong given.except, complaint.Except)
    ∷ (are_no_levels given.level, complaint.Level)
    ∷ (are_no_levels given.fail_on, complaint.FailOn)
    ∷ []

-- Standard input is among these words.
abbrev pub has_input : List Text → Bool
has_input words = list_any is_input words

-- What can be wrong, in the order of the search: an option that is gone, five values, combinations, a missing font,
-- standard input, and then the shard, the codes, the levels and the globs.
abbrev pub checks_of : GivenValue → List (Bool × Complaint)
checks_of given =
    (is_some given.jobs, complaint.Jobs)
    ∷ (is_wrong edition_in given.edition, complaint.Edition)
    ∷ (is_wrong number_in given.columns, complaint.Columns)
    ∷ (is_wrong file_in given.baseline, complaint.Baseline)
    ∷ (is_wrong form_in given.format, complaint.Format)
    ∷ (is_wrong url_in given.docs, complaint.Docs)
    ∷ (given.update_baseline && not (is_some given.baseline), complaint.UpdateOfNone)
    ∷ (given.update_baseline && is_some given.shard, complaint.UpdateOfShard)
    ∷ (given.write_waivers && (is_some given.baseline || is_some given.shard), complaint.WaiversOfPart)
    ∷ (given.force && not given.write_waivers, complaint.ForceOfNone)
    ∷ (is_some given.docs && not (is_some given.format), complaint.DocsOfLines)
    ∷ (is_empty given.paths && is_empty given.files_from, complaint.NoFont)
    ∷ (nat_lt 1 (count_by is_input given.paths), complaint.InputTwice)
    ∷ (has_input given.paths && has_input given.files_from, complaint.InputAsBoth)
    ∷ (is_wrong shard_in given.shard, complaint.Shard)
    ∷ choice_checks given
    ++ (list_any is_marked given.exclude, complaint.Exclude) ∷ []

-- The first that holds.
abbrev pub first_so : List (Bool × Complaint) → Option Complaint
first_so checks = option_map (λ check. check.1) (find (λ check. check.0) checks)

-- The first thing that is wrong with the given values, if any.
abbrev pub complaint_of : GivenValue → Option Complaint
complaint_of given = first_so (checks_of given)

-- Settings may name the file of known faults that is to be updated.
abbrev pub is_left_open : Complaint → Bool
is_left_open complaint.UpdateOfNone = true
is_left_open _ = false

-- The first that holds and isn't left open.
abbrev pub first_not_open : List (Bool × Complaint) → Option Complaint
first_not_open checks = option_map (λ check. check.1) (find (λ check. check.0 && not (is_left_open check.1)) checks)

-- The first thing that is wrong with words by themselves, if any: what settings may still mend is left open.
abbrev pub complaint_of_words : GivenValue → Option Complaint
complaint_of_words given = first_not_open (checks_of given)

-- The first thing that is wrong with the codes and levels that are named, if any.
abbrev pub choice_complaint : GivenValue → Option Complaint
choice_complaint given = first_so (choice_checks given)

-- The line to print where something is wrong with a settings file.
abbrev pub settings_text : Text → Text → Text
settings_text file wrong = codes "t1check-all: " ++ file ++ codes ": " ++ wrong ++ codes "\n"

abbrev pub settings_usage : Text → Complaint → Text
settings_usage file c = settings_text file (text_of c)
