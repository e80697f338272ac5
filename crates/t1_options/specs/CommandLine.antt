-- The command line: its arguments as clap sees them.
use Rattle.std.specs.Prelude.{true, List, [], ◌∷◌, Some, codes, fold}
use Rattle.clap.specs.Words.{App, Rule, Text, new_app, new_rule, with_rule}
use Rattle.clap.specs.declared.builder.action.ArgAction.TheVariants.{Append, Count}

-- --NAME, which may be given again
abbrev pub flag_rule : Text → Rule
flag_rule name = record (new_rule name) { long = Some name; action = Some Count }

-- --NAME VALUE
abbrev pub option_rule : Text → Rule
option_rule name = record (new_rule name) { long = Some name; value_names = 1 }

-- --NAME VALUE, of which each use adds a value
abbrev pub list_rule : Text → Rule
list_rule name = record (new_rule name) { long = Some name; value_names = 1; action = Some Append }

-- -q
abbrev pub quiet_rule : Rule
quiet_rule = record (new_rule (codes "quiet")) { short = Some 113; action = Some Count }

-- -j N, which is gone: it is known so that its use can be reported
abbrev pub jobs_rule : Rule
jobs_rule = record (new_rule (codes "jobs")) { short = Some 106; value_names = 1 }

-- --version, which the program itself handles
abbrev pub version_rule : Rule
version_rule = record (new_rule (codes "show-version")) { long = Some (codes "version"); action = Some Count }

-- PATH...
abbrev pub path_rule : Rule
path_rule = record (new_rule (codes "path")) { value_names = 1; action = Some Append }

abbrev pub rules : List Rule
rules =
    quiet_rule
    ∷ jobs_rule
    ∷ option_rule (codes "edition")
    ∷ list_rule (codes "only")
    ∷ list_rule (codes "except")
    ∷ list_rule (codes "level")
    ∷ list_rule (codes "fail-on")
    ∷ flag_rule (codes "no-waivers")
    ∷ flag_rule (codes "write-waivers")
    ∷ flag_rule (codes "force")
    ∷ option_rule (codes "baseline")
    ∷ flag_rule (codes "update-baseline")
    ∷ list_rule (codes "files-from")
    ∷ list_rule (codes "exclude")
    ∷ option_rule (codes "shard")
    ∷ option_rule (codes "format")
    ∷ option_rule (codes "docs")
    ∷ flag_rule (codes "clean")
    ∷ option_rule (codes "columns")
    ∷ flag_rule (codes "colour")
    ∷ flag_rule (codes "long")
    ∷ flag_rule (codes "reasons")
    ∷ flag_rule (codes "no-reasons")
    ∷ flag_rule (codes "no-settings")
    ∷ flag_rule (codes "explain")
    ∷ version_rule
    ∷ path_rule
    ∷ []

-- Of an option that is given again, the last one counts.
abbrev pub last_counts : App → App
last_counts app = record app { top = record app.top { args_override_self = true } }

unfoldable pub t1check_all : App
t1check_all = fold with_rule (last_counts (new_app (codes "t1check-all"))) rules
