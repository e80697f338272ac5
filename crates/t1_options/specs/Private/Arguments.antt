-- The arguments of the code's table, as clap sees them.
use Rattle.clap.specs.Words.{App, Rule, with_rule}
use Rattle.t1_options.specs.CommandLine.{flag_rule, jobs_rule, list_rule, option_rule, path_rule, quiet_rule, version_rule}
use Rattle.t1_options.specs.declared.command_line.Argument.{Argument}
use Rattle.t1_options.specs.declared.command_line.Argument.TheVariants.{Flag, Jobs, List, Option, Path, Quiet, Version}

abbrev pub rule_for : Argument → Rule
rule_for Quiet = quiet_rule
rule_for Jobs = jobs_rule
rule_for (Flag name) = flag_rule name.now
rule_for (Option name value) = option_rule name.now
rule_for (List name value) = list_rule name.now
rule_for Version = version_rule
rule_for Path = path_rule

abbrev pub with_argument : App → Argument → App
with_argument app argument = with_rule app (rule_for argument)
