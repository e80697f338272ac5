-- The arguments of a table, as clap sees them.
use Rattle.std.specs.Prelude.{Some, true}
use Rattle.clap.specs.Words.{App, Rule, Text, new_rule, with_rule}
use Rattle.clap.specs.declared.builder.action.ArgAction.TheVariants.{Set}
use Rattle.clap.specs.declared.builder.value_parser.ValueParser.TheVariants as parser
use Rattle.t1_run.specs.declared.arguments.Argument.{Argument}
use Rattle.t1_run.specs.declared.arguments.ArgumentKind.{ArgumentKind}
use Rattle.t1_run.specs.declared.arguments.ArgumentKind.TheVariants as kind

-- An argument of this kind and name.
abbrev pub rule_of_kind : ArgumentKind → Text → Rule
rule_of_kind kind.Word name = record (new_rule name) { value_names = 1 }
rule_of_kind kind.RequiredWord name = record (new_rule name) { value_names = 1; action = Some Set; required = true }
rule_of_kind kind.Text name = record (new_rule name) { long = Some name; value_names = 1 }
rule_of_kind kind.Number name = record (new_rule name) { long = Some name; value_names = 1; parser = Some (parser.Unsigned 0 18446744073709551615) }
rule_of_kind kind.Positive name = record (new_rule name) { long = Some name; value_names = 1; parser = Some (parser.Unsigned 1 18446744073709551615) }
rule_of_kind kind.Edition name = record (new_rule name) { long = Some name; value_names = 1; parser = Some (parser.Unsigned 1 4) }

abbrev pub rule_for : Argument → Rule
rule_for argument = rule_of_kind argument.kind argument.name.now

-- A command with one argument more.
abbrev pub with_argument : App → Argument → App
with_argument app argument = with_rule app (rule_for argument)
