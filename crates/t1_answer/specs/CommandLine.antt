-- The command line: its arguments as clap sees them, and the options that words yield by clap's rules.
use Rattle.std.specs.Prelude.{◌≡◌, ℕ, List, Option, None, Some, option_map, codes, string_bytes}
use Rattle.clap.specs.Words.{App, Rule, Text, first_of, matches_of, new_app, new_rule, with_rule}
use Rattle.clap.specs.declared.builder.value_parser.ValueParser.TheVariants as parser
use Rattle.t1_answer.specs.declared.asked.CheckOptions.{CheckOptions}
use Rattle.t1_run.specs.Words.{AreNumber, IsEditionOrFirst, IsNumber, edition_rule, waive_rule}

-- --after K, K a number of 64 bits
abbrev pub after_rule : Rule
after_rule = record (new_rule (codes "after")) {
  long = Some (codes "after");
  value_names = 1;
  parser = Some (parser.Unsigned 0 18446744073709551615);
}

-- --max M, M a number of 64 bits
abbrev pub max_rule : Rule
max_rule = record (new_rule (codes "max")) {
  long = Some (codes "max");
  value_names = 1;
  parser = Some (parser.Unsigned 0 18446744073709551615);
}

-- --trace NAME
abbrev pub trace_rule : Rule
trace_rule = record (new_rule (codes "trace")) { long = Some (codes "trace"); value_names = 1 }

-- FILE
abbrev pub file_rule : Rule
file_rule = record (new_rule (codes "file")) { value_names = 1 }

unfoldable pub t1check : App
t1check =
    with_rule
    (with_rule
    (with_rule
    (with_rule (with_rule (with_rule (new_app (codes "t1check")) after_rule) max_rule) trace_rule) edition_rule)
    waive_rule)
    file_rule

-- A missing number is 0.
abbrev pub IsNumberOrZero : Option Text → ℕ → Type 0
IsNumberOrZero None n = n ≡ 0
IsNumberOrZero (Some text) n = IsNumber text n

-- The options are those that the words yield.
pub record AreGiven (words : List Text) (options : CheckOptions) : Type 0 where
  pub after : IsNumberOrZero (first_of (codes "after") (matches_of t1check words)) options.after
  pub max : AreNumber (first_of (codes "max") (matches_of t1check words)) options.max
  pub trace : option_map string_bytes options.trace ≡ first_of (codes "trace") (matches_of t1check words)
  pub edition : IsEditionOrFirst (first_of (codes "edition") (matches_of t1check words)) options.edition
  pub waive : option_map string_bytes options.waive ≡ first_of (codes "waive") (matches_of t1check words)
  pub file : option_map string_bytes options.file ≡ first_of (codes "file") (matches_of t1check words)
