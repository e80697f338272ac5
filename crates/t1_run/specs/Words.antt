-- The words of a command line, as clap's rules see them: of any program without subcommands.
use Rattle.std.specs.Prelude.{◌≡◌, ◌<◌, ℕ, length, Bool, true, false, not, ◌&&◌, List, [], ◌∷◌, ◌++◌, Option, None, Some, IfSome, IsSome, codes, string_bytes}
use Rattle.std.specs.List.{Any, list_all}
use Rattle.std.specs.Str.{bytes_eq}
use Rattle.std.specs.Str.Parse.{IsNumeral, without_leading_plus, digits_value}
use Rattle.clap.specs.Words.{App, IsUnsignedIn, Rule, Text, built, fault_of, first_value, found_of, is_simple, is_simple_and_free, matches_of, new_rule, rows_of, takes}
use Rattle.clap.specs.declared.builder.action.ArgAction.TheVariants.{Set}
use Rattle.clap.specs.declared.builder.value_parser.ValueParser.TheVariants as parser
use Rattle.clap.specs.declared.error.kind.ErrorKind.TheVariants.{DisplayHelp}
use Rattle.clap.specs.declared.parser.matches.ArgMatches.{ArgMatches}
use Rattle.t1_char.specs.declared.edition.Edition.{Edition}
use Rattle.t1_char.specs.declared.edition.Edition.TheVariants.{One}
use Rattle.t1_char.specs.Editions.{number_of_edition}
use Rattle.t1_run.specs.declared.usage.UsageError.{UsageError}
use Rattle.t1_run.specs.declared.usage.UsageError.TheVariants.{Help, Usage, Memory}

-- ---- programs

-- A rule excludes nothing, and its id is neither empty nor that of an argument of clap's own.
abbrev pub is_own : Rule → Bool
is_own r = r.is_simple && (r.is_free && (not (bytes_eq r.id []) && (not (bytes_eq r.id (codes "help")) && not (bytes_eq r.id (codes "version")))))

-- No later rule has the id of an earlier one.
abbrev pub are_distinct : List Rule → Bool
are_distinct [] = true
are_distinct (r ∷ rs) = list_all (λ s. not (bytes_eq s.id r.id)) rs && are_distinct rs

-- A program without subcommands, groups and global arguments, whose arguments exclude nothing and have ids of their
-- own. Each field is a test that is made once a program.
pub record IsPlainApp (app : App) : Type 0 where
  pub own : list_all is_own app.top.rules ≡ true
  pub distinct : are_distinct app.top.rules ≡ true
  pub plain : app.top.is_plain ≡ true
  pub negates : app.top.subcommand_negates_reqs ≡ false
  pub simple : is_simple app ≡ true
  pub free : is_simple_and_free app ≡ true
  pub leaf : (built app).top.is_leaf ≡ true
  pub alone : (built app).subs ≡ []

-- ---- arguments that several programs have

-- --edition N, N from 1 to 4
abbrev pub edition_rule : Rule
edition_rule = record (new_rule (codes "edition")) {
  long = Some (codes "edition");
  value_names = 1;
  parser = Some (parser.Unsigned 1 4);
}

-- --waive FILE
abbrev pub waive_rule : Rule
waive_rule = record (new_rule (codes "waive")) { long = Some (codes "waive"); value_names = 1 }

-- ---- words that are taken

-- What clap takes for such a number.
abbrev pub IsTextOfNumber : ℕ → ℕ → Option Text → Type 0
IsTextOfNumber low high None = Unit {0}
IsTextOfNumber low high (Some text) = IsUnsignedIn low high text

-- The id of an argument whose value is a number of 64 bits between two others.
abbrev pub IsNumberArgument : App → ℕ → ℕ → Text → Type 0
IsNumberArgument app low high id = Any (λ rule. (rule.id ≡ id) × (rule.parser ≡ Some (parser.Unsigned low high))) app.top.rules

-- The id of an argument that has to be there, with one value.
abbrev pub IsRequiredArgument : App → Text → Type 0
IsRequiredArgument app id =
    Any (λ rule. (rule.id ≡ id) × (rule.required ≡ true) × (rule.action ≡ Some Set) × (rule.range ≡ None)) app.top.rules

-- The words are taken, and this was found in them.
pub record IsParsedBy (app : App) (words : List Text) (matches : ArgMatches) : Type 0 where
  pub rows : rows_of (found_of matches) ≡ matches_of app words
  pub number : (low high : ℕ) (id : Text) → IsNumberArgument app low high id → IsTextOfNumber low high (first_value (found_of matches) id)
  pub required : (id : Text) → IsRequiredArgument app id → IsSome (first_value (found_of matches) id)
  pub sound : fault_of app words ≡ []

-- A number as clap reads it: digits, with a plus before them or without.
abbrev pub IsNumber : Text → ℕ → Type 0
IsNumber text n = IsNumeral 10 (without_leading_plus text) × (n ≡ digits_value 10 (without_leading_plus text))

-- What was given is a number, or there is none.
abbrev pub AreNumber : Option Text → Option ℕ → Type 0
AreNumber None number = number ≡ None
AreNumber (Some text) number = IfSome number (IsNumber text) × IsSome number

-- A missing edition is the first.
abbrev pub IsEditionOrFirst : Option Text → Edition → Type 0
IsEditionOrFirst None edition = edition ≡ One
IsEditionOrFirst (Some text) edition = IsNumber text (number_of_edition edition)

-- ---- words that yield no options

-- The first fault that clap finds in the words is the request for help.
abbrev pub AsksHelp : App → List Text → Type 0
AsksHelp app words = fault_of app words ≡ DisplayHelp ∷ []

abbrev pub IsHelp : UsageError → Type 0
IsHelp (Help text) = Unit {0}
IsHelp (Usage text) = ⊥
IsHelp Memory = ⊥

abbrev pub IsHelpOrMemory : UsageError → Type 0
IsHelpOrMemory (Help text) = Unit {0}
IsHelpOrMemory (Usage text) = ⊥
IsHelpOrMemory Memory = Unit {0}

-- What is printed says something: text is never empty.
abbrev pub HasText : UsageError → Type 0
HasText (Help text) = 0 < length (string_bytes text)
HasText (Usage text) = 0 < length (string_bytes text)
HasText Memory = Unit {0}

-- The words yield no options: help was requested, clap's rules find a fault, or memory ran out.
pub record AreRefused (app : App) (words : List Text) (error : UsageError) : Type 0 where
  pub taken : takes app words ≡ true → error ≡ Memory
  pub faultless : fault_of app words ≡ [] → error ≡ Memory
  pub text : HasText error
  pub help : AsksHelp app words → IsHelpOrMemory error
  pub only_help : IsHelp error → AsksHelp app words

-- What is printed where a word isn't UTF-8: clap's sentence, and what serves instead; or memory ran out.
abbrev pub IsNotUtf8OrMemory : List ℕ → UsageError → Type 0
IsNotUtf8OrMemory cure (Help text) = ⊥
IsNotUtf8OrMemory cure (Usage text) =
    string_bytes text ≡ codes "error: invalid UTF-8 was detected in one or more arguments\n" ++ cure
IsNotUtf8OrMemory cure Memory = Unit {0}
