use Rattle.std.proofs.Common.{ℕ, List, ap, true≢false, Option, None, Some, unwrap_or, codes, ◌∙◌, subst, sym, refl, lit<}
use Rattle.clap.specs.Words.{Text}
use Rattle.t1_run.specs.Words.{AreNumber, IsEditionOrFirst, IsNumberArgument, IsTextOfNumber, edition_rule}
use Rattle.t1_run.proofs.Commands.{first_of-found}
use Rattle.t1_answer.specs.CommandLine.{t1check, after_rule, max_rule, IsNumberOrZero}
use Rattle.t1_answer.proofs.command_line.options_in.Goals as goal

-- the program's rules take a number for --after
after_is_number : IsNumberArgument t1check 0 18446744073709551615 (codes "after")
unfolding t1check
after_is_number = (0, after_rule, lit< tt, refl, (refl, refl))

max_is_number : IsNumberArgument t1check 0 18446744073709551615 (codes "max")
unfolding t1check
max_is_number = (1, max_rule, lit< tt, refl, (refl, refl))

edition_is_number : IsNumberArgument t1check 1 4 (codes "edition")
unfolding t1check
edition_is_number = (3, edition_rule, lit< tt, refl, (refl, refl))

-- a missing number is 0
or_zero : (text : Option Text) (number : Option ℕ) → AreNumber text number → IsNumberOrZero text (unwrap_or number 0)
or_zero None number none = ap (λ (n : Option ℕ). unwrap_or n 0) none
or_zero (Some text) None is = absurd (true≢false (sym is.1))
or_zero (Some text) (Some n) is = is.0

pub number-requires : goal.number-requires
number-requires c =
    subst (IsTextOfNumber 0 18446744073709551615) (sym c.get_str.ensures) (c.requires.1.number 0 18446744073709551615 (codes "after") after_is_number)

pub number-max-requires : goal.number-max-requires
number-max-requires c =
    subst (IsTextOfNumber 0 18446744073709551615) (sym c.get_str-2.ensures) (c.requires.1.number 0 18446744073709551615 (codes "max") max_is_number)

pub edition-edition-requires : goal.edition-edition-requires
edition-edition-requires c =
    subst (IsTextOfNumber 1 4) (sym c.get_str-4.ensures) (c.requires.1.number 1 4 (codes "edition") edition_is_number)

pub returns : goal.returns
returns c words parsed =
    let first = λ (id : List ℕ) (value : Option (List ℕ)). first_of-found c.args.matches.now id _ value parsed.rows in
    record {
      given = record {
        after = rw c.unwrap_or-after.ensures (or_zero _ _ (subst (λ (text : Option Text). AreNumber text c.number.result)
            (first (codes "after") _ c.get_str.ensures) c.number.ensures));
        max = subst (λ (text : Option Text). AreNumber text c.number-max.result) (first (codes "max") _ c.get_str-2.ensures) c.number-max.ensures;
        trace = c.in_ok-trace.ensures ∙ first (codes "trace") _ c.get_str-3.ensures;
        edition = subst (λ (text : Option Text). IsEditionOrFirst text c.edition-edition.result) (first (codes "edition") _ c.get_str-4.ensures)
            c.edition-edition.ensures;
        waive = c.in_ok-waive.ensures ∙ first (codes "waive") _ c.get_str-5.ensures;
        file = c.in_ok-file.ensures ∙ first (codes "file") _ c.get_str-6.ensures;
      };
      sound = parsed.sound;
    }
