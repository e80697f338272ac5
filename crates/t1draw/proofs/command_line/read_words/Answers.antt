use Rattle.std.proofs.Common.{◌≡◌, ℕ, List, ap, Option, None, Some, option_map, codes, ◌∙◌, subst, sym, refl, lit<}
use Rattle.clap.specs.Words.{Text}
use Rattle.t1_run.specs.Words.{IsEditionOrFirst, IsNumberArgument, IsPlainApp, IsRequiredArgument, IsTextOfNumber, edition_rule}
use Rattle.t1_run.proofs.Commands.{by_rules, first_of-found}
use Rattle.t1draw.specs.CommandLine.{asked_in, asked_value, fault_rule, font_in, given_in, glyph_rule, step_rule, t1draw, wrong_in}
use Rattle.t1draw.specs.CommandLine.AreUntaken.{wrong}
use Rattle.t1draw.specs.CommandLine.IsWrong.{no_name, together}
use Rattle.t1draw.proofs.command_line.read_words.Goals as goal

-- no argument excludes anything, and each has an id of its own
plain : IsPlainApp t1draw
unfolding t1draw
plain = record { own = refl; distinct = refl; plain = refl; negates = refl; simple = refl; free = refl; leaf = refl; alone = refl }

-- the program's rules take 1 to 4 for --edition
edition_is_number : IsNumberArgument t1draw 1 4 (codes "edition")
unfolding t1draw
edition_is_number = (0, edition_rule, lit< tt, refl, (refl, refl))

step_is_number : IsNumberArgument t1draw 1 18446744073709551615 (codes "step")
unfolding t1draw
step_is_number = (2, step_rule, lit< tt, refl, (refl, refl))

fault_is_number : IsNumberArgument t1draw 1 18446744073709551615 (codes "fault")
unfolding t1draw
fault_is_number = (3, fault_rule, lit< tt, refl, (refl, refl))

-- the program's rules ask for GLYPH
glyph_is_required : IsRequiredArgument t1draw (codes "glyph")
unfolding t1draw
glyph_is_required = (6, glyph_rule, lit< tt, refl, (refl, refl, refl, refl))

-- what isn't something is nothing
none_of : {X : Type 0} (o : Option X) → ((x : X) → o ≡ Some x → ⊥) → o ≡ None
none_of None none = refl
none_of (Some x) none = absurd (none x refl)

pub parse-requires : goal.parse-requires
parse-requires g c = record { plain = subst IsPlainApp (sym c.in_ok-command.ensures) plain }

pub edition-edition-requires : goal.edition-edition-requires
edition-edition-requires g c =
    let parsed = by_rules t1draw c.in_ok-command.ensures c.in_ok-matches.ensures.parsed in
    subst (IsTextOfNumber 1 4) (sym c.get_str.ensures) (parsed.number 1 4 (codes "edition") edition_is_number)

pub given_in-given-requires-clause-step : goal.given_in-given-requires-clause-step
given_in-given-requires-clause-step g c =
    let parsed = by_rules t1draw c.in_ok-command.ensures c.in_ok-matches.ensures.parsed in
    parsed.number 1 18446744073709551615 (codes "step") step_is_number

pub given_in-given-requires-clause-fault : goal.given_in-given-requires-clause-fault
given_in-given-requires-clause-fault g c =
    let parsed = by_rules t1draw c.in_ok-command.ensures c.in_ok-matches.ensures.parsed in
    parsed.number 1 18446744073709551615 (codes "fault") fault_is_number

pub given_in-given-requires-clause-word : goal.given_in-given-requires-clause-word
given_in-given-requires-clause-word g c =
    let parsed = by_rules t1draw c.in_ok-command.ensures c.in_ok-matches.ensures.parsed in
    parsed.required (codes "glyph") glyph_is_required

pub returns-in-Some-clause-untaken : goal.returns-in-Some-clause-untaken
returns-in-Some-clause-untaken g c =
    let parsed = by_rules t1draw c.in_ok-command.ensures c.in_ok-matches.ensures.parsed in
    let same = c.given_in-given.ensures ∙ ap given_in parsed.rows in
    let said = c.in_ok-usage_error.ensures in
    wrong c.in-Some.complaint said.0 parsed.sound
    (together c.in-Some.complaint (sym (ap wrong_in same) ∙ sym c.wrong_in.ensures ∙ c.in-Some.is)) said.1.0 said.1.1

pub returns-in_default-2-clause-untaken : goal.returns-in_default-2-clause-untaken
returns-in_default-2-clause-untaken g c =
    let parsed = by_rules t1draw c.in_ok-command.ensures c.in_ok-matches.ensures.parsed in
    let same = c.given_in-given.ensures ∙ ap given_in parsed.rows in
    let said = c.in_ok-usage_error-2.ensures in
    wrong _ said.0 parsed.sound
    (no_name (sym (ap wrong_in same) ∙ sym c.wrong_in.ensures ∙ none_of _ c.in_default.not-Some)
    (sym (ap asked_in same) ∙ sym c.in_ok-asked.ensures ∙ ap (option_map asked_value) (none_of _ c.in_default-2.not-Some))) said.1.0 said.1.1

pub returns-clause-taken : goal.returns-clause-taken
returns-clause-taken g c =
    let parsed = by_rules t1draw c.in_ok-command.ensures c.in_ok-matches.ensures.parsed in
    let first = λ (id : List ℕ) (value : Option (List ℕ)). first_of-found c.in_ok-matches.matches id _ value parsed.rows in
    let same = c.given_in-given.ensures ∙ ap given_in parsed.rows in
    record {
      given = record {
        edition = subst (λ (text : Option Text). IsEditionOrFirst text c.edition-edition.result) (first (codes "edition") _ c.get_str.ensures)
            c.edition-edition.ensures;
        waive = c.in_ok-waive.ensures ∙ first (codes "waive") _ c.get_str-2.ensures;
        fitting = sym (ap wrong_in same) ∙ sym c.wrong_in.ensures ∙ none_of _ c.in_default.not-Some;
        asked = sym (ap asked_in same) ∙ sym c.in_ok-asked.ensures ∙ ap (option_map asked_value) c.in-Some-2.is;
        font = c.in_ok-font.ensures ∙ c.font_in.ensures ∙ ap font_in same;
      };
      sound = parsed.sound;
    }
