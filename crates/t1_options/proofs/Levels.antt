-- Which rules levels choose.
use Rattle.std.proofs.Common.{◌≡◌, ◌&&◌, ◌||◌, ◌++◌, ◌-◌, Bool, true, false, not, List, [], filter, refl, sym, ap, ◌∙◌}
use Rattle.std.proofs.lemmas.List.Folds.{list_any-append}
use Rattle.std.proofs.lemmas.Map.Views.{any-filter_same}
use Rattle.std.specs.List.{list_any}
use Rattle.clap.proofs.WalkLemmas.{list_any-map}
use Rattle.clap.specs.Words.{Text}
use Rattle.t1_many.proofs.Codes.{codes_pick}
use Rattle.t1_many.proofs.Texts.{itself}
use Rattle.t1_many.specs.Choice.{is_only, is_told, picks}
use Rattle.t1_rules.proofs.Lemmas.Book.{listed}
use Rattle.t1_rules.specs.Book.{code_of, number_of, rules}
use Rattle.t1_rules.specs.declared.rule.Rule.{Rule}
use Rattle.t1_options.proofs.Known.{any_of}
use Rattle.t1_options.specs.Choices.{codes_of, codes_outside, is_of_levels, left_out, words_of}
use Rattle.t1_options.specs.Laws.{LevelsChooseRules}

and_true : (b : Bool) → (b && true) ≡ b
and_true true = refl
and_true false = refl

picks_own : (rule : Rule) → picks (code_of rule) (code_of rule) ≡ true
picks_own rule = rw (itself (code_of rule)) refl

-- the codes that levels omit pick the rules of other levels
pub picked_by_level : (words : List Text) (rule : Rule) → list_any (picks (code_of rule)) (left_out words) ≡ not (is_of_levels words rule)
unfolding codes_outside
picked_by_level words rule =
    let test : Rule → Bool = λ other. picks (code_of rule) (code_of other) in
    let out : Rule → Bool = λ other. not (is_of_levels words other) in
    sym (list_any-map (picks (code_of rule)) code_of (filter out rules))
    ∙ any-filter_same test out (out rule) (λ other picked. ap out (codes_pick other rule picked)) rules
    ∙ ap (λ b. out rule && b) (any_of test rules (number_of rule - 1) rule (listed rule) (picks_own rule))
    ∙ and_true (out rule)

both_ways : (chosen out level : Bool) → (chosen && not (out || not level)) ≡ ((chosen && not out) && level)
both_ways true true level = refl
both_ways true false true = refl
both_ways true false false = refl
both_ways false out level = refl

-- a choice that omits codes and levels
told_by_level : (only except words : List Text) (rule : Rule)
    → is_told (record { only = only; except = except ++ left_out words }) (code_of rule)
    ≡ (is_told (record { only = only; except = except }) (code_of rule) && is_of_levels words rule)
told_by_level only except words rule =
    ap (λ b. is_only only (code_of rule) && not b) (list_any-append (picks (code_of rule)) except (left_out words)
    ∙ ap (λ b. list_any (picks (code_of rule)) except || b) (picked_by_level words rule))
    ∙ both_ways (is_only only (code_of rule)) (list_any (picks (code_of rule)) except) (is_of_levels words rule)

pub levels_choose_rules : LevelsChooseRules
levels_choose_rules given options meant rule =
    meant.rules rule ∙ told_by_level (codes_of given.only) (codes_of given.except) (words_of given.level) rule

-- without other codes, levels choose alone
pub told_by_level_alone : (words : List Text) (rule : Rule)
    → is_told (record { only = []; except = left_out words }) (code_of rule) ≡ is_of_levels words rule
told_by_level_alone words rule = told_by_level [] [] words rule
