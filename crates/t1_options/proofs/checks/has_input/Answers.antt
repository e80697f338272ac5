use Rattle.std.proofs.Common.{ℕ, Bor, List, rules, tests, ◌∙◌}
use Rattle.std.proofs.lemmas.Iterator.{YieldsList-from_slice}
use Rattle.std.proofs.lemmas.Iterator.Search.{any_from_yields_List}
use Rattle.t1_names.specs.Words.{is_input}
use Rattle.t1_options.proofs.TextTests.{any_lent}
use Rattle.t1_options.proofs.checks.has_input.Goals as goal

pub returns : goal.returns
returns c =
    let words = c.args.words.now in
    any_from_yields_List (λ (s : Bor (List ℕ)). is_input s.now) _ _ _ c.any.ensures.ran (YieldsList-from_slice words cc)
    (λ x b q k. search (rules, tests)) ∙ any_lent is_input words
