use Rattle.std.proofs.Common.{ℕ, Bor, List, rules, tests, ◌∙◌}
use Rattle.std.proofs.lemmas.Iterator.{YieldsList-from_slice}
use Rattle.std.proofs.lemmas.Iterator.Search.{any_from_yields_List}
use Rattle.t1_options.proofs.TextTests.{any_lent}
use Rattle.t1_options.specs.Values.{is_marked}
use Rattle.t1_options.proofs.checks.is_one_marked.Goals as goal

pub returns : goal.returns
returns c =
    let values = c.args.values.now in
    any_from_yields_List (λ (s : Bor (List ℕ)). is_marked s.now) _ _ _ c.any.ensures.ran (YieldsList-from_slice values cc)
    (λ x b q k. search (rules, tests)) ∙ any_lent is_marked values
