use Rattle.std.proofs.Common.{map, not, rules, string_bytes, tests}
use Rattle.std.proofs.lemmas.Iterator.{YieldsList-from_map_by, YieldsList-from_slice}
use Rattle.std.proofs.lemmas.Iterator.Consumers.{YieldsList-at, YieldsList-from_filter, map_from_collect}
use Rattle.t1_rules.specs.Book.{code_of}
use Rattle.t1_options.specs.Choices.{codes_outside, is_of_levels}
use Rattle.t1_options.proofs.choices.codes_outside.Goals as goal

pub returns : goal.returns
unfolding codes_outside
returns c =
    map_from_collect _ c.collect.ensures.ran (YieldsList-from_map_by _ (λ s. s.now) code_of
    (YieldsList-at c.map.ensures.source (YieldsList-from_filter _ (λ rule. not (is_of_levels (map string_bytes c.args.levels.now) rule))
    (YieldsList-at c.filter.ensures.source (YieldsList-from_slice c.args.rules.now cc)) c.filter.ensures.closure
    (λ x b q k. search (rules, tests)))) c.map.ensures.closure (λ x r q k. search (rules, tests)))
