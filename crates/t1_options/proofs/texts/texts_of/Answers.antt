use Rattle.std.proofs.Common.{rules, string_bytes, tests}
use Rattle.std.proofs.lemmas.Iterator.{YieldsList-from_map_by, YieldsList-from_slice}
use Rattle.std.proofs.lemmas.Iterator.Consumers.{YieldsList-at, map_from_collect}
use Rattle.t1_options.proofs.texts.texts_of.Goals as goal

pub returns : goal.returns
returns c =
    map_from_collect _ c.collect.ensures.ran (YieldsList-from_map_by _ (λ s. s.now) string_bytes
    (YieldsList-at c.map.ensures.source (YieldsList-from_slice c.args.texts.now cc)) c.map.ensures.closure (λ x r q k. search (rules, tests)))
