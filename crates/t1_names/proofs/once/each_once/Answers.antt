use Rattle.std.proofs.Common.{◌++◌, ap, map, string_bytes, sym, ◌∙◌}
use Rattle.std.proofs.lemmas.List.{nil_from_length}
use Rattle.t1_names.proofs.OnceLemmas.{after_insert, all_taken}
use Rattle.t1_names.specs.Once.{each_after, each_once}
use Rattle.t1_names.proofs.once.each_once.Goals as goal

pub loop-name-preserved : goal.loop-name-preserved
loop-name-preserved c =
    after_insert c.loop-name.kept.keys c.insert.new.self.keys c.in-Some.name (map string_bytes c.next.new.self.rest.items) c.in_ok-insert.ensures.keys
    ∙ ap (λ rest. map string_bytes c.loop-name.kept.keys ++ each_after (map string_bytes c.loop-name.kept.keys) (map string_bytes rest))
    (sym c.in-Some.ensures.steps.0) ∙ c.loop-name.invariant

pub returns : goal.returns
returns c =
    all_taken c.names_of.result c.loop-name.kept.keys c.loop-name.name-iterator.rest.items (each_once (map string_bytes c.args.names.items))
    c.names_of.ensures c.loop-name.invariant
    (nil_from_length c.loop-name.name-iterator.rest.items (sym c.loop-name.name-iterator.rest.ok.0 ∙ c.in-None.ensures.steps.0))
