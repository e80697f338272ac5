use Rattle.std.proofs.Common.{◌+◌, ◌∙◌, ℕ, ap}
use Rattle.t1_many.proofs.KindMaps.{insert_now}
use Rattle.t1_many.proofs.counts.count_more.Goals as goal
use Rattle.indexmap.specs.IndexMap.{insert_entry}
use Rattle.t1_many.specs.Counts.{kind_counts}
use Rattle.t1_many.specs.Kinds.{kind_value, same_kind}

pub returns : goal.returns
returns c =
    ap kind_counts c.in_ok-insert.ensures.entries ∙ insert_now c.args.counts.now.entries c.args.kind.now _
    ∙ ap (λ (n : ℕ). insert_entry same_kind (kind_counts c.args.counts.now.entries) (kind_value c.args.kind.now) (n + 1)) c.count_of-next.ensures
