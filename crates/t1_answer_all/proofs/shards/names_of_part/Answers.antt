use Rattle.std.proofs.Common.{ap, arith, length, string_bytes, ◌≤◌, ◌∙◌, ℕ}
use Rattle.t1_answer_all.proofs.PartNames.{names_are}
use Rattle.t1_answer_all.proofs.shards.names_of_part.Goals as goal
use Rattle.t1_many.specs.Shards.{start_of}

pub returns : goal.returns
returns c = λ one within.
    let n = c.args.shard.parts in
    let before : 1 ≤ n = omega (arith, one, within) in
    names_are string_bytes c.args.names.now n c.args.shard.part c.start_of-start.result c.start_of-end.result one within
    (c.start_of-start.ensures.start before (omega (arith, c.saturating_sub.ensures, within))
    ∙ ap (λ (p : ℕ). start_of n (length c.args.names.now) p) c.saturating_sub.ensures) (c.start_of-end.ensures.start before within)
