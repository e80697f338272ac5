use Prim.Native.Nat.{suc}
use Rattle.std.proofs.Common.{◌≡◌, ◌-◌, arith, drop, eq-eqb, get_or, subst, sym, ap, false, ◌∙◌}
use Rattle.std.specs.List.{list_any}
use Rattle.t1_names.proofs.GlobLemmas.{last_part-after, start_of_name}
use Rattle.t1_names.specs.Globs.{is_slash}
use Rattle.t1_names.proofs.globs.last_part.Goals as goal

pub returns-else-name-start-ne47-clause-part : goal.returns-else-name-start-ne47-clause-part
returns-else-name-start-ne47-clause-part c =
    let next : suc (c.loop-start.start - 1) ≡ c.loop-start.start = omega arith in
    ap (λ n. drop n c.args.name.now) (sym next)
    ∙ last_part-after c.args.name.now (c.loop-start.start - 1) c.index-name-start.result (omega arith)
    (eq-eqb (get_or c.args.name.now (c.loop-start.start - 1) c.index-name-start.result) 47 (sym c.index-name-start.is ∙ c.if-name-start-ne47.false))
    (subst (λ n. list_any is_slash (drop n c.args.name.now) ≡ false) (sym next) c.loop-start.invariant.plain)

pub returns-after-loop-start-clause-part : goal.returns-after-loop-start-clause-part
returns-after-loop-start-clause-part c =
    start_of_name c.args.name.now c.loop-start.start (omega arith) c.loop-start.invariant.plain
