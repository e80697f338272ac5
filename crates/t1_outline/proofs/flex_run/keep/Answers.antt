use Rattle.std.proofs.Common.{[], ◌∷◌, sym, ◌∙◌, take_at}
use Rattle.std.proofs.lemmas.Bool.{eqb-true}
use Rattle.t1_outline.proofs.flex_run.keep.Goals as goal

pub returns-else-not-is_full : goal.returns-else-not-is_full
returns-else-not-is_full c =
    sym (take_at c.args.places.now.items (c.args.point ∷ []) 8 (eqb-true _ 8 (sym c.is_full.ensures.value ∙ c.if-not-is_full.false)))
