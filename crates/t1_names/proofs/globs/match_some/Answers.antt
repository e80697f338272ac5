use Rattle.std.proofs.Common.{◌≡◌, ◌+◌, ◌-◌, ◌&&◌, ◌||◌, ap, arith, false, get_or, subst, ◌∙◌}
use Rattle.t1_names.proofs.GlobLemmas.{AreHalves, some_done}
use Rattle.t1_names.specs.GlobValues.{piece_of}
use Rattle.t1_names.specs.Globs.{fits, any_then}
use Rattle.t1_names.proofs.globs.match_some.Goals as goal

pub loop-at-preserved : goal.loop-at-preserved
loop-at-preserved c =
    let next : c.loop-at.at ≡ c.loop-at.at - 1 + 1 = omega arith in record {
      within = omega arith;
      halves = λ passes row.
          some_done (fits (piece_of c.args.piece.now)) passes c.args.name.now c.loop-at.row (omega arith) (c.loop-at.at - 1) c.index-name-at.result _ (omega arith)
          (subst (AreHalves passes (any_then (fits (piece_of c.args.piece.now)) passes) c.args.name.now c.loop-at.row) next (c.loop-at.invariant.halves passes row))
          (ap (λ b. get_or c.loop-at.row (c.loop-at.at - 1) false || (b && get_or c.loop-at.row (c.loop-at.at - 1 + 1) false))
          (c.fits.ensures ∙ ap (fits (piece_of c.args.piece.now)) c.index-name-at.is));
    }
