use Rattle.std.proofs.Common.{◌+◌, ◌&&◌, ap, arith, false, get_or, ◌∙◌}
use Rattle.t1_names.proofs.GlobLemmas.{all_done, one_done}
use Rattle.t1_names.specs.GlobValues.{piece_of}
use Rattle.t1_names.specs.Globs.{fits}
use Rattle.t1_names.proofs.globs.match_one.Goals as goal

pub loop-at-preserved : goal.loop-at-preserved
loop-at-preserved c passes row =
    one_done (fits (piece_of c.args.piece.now)) passes c.args.name.now c.loop-at.row (omega arith) c.loop-at.at c.index-name-at.result _ (omega arith)
    (c.loop-at.invariant passes row)
    (ap (λ b. b && get_or c.loop-at.row (c.loop-at.at + 1) false) (c.fits.ensures ∙ ap (fits (piece_of c.args.piece.now)) c.index-name-at.is))

pub returns : goal.returns
returns c passes row =
    all_done (fits (piece_of c.args.piece.now)) passes c.args.name.now c.loop-at.row (omega arith) c.loop-at.at (omega arith) (c.loop-at.invariant passes row)
