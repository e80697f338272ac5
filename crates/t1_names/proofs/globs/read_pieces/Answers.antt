use Rattle.std.proofs.Common.{◌++◌, ◌∷◌, [], ap, map, subst, sym, ◌∙◌}
use Rattle.std.proofs.lemmas.List.{map-append, nil_from_length}
use Rattle.t1_names.proofs.GlobLemmas.{all_read, one_read}
use Rattle.t1_names.specs.GlobValues.{piece_of, pieces_of}
use Rattle.t1_names.specs.Globs.{AreRead}
use Rattle.t1_names.proofs.globs.read_pieces.Goals as goal

pub loop-first-preserved : goal.loop-first-preserved
loop-first-preserved c last read =
    subst (λ pieces. AreRead c.args.text.now (pieces ++ last))
    (sym (ap (map piece_of) c.in_ok-push.ensures.items ∙ map-append piece_of c.loop-first.pieces.items (c.in_ok-piece.piece ∷ [])))
    (one_read c.args.text.now c.loop-first.rest.now c.in-Some.more.now c.in_ok-piece.after.now c.in-Some.first.now (pieces_of c.loop-first.pieces.items)
    (piece_of c.in_ok-piece.piece) c.loop-first.invariant c.in-Some.ensures.cases.0 c.in_ok-piece.ensures.0 c.in_ok-piece.ensures.1 last read)

pub returns : goal.returns
returns c = all_read c.args.text.now c.loop-first.rest.now (pieces_of c.loop-first.pieces.items) c.loop-first.invariant
    (nil_from_length c.loop-first.rest.now c.in_default.ensures.cases)
