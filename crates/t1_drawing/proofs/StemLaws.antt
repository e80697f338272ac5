-- Laws of the stems of a glyph.
use Rattle.std.proofs.Common.{◌≡◌, ◌||◌, ℤ, nat_le, Bool, true, false, Some, List, [], ◌∷◌, ◌++◌, length, map, refl, sym, ap, ◌∙◌, append_assoc, append-nil}
use Rattle.std.proofs.lemmas.Bool.{or_parts}
use Rattle.std.proofs.lemmas.List.{map-append}
use Rattle.std.proofs.lemmas.List.Elements.{All-cons, All-nil}
use Rattle.std.specs.List.{All, list_any}
use Rattle.t1_drawing.specs.declared.direction.Direction.{Direction}
use Rattle.t1_drawing.specs.declared.touching.Extent.{Extent}
use Rattle.t1_drawing.specs.StemLaws.{EdgePair, IsFront, LiesOff, StemsStay, UntouchedStemsLieOff, edges}
use Rattle.t1_drawing.specs.Strokes.{Stroke, strokes_at}
use Rattle.t1_drawing.specs.Touching.{SetStem, extent, has_edges_of, is_near, set_at, stems_of_glyph, touches, touches_edge, touches_one, with_stem, with_stems}
use Rattle.t1_rules.specs.StepRules.Stems.{most_stems}
use Rattle.t1_drawing.proofs.Touches.{maps_twice, stems_on, with_later}

off : (e : Extent) (edge : ℤ) → touches_edge e edge ≡ false → LiesOff e edge
off e edge is =
    let ends = or_parts (is_near e.start edge) (is_near e.end edge) (or_parts (is_near e.start edge || is_near e.end edge) _ is).0 in
    record { start = ends.0; end = ends.1 }

both_off : (e : Extent) (low high : ℤ) → touches_one (Some e) low high ≡ false → LiesOff e low × LiesOff e high
both_off e low high is =
    let edges_off = or_parts (touches_edge e low) (touches_edge e high) is in
    (off e low edges_off.0, off e high edges_off.1)

all_off : (direction : Direction) (low high : ℤ) (strokes : List Stroke) → list_any (touches direction low high) strokes ≡ false
    → All (λ stroke. (e : Extent) → extent direction stroke ≡ Some e → LiesOff e low × LiesOff e high) strokes
all_off direction low high [] is = All-nil (λ stroke. (e : Extent) → extent direction stroke ≡ Some e → LiesOff e low × LiesOff e high)
all_off direction low high (s ∷ ss) is =
    let parts = or_parts (touches direction low high s) (list_any (touches direction low high) ss) is in
    All-cons (λ stroke. (e : Extent) → extent direction stroke ≡ Some e → LiesOff e low × LiesOff e high) s ss
    (λ e there. both_off e low high (ap (λ x. touches_one x low high) (sym there) ∙ parts.0))
    (all_off direction low high ss parts.1)

pub untouched_stems_lie_off : UntouchedStemsLieOff
untouched_stems_lie_off direction stem is = all_off direction stem.low stem.high stem.later is

one_more : (stems : List SetStem) (stem : SetStem) (none : Bool) → none ≡ (list_any (has_edges_of stem) stems || nat_le most_stems (length stems))
    → IsFront (map edges stems) (map edges (with_stem stems stem))
one_more stems stem true is = record { rest = []; whole = rw (sym is) (sym (append-nil (map edges stems))) }
one_more stems stem false is = record { rest = edges stem ∷ []; whole = rw (sym is) (map-append edges stems (stem ∷ [])) }

front_of_front : (a b c : List EdgePair) → IsFront a b → IsFront b c → IsFront a c
front_of_front a b c one two = record {
  rest = one.rest ++ two.rest;
  whole = two.whole ∙ ap (λ front. front ++ two.rest) one.whole ∙ append_assoc a one.rest two.rest;
}

more : (stems others : List SetStem) → IsFront (map edges stems) (map edges (with_stems stems others))
more stems [] = record { rest = []; whole = sym (append-nil (map edges stems)) }
more stems (s ∷ ss) =
    front_of_front (map edges stems) (map edges (with_stem stems s)) (map edges (with_stems (with_stem stems s) ss))
    (one_more stems s (list_any (has_edges_of s) stems || nat_le most_stems (length stems)) refl) (more (with_stem stems s) ss)

pub stems_stay : StemsStay
stems_stay direction before t =
    let kept = map (with_later (strokes_at before t)) (stems_of_glyph direction before) in
    let front = more kept (set_at direction before t []) in
    let same : map edges kept ≡ map edges (stems_of_glyph direction before) =
    maps_twice (with_later (strokes_at before t)) edges edges (stems_of_glyph direction before) (λ x. refl) in
    record {
      rest = front.rest;
      whole = ap (λ stems. map edges stems) (stems_on direction before t) ∙ front.whole ∙ ap (λ all. all ++ front.rest) same;
    }
