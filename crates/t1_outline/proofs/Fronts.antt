-- What steps draw that go on from others.
use Rattle.std.proofs.Common.{◌≡◌, ◌+◌, List, [], ◌∷◌, ◌++◌, length, map, append_assoc, append-nil, refl, sym, ap, ◌∙◌}
use Rattle.t1_char.specs.Steps.{StepView}
use Rattle.t1_outline.specs.Laws.Fronts.{FrontsDrawFronts}
use Rattle.t1_outline.specs.Outlines.{drawn, drawn_from, drawn_of, placed}

drawn_on : (before front more : List StepView) → drawn_from before (front ++ more) ≡ drawn_from before front ++ drawn_from (before ++ front) more
drawn_on before [] more = rw (append-nil before) refl
drawn_on before (s ∷ ss) more =
    let own = map (placed (length before + 1) s.path) (drawn before s) in
    let first = drawn_from (before ++ s ∷ []) ss in
    let rest : drawn_from (before ++ s ∷ []) (ss ++ more) ≡ first ++ drawn_from (before ++ s ∷ ss) more =
    drawn_on (before ++ s ∷ []) ss more ∙ ap (λ passed. first ++ drawn_from passed more) (append_assoc before (s ∷ []) ss) in
    ap (λ behind. own ++ behind) rest ∙ sym (append_assoc own first (drawn_from (before ++ s ∷ ss) more))

pub fronts_draw_fronts : FrontsDrawFronts
fronts_draw_fronts front more = drawn_on [] front more

pub drawn_more : (before : List StepView) (t : StepView) → drawn_of (before ++ t ∷ []) ≡ drawn_of before ++ map (placed (length before + 1) t.path) (drawn before t)
drawn_more before t =
    fronts_draw_fronts before (t ∷ []) ∙ ap (λ own. drawn_of before ++ own) (append-nil (map (placed (length before + 1) t.path) (drawn before t)))
