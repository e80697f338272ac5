use Rattle.std.proofs.Common.{◌≡◌, ◌++◌, ◌∷◌, [], map, ap, sym, ◌∙◌, arith}
use Rattle.std.specs.List.{range_with_len}
use Rattle.std.proofs.lemmas.List.FromFn.{map-range_with_len_more}
use Rattle.t1_char.specs.Editions.{limit_of}
use Rattle.t1_rules.specs.Components.{component_at, components_of}
use Rattle.t1_rules.proofs.sidebearings.Sidebearings.prepare.Goals as goal

pub loop-code-preserved : goal.loop-code-preserved
loop-code-preserved c =
    let code = c.loop-code.code in
    c.in_ok-push.ensures.items
    ∙ ap (λ items. items ++ c.component_at.result ∷ []) c.loop-code.invariant
    ∙ ap (λ component. map (component_at (limit_of c.args.edition) c.args.font.now) (range_with_len 0 code) ++ component ∷ []) c.component_at.ensures
    ∙ sym (map-range_with_len_more (component_at (limit_of c.args.edition) c.args.font.now) 0 code code (omega arith))

pub returns-clause-components : goal.returns-clause-components
unfolding components_of
returns-clause-components c =
    let all : c.loop-code.code ≡ 256 = omega (arith, c.loop-code-test.false, c.loop-code.auto.code-end) in
    c.loop-code.invariant ∙ ap (λ code. map (component_at (limit_of c.args.edition) c.args.font.now) (range_with_len 0 code)) all
