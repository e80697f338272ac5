use Rattle.std.proofs.Common.{sym, ◌∙◌}
use Rattle.t1_char.specs.declared.machine.Numbers.TheVariants.{Passed}
use Rattle.t1_char.specs.Editions.{limit_of}
use Rattle.t1_char.specs.Steps.{steps_of}
use Rattle.t1_rules.proofs.Lemmas.Components.{component_known}
use Rattle.t1_rules.proofs.Lemmas.PassedNumbers.{HasTold, fewer_left_behind, has_told, known_over, known_with}
use Rattle.t1_rules.proofs.sidebearings.component_of_glyph.Goals as goal

-- The step after the numbers.
abbrev told : (c : goal.Joined-else-lacks_seac) → HasTold c.args.edition c.args.font.now c.args.glyph c.loop-component.machine.counted
    c.go_on.new.self.counted c.current.result.now
told c =
    has_told Passed c.args.edition c.args.font.now c.args.glyph c.loop-component.machine c.go_on.new.self c.current.result.now c.loop-component.invariant.same
    c.in-Step.ensures.asked c.current.ensures

pub loop-component-smaller : goal.loop-component-smaller
loop-component-smaller c =
    fewer_left_behind c.args.edition c.args.font.now c.args.glyph c.loop-component.machine.counted c.go_on.new.self.counted c.current.result.now
    (told c)

pub loop-component-preserved : goal.loop-component-preserved
loop-component-preserved c =
    record {
      same = record {
        edition_is = c.go_on.ensures.edition ∙ c.loop-component.invariant.same.edition_is;
        font_is = c.go_on.ensures.font ∙ c.loop-component.invariant.same.font_is;
        glyph_is = c.go_on.ensures.glyph ∙ c.loop-component.invariant.same.glyph_is;
      };
      component = known_with c.args.edition c.args.font.now c.args.glyph c.loop-component.machine.counted c.go_on.new.self.counted c.current.result.now
          c.loop-component.component c.take_in.new.self
          (told c)
          c.loop-component.invariant.component c.take_in.ensures;
    }

-- No step after the first sidebearing changes a component that has no seac.
pub returns-then-is_some : goal.returns-then-is_some
returns-then-is_some c =
    component_known (limit_of c.args.edition) (steps_of c.args.font.now c.args.glyph) c.go_on.new.self.counted c.take_in.new.self
    (c.steps_lack_seac-lacks_seac.ensures c.if-lacks_seac.true)
    (known_with c.args.edition c.args.font.now c.args.glyph c.loop-component.machine.counted c.go_on.new.self.counted c.current.result.now
    c.loop-component.component c.take_in.new.self
    (has_told Passed c.args.edition c.args.font.now c.args.glyph c.loop-component.machine c.go_on.new.self c.current.result.now c.loop-component.invariant.same
    c.in-Step.ensures.asked c.current.ensures)
    c.loop-component.invariant.component c.take_in.ensures)
    (sym c.is_some.ensures ∙ c.if-is_some.true)

pub returns : goal.returns
returns c =
    c.loop-component.invariant.component
    ∙ known_over Passed c.args.edition c.args.font.now c.args.glyph c.loop-component.machine c.go_on.new.self c.go_on.result c.loop-component.invariant.same
    c.go_on.ensures.asked c.in_default.not-Step
