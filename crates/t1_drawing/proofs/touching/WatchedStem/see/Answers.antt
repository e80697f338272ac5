use Rattle.std.proofs.Common.{◌≡◌, ◌||◌, of_z, rules, to_z, Some, ap, sym, ◌∙◌}
use Rattle.std.specs.Int.{w64}
use Rattle.t1_drawing.specs.Touching.{touches_one}
use Rattle.t1_drawing.proofs.Touches.{touched_stays}
use Rattle.t1_drawing.proofs.touching.WatchedStem.see.Goals as goal

pub returns-then-self-clause-stem : goal.returns-then-self-clause-stem
returns-then-self-clause-stem c = λ e is. sym (touched_stays (Some e) c.args.self.now c.if-self.true)

pub returns-clause-stem : goal.returns-clause-stem
returns-clause-stem c = λ e is.
    let stem = c.args.self.now in
    let low : to_z w64 (of_z w64 stem.low) ≡ stem.low = search rules in
    let high : to_z w64 (of_z w64 stem.high) ≡ stem.high = search rules in
    let touched : c.touches_one-self.result ≡ touches_one (Some e) stem.low stem.high = rw (low, high) at c.touches_one-self.ensures e is in
    ap (λ t. record stem { touched = t }) (touched ∙ ap (λ t. t || touches_one (Some e) stem.low stem.high) (sym c.if-self.false))
