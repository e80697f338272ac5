-- How many steps watchers see, how far these lead, and where no rule speaks of a number.
use Rattle.std.specs.Prelude.{◌≡◌, false, ℕ, ℤ, pos, ◌+ℤ◌, ◌*◌, ◌^◌, ◌≤ℤ◌}
use Rattle.t1_rules.specs.declared.step_rules.flex.Point.{Point}
use Rattle.t1_rules.specs.declared.watches.Watches.{Watches}

-- How many steps a watcher can see: more than the limit of any edition.
abbrev pub most_steps : ℕ
most_steps = 16777216

-- The number is at most so far from 0.
pub record IsWithin (bound : ℕ) (z : ℤ) : Type 0 where
  pub low : pos 0 ≤ℤ (z +ℤ pos bound)
  pub high : z ≤ℤ pos bound

-- How far one step can move a coordinate: by the sum of three numbers of 32 bits.
abbrev pub reach : ℕ
reach = 3 * 2 ^ 31

-- So many steps can bring a point there.
pub record IsNear (n : ℕ) (point : Point) : Type 0 where
  pub x : IsWithin (n * reach) point.x
  pub y : IsWithin (n * reach) point.y

-- The last steps neither replaced the hints nor ended a flex, and no pop follows such a step.
pub record IsCalm (watches : Watches) : Type 0 where
  pub replaced : watches.stems.replaced ≡ false
  pub hints_popped : watches.stems.popped ≡ false
  pub ended : watches.flex.ended ≡ false
  pub popped : watches.flex.popped ≡ false
  pub popped_twice : watches.flex.popped_twice ≡ false
