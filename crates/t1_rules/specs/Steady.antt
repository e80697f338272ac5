-- Watchers in the midst of a path, of which lines, curves and closepaths change nothing but the current point and what
-- is drawn, and moves nothing but that point and how many there were.
use Rattle.std.specs.Prelude.{◌≡◌, true, false, ◌+ℤ◌, ◌+◌}
use Rattle.t1_char.specs.declared.lines.DrawnPath.{DrawnPath}
use Rattle.t1_char.specs.declared.lines.DrawnPath.TheVariants.{Nothing, Open, Closed}
use Rattle.t1_char.specs.declared.lines.Way.{Way}
use Rattle.t1_rules.specs.declared.step_rules.flex.Point.{Point}
use Rattle.t1_rules.specs.declared.watches.Watches.{Watches}

-- A path is begun by a move, outside flex: what was told last is neither the width nor counter control.
pub record IsSteady (watches : Watches) : Type 0 where
  pub begun : watches.paths.begun ≡ true
  pub path_flex : watches.paths.in_flex ≡ false
  pub moved : watches.paths.moved ≡ true
  pub stem_flex : watches.stems.in_flex ≡ false
  pub flex : watches.flex.in_flex ≡ false
  pub seac_flex : watches.seac.in_flex ≡ false
  pub opened : watches.counters.opened ≡ false
  pub going_on : watches.counters.going_on ≡ false

-- Nothing is drawn since that move.
pub record IsUndrawn (watches : Watches) : Type 0 where
  pub drawn : watches.paths.drawn ≡ false
  pub outlined : watches.seac.outlined ≡ true

abbrev pub point_on : Point → Way → Point
point_on point way = record { x = point.x +ℤ way.x; y = point.y +ℤ way.y }

-- What is drawn after a line, and after a closepath.
abbrev pub drawn_on : Watches → Watches
drawn_on watches = record watches {
  paths = record watches.paths { drawn = true };
  stems = record watches.stems { drawn = true };
  seac = record watches.seac { outlined = true };
}

abbrev pub closed_on : Watches → Watches
closed_on watches = record watches { paths = record watches.paths { drawn = false; moved = false } }

abbrev pub led_by : DrawnPath → Watches → Watches
led_by Nothing watches = watches
led_by Open watches = drawn_on watches
led_by Closed watches = closed_on (drawn_on watches)

-- The same watchers with the current point further on, more moves, and what is drawn.
abbrev pub moved_on : Watches → Way → Watches
moved_on watches way =
    record (led_by way.drawn watches) {
      flex = record watches.flex { point = point_on watches.flex.point way; moves = watches.flex.moves + way.moves };
    }
