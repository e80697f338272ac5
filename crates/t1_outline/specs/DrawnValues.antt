-- What a `DrawnSegment` says.
use Rattle.t1_outline.specs.declared.outline.DrawnSegment.{DrawnSegment}
use Rattle.t1_outline.specs.Outlines.{DrawnView, placed}

abbrev pub drawn_value : DrawnSegment → DrawnView
drawn_value drawn = placed drawn.step drawn.path.items drawn.segment
