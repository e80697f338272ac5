-- What watchers keep of the segments and the steps that they have seen.
use Rattle.std.specs.Prelude.{◌≡◌, ◌*◌, ◌≤◌, ◌+ℤ◌, Bool, false, true, Option, Some, None, IfSome, List, [], ◌++◌, length, map, option_map}
use Rattle.std.specs.List.{list_all, list_any}
use Rattle.t1_char.specs.declared.edition.Edition.{Edition}
use Rattle.t1_char.specs.Editions.{has_latest_rules}
use Rattle.t1_char.specs.Steps.{StepView}
use Rattle.t1_outline.specs.declared.segment.Segment.{Segment}
use Rattle.t1_outline.specs.Private.Standing.{NibStandsFor}
use Rattle.t1_rules.specs.declared.watches.Watches.{Watches}
use Rattle.t1_rules.specs.Private.Standing.{WatchesStandFor}
use Rattle.t1_rules.specs.Watches.{IsNear, IsWithin}
use Rattle.t1_drawing.specs.declared.area.Area.{Area}
use Rattle.t1_drawing.specs.declared.direction.Direction.TheVariants.{Across, Upright}
use Rattle.t1_drawing.specs.declared.font_box.FontBox.{FontBox}
use Rattle.t1_drawing.specs.declared.glyph.DrawingWatcher.{DrawingWatcher}
use Rattle.t1_drawing.specs.declared.moves.MoveWatcher.{MoveWatcher}
use Rattle.t1_drawing.specs.declared.segments.SegmentWatcher.{SegmentWatcher}
use Rattle.t1_drawing.specs.declared.touching.TouchWatcher.{TouchWatcher}
use Rattle.t1_drawing.specs.Areas.{area_from, area_of, is_drawn_close}
use Rattle.t1_drawing.specs.Bounds.{most_segments, most_ways}
use Rattle.t1_drawing.specs.FontBoxes.{ends_outside}
use Rattle.t1_drawing.specs.Moves.{is_only_moved}
use Rattle.t1_drawing.specs.Private.Areas.{IsClose, most_area}
use Rattle.t1_drawing.specs.Private.Limits.{limits_of}
use Rattle.t1_drawing.specs.Private.Watching.{IsDone, point_in, watched}
use Rattle.t1_drawing.specs.Segments.{line_start_before, start_after}
use Rattle.t1_drawing.specs.Strokes.{end_of_steps, segments_of, strokes_after}
use Rattle.t1_drawing.specs.Touching.{is_stroke, sidebearing_point, stems_of_glyph}

-- The area so far, but for the line that closes the last subpath.
pub record AreaStandsFor (area : Area) (before : List Segment) : Type 0 where
  pub began : IsClose area.began
  pub end : IsClose area.end
  pub within : IsWithin (length before * most_area) area.twentyfold
  pub sum : (more : List Segment) → area_of (before ++ more) ≡ area.twentyfold +ℤ area_from area.began area.end more

-- There is one as long as all points are close.
abbrev pub SomeAreaStandsFor : Option Area → List Segment → Type 0
SomeAreaStandsFor None before = list_all is_drawn_close before ≡ false
SomeAreaStandsFor (Some area) before = (list_all is_drawn_close before ≡ true) × AreaStandsFor area before

pub record SegmentsStandFor (box : Option FontBox) (watcher : SegmentWatcher) (before : List Segment) : Type 0 where
  pub limits : watcher.limits ≡ option_map limits_of box
  pub outside : watcher.was_outside ≡ list_any (ends_outside box) before
  pub start : watcher.start ≡ start_after before
  pub line_start : watcher.line_start ≡ line_start_before before
  pub start_near : IfSome watcher.start (IsNear most_ways)
  pub line_start_near : IfSome watcher.line_start (IsNear most_ways)
  pub few : length before ≤ most_segments
  pub area : SomeAreaStandsFor watcher.area before

abbrev pub MovesStandFor : MoveWatcher → List StepView → Type 0
MovesStandFor watcher before = watcher.moved ≡ is_only_moved before

-- The stems of both directions, and what is drawn so far.
pub record TouchesStandFor (watcher : TouchWatcher) (before : List StepView) : Type 0 where
  pub across : watcher.across.items ≡ map (watched Across) (stems_of_glyph Across before)
  pub upright : watcher.upright.items ≡ map (watched Upright) (stems_of_glyph Upright before)
  pub sidebearing : point_in watcher.sidebearing ≡ sidebearing_point before
  pub end : watcher.end ≡ end_of_steps before
  pub has_strokes : watcher.has_strokes ≡ list_any is_stroke (strokes_after [] before)
  pub done : IsDone watcher

pub record DrawingStandsFor (box : Option FontBox) (watcher : DrawingWatcher) (before : List StepView) : Type 0 where
  pub nib : NibStandsFor watcher.nib before
  pub segments : SegmentsStandFor box watcher.segments (segments_of before)
  pub moves : MovesStandFor watcher.moves before
  pub touches : TouchesStandFor watcher.touches before

-- The same in the editions that have rules on the drawing.
abbrev pub LatestDrawingStandsFor : Edition → Option FontBox → DrawingWatcher → List StepView → Type 0
LatestDrawingStandsFor edition box watcher before = has_latest_rules edition ≡ true → DrawingStandsFor box watcher before

-- And the other watchers match the steps too.
pub record BothStandFor (edition : Edition) (box : Option FontBox) (draws : Bool) (watches : Watches) (watcher : DrawingWatcher) (before : List StepView) : Type 0 where
  pub where_drawn : draws ≡ has_latest_rules edition
  pub watched : WatchesStandFor edition watches before
  pub drawn : LatestDrawingStandsFor edition box watcher before
