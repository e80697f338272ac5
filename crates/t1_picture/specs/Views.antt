-- What can be drawn.
use Rattle.std.specs.Prelude.{◌<◌, IfSome, length}
use Rattle.t1_picture.specs.declared.view.View.{View}
use Rattle.t1_picture.specs.Extents.{CanBeShown}
use Rattle.t1_picture.specs.Subjects.{fault_in, shown_value}
use Rattle.t1_rules.specs.Components.{AreOf}

-- The glyph is one of the font's, the sidebearings are those of the font, and a fault that is shown alone can be.
pub record CanBeDrawn (view : View) : Type 0 where
  pub glyph : view.glyph < length view.font.now.glyphs
  pub sidebearings : AreOf view.font.now view.sidebearings.now
  pub fault : IfSome (fault_in (shown_value view.shown)) (CanBeShown view.font.now view.waivers.now view.glyph)
