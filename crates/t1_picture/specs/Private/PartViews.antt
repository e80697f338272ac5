-- What a `DrawnPart` says, and how its steps are drawn.
use Rattle.std.specs.Prelude.{◌≡◌, ◌++◌, ℕ, nat_le, nat_lt, if◌then◌else◌, Bool, true, false, List, [], length, String}
use Rattle.std.specs.declared.alloc.Global.{Global}
use Rattle.t1_char.specs.Editions.{limit_of}
use Rattle.t1_char.specs.Steps.{steps_of}
use Rattle.t1_char.specs.Turns.{MachineView}
use Rattle.t1_outline.specs.declared.composition.Composition.{Composition}
use Rattle.t1_outline.specs.Parts.{composition_of}
use Rattle.t1_picture.specs.declared.parts.DrawnPart.{DrawnPart}
use Rattle.t1_picture.specs.declared.parts.Stop.{Stop}
use Rattle.t1_picture.specs.declared.parts.Stop.TheVariants.{Reached, Ended, Limit}
use Rattle.t1_picture.specs.declared.layers.Layers.{Layers}
use Rattle.t1_picture.specs.Drawings.{texts_of}
use Rattle.t1_picture.specs.Layers.{LayersView, layers_view}
use Rattle.t1_picture.specs.Parts.{PartView, drawn_steps, flex_notes, limited_steps, with_steps}
use Rattle.t1_picture.specs.Private.Runs.{seen_steps}

abbrev pub part_view : DrawnPart → PartView
part_view p =
    record {
      font = p.font.now;
      edition = p.edition;
      glyph = p.part.glyph;
      origin = p.part.origin;
      last = p.last;
      thick = p.thick;
      label = p.label.now;
    }

-- A run executes the part's glyph.
pub record IsRunOf (part : PartView) (m : MachineView) : Type 0 where
  pub font : m.font ≡ part.font
  pub glyph : m.glyph ≡ part.glyph
  pub edition : m.edition ≡ part.edition

-- Why no further step is drawn.
abbrev pub stop_of : PartView → Stop
stop_of part =
    if nat_le part.last (length (limited_steps part)) then Reached
    else (if nat_lt (limit_of part.edition) (length (steps_of part.font part.glyph)) then Limit else Ended)

abbrev pub is_limit : Stop → Bool
is_limit Limit = true
is_limit _ = false

abbrev pub is_reached : Stop → Bool
is_reached Reached = true
is_reached _ = false

-- What is drawn so far, and what there is to say of it.
pub record DrawingSoFar : Type 0 where
  pub layers : LayersView
  pub notes : List (List ℕ)

abbrev pub so_far : Layers → List (String Global) → DrawingSoFar
so_far layers notes = record { layers = layers_view layers; notes = texts_of notes }

-- The steps of a part were drawn: what the drawing was and became, what is known of the composition, and where the run is.
pub record DrawsSteps (part : PartView) (old new : DrawingSoFar) (known : Composition) (m : MachineView) (stop : Stop) : Type 0 where
  pub layers : new.layers ≡ with_steps part old.layers [] (drawn_steps part)
  pub notes : new.notes ≡ old.notes ++ flex_notes part.label [] (drawn_steps part)
  pub composition : known ≡ composition_of (drawn_steps part)
  pub run : IsRunOf part m
  pub seen : seen_steps m ≡ drawn_steps part
  pub stopped : stop ≡ stop_of part
  pub counted : stop ≡ Reached → m.counted ≡ part.last
