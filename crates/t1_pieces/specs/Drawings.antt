-- What a call hands over of a picture, or why there is none.
use Rattle.std.specs.Prelude.{◌≡◌, ℕ, List, None, Some, Result, ⊤}
use Rattle.t1_picture.specs.Extents.{IsShown}
use Rattle.t1_picture.specs.Pictures.{IsPictureOf}
use Rattle.t1_picture.specs.Subjects.{ShownValue}
use Rattle.t1_picture.specs.declared.extent.Extent.{Extent}
use Rattle.t1_report.specs.Refusals.{Refusal}
use Rattle.t1_rules.specs.Components.{glyph_named}
use Rattle.t1_pieces.specs.Pieces.{IsHanded, IsTextIn}
use Rattle.t1_pieces.specs.Reading.{Input}
use Rattle.t1_pieces.specs.declared.piece.Missing.TheVariants.{Fault, Glyph}
use Rattle.t1_pieces.specs.declared.piece.Piece.{Piece}
use Rattle.t1_pieces.specs.declared.piece.Piece.TheVariants.{Missing}

-- The picture of a glyph.
pub record IsPictureAt (extent : Extent) (input : Input) (glyph : ℕ) (text : List ℕ) : Type 0 where
  pub shown : ShownValue
  pub is_shown : IsShown extent input.font input.waivers glyph (Some shown)
  pub is_picture :
      IsPictureOf
      (record { font = input.font.value; edition = input.font.edition; waivers = input.waivers; glyph = glyph; shown = shown })
      text

-- The picture of the glyph of a name is handed over; the font has no such glyph; or nothing is shown of it.
pub data IsDrawn (name : List ℕ) (extent : Extent) (input : Input) (room : List ℕ) (piece : Piece) : Type 0 where
  drawn :
      (glyph : ℕ) (text : List ℕ) → glyph_named input.font.value name ≡ Some glyph → IsPictureAt extent input glyph text
      → IsTextIn text room piece → IsDrawn name extent input room piece
  no_glyph : glyph_named input.font.value name ≡ None → piece ≡ Missing Glyph → IsDrawn name extent input room piece
  no_fault :
      (glyph : ℕ) → glyph_named input.font.value name ≡ Some glyph → IsShown extent input.font input.waivers glyph None
      → piece ≡ Missing Fault → IsDrawn name extent input room piece

-- By what the font and the waivers are read as.
abbrev pub IsDrawing : List ℕ → Extent → Result Input Refusal → List ℕ → Piece → Type 0
IsDrawing name extent read room piece = IsHanded (IsDrawn name extent) ⊤ read room piece
