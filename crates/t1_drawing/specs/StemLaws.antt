-- Laws of the stems of a glyph.
use Rattle.std.specs.Prelude.{◌≡◌, ℤ, false, Some, List, [], ◌∷◌, ◌++◌, map}
use Rattle.std.specs.List.{All}
use Rattle.t1_char.specs.Steps.{StepView}
use Rattle.t1_drawing.specs.declared.direction.Direction.{Direction}
use Rattle.t1_drawing.specs.declared.touching.Extent.{Extent}
use Rattle.t1_drawing.specs.Touching.{SetStem, extent, is_near, is_touched, stems_of_glyph}

-- Neither end is near an edge.
pub record LiesOff (e : Extent) (edge : ℤ) : Type 0 where
  pub start : is_near e.start edge ≡ false
  pub end : is_near e.end edge ≡ false

-- H08 is no false alarm: of a stem that isn't touched, no line and no curve that is drawn after it was set begins or ends within ten units of an
-- edge.
abbrev pub UntouchedStemsLieOff : Type 0
UntouchedStemsLieOff =
    (direction : Direction) (stem : SetStem) → is_touched direction stem ≡ false →
    All (λ stroke. (e : Extent) → extent direction stroke ≡ Some e → LiesOff e stem.low × LiesOff e stem.high) stem.later

-- A stem by its edges alone.
pub record EdgePair : Type 0 where
  pub low : ℤ
  pub high : ℤ

abbrev pub edges : SetStem → EdgePair
edges stem = record { low = stem.low; high = stem.high }

pub record IsFront (front all : List EdgePair) : Type 0 where
  pub rest : List EdgePair
  pub whole : all ≡ front ++ rest

-- A stem that was set stays one of the glyph's: no step, so no hint replacement, takes it away.
abbrev pub StemsStay : Type 0
StemsStay =
    (direction : Direction) (before : List StepView) (t : StepView) →
    IsFront (map edges (stems_of_glyph direction before)) (map edges (stems_of_glyph direction (before ++ t ∷ [])))
