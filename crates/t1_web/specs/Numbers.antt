-- What the numbers of a host mean.
use Rattle.std.specs.Prelude.{◌≡◌, ℕ, ◌==◌, if◌then◌else◌, List, [], ◌∷◌, Option, None, Some}
use Rattle.std.specs.Str.{IsUtf8}
use Rattle.t1_font.specs.declared.key.Key.{Key}
use Rattle.t1_font.specs.declared.key.Key.TheVariants.{BlueValues, FamilyBlues, FamilyOtherBlues, FontBBox, FontMatrix, MinFeature, OtherBlues, StdHw, StdVw, StemSnapH, StemSnapV, Xuid}
use Rattle.t1_picture.specs.declared.extent.Extent.{Extent}
use Rattle.t1_picture.specs.declared.extent.Extent.TheVariants.{All, Fault, UpTo}
use Rattle.t1_pieces.specs.declared.form.Form.{Form}
use Rattle.t1_pieces.specs.declared.form.Form.TheVariants.{Object, Text}
use Rattle.t1_pieces.specs.declared.piece.Missing.TheVariants as missing
use Rattle.t1_pieces.specs.declared.piece.Piece.{Piece}
use Rattle.t1_pieces.specs.declared.piece.Piece.TheVariants.{Last, Memory, Missing, More, NoRoom, Refused}
use Rattle.t1_report.specs.declared.marks.Mark.{Mark}
use Rattle.t1_rules.specs.Keys.{key_among}
use Rattle.t1_pieces.specs.declared.stage.Reached.{Reached}
use Rattle.t1_pieces.specs.declared.stage.Stage.{Stage}
use Rattle.t1_pieces.specs.declared.stage.Stage.TheVariants.{Beginning, Nothing, Results}
use Rattle.t1_web.specs.declared.HostMark.{HostMark}
use Rattle.t1_web.specs.declared.HostReached.{HostReached}

-- 0 is t1check's line, any other number an object of the font of a name; there is none where the name isn't UTF-8.
abbrev pub IsFormOf : ℕ → List ℕ → Option Form → Type 0
IsFormOf n name None = (¬ (n ≡ 0)) × ¬ (IsUtf8 name)
IsFormOf n name (Some Text) = n ≡ 0
IsFormOf n name (Some (Object font)) = (¬ (n ≡ 0)) × (font.now ≡ name)

abbrev pub mark_of : HostMark → Mark
mark_of mark = record { number = mark.number; unit = mark.unit; step = mark.step; rule = mark.rule }

abbrev pub stage_of : ℕ → Stage
stage_of n = if n == 0 then Nothing else (if n == 1 then Beginning else Results)

abbrev pub stage_number : Stage → ℕ
stage_number Nothing = 0
stage_number Beginning = 1
stage_number Results = 2

abbrev pub reached_of : HostReached → Reached
reached_of reached = record {
  stage = stage_of reached.stage;
  mark = record { number = reached.number; unit = reached.unit; step = reached.step; rule = reached.rule };
  counts = reached.counts;
}

-- The status of what was handed over; web/host.mjs has the same numbers.
abbrev pub status_of : Piece → ℕ
status_of (Last n) = 0
status_of (More n) = 1
status_of (NoRoom n) = 2
status_of (Refused n) = 3
status_of Memory = 4
status_of (Missing missing.Glyph) = 5
status_of (Missing missing.Fault) = 7
status_of (Missing missing.Numbers) = 8

-- How many bytes of the room were handed over; where it is too small, how many are to be.
abbrev pub bytes_of : Piece → ℕ
bytes_of (Last n) = n
bytes_of (More n) = n
bytes_of (NoRoom n) = n
bytes_of (Refused n) = n
bytes_of _ = 0

-- ---- entries

-- The keys of entries that are lists of numbers where a font has no fault.
abbrev pub list_keys : List Key
list_keys =
    MinFeature ∷ BlueValues ∷ OtherBlues ∷ FamilyBlues ∷ FamilyOtherBlues ∷ StdHw ∷ StdVw ∷ StemSnapH ∷ StemSnapV ∷ FontMatrix
    ∷ FontBBox ∷ Xuid ∷ []

-- The one of these that has a number as faults count keys.
abbrev pub list_key : ℕ → Option Key
list_key n = key_among list_keys n

-- ---- pictures and numbers

-- 0 is all steps, 1 the steps up to the one of a number, any other kind the fault of a number.
abbrev pub extent_of : ℕ → ℕ → Extent
extent_of kind n = if kind == 0 then All else (if kind == 1 then UpTo n else Fault n)
