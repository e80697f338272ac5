-- What is handed over after so many bytes of a room.
use Rattle.std.specs.Prelude.{◌≡◌, ◌≤◌, ◌<◌, ◌+◌, ℕ, List, ◌++◌, length, take}
use Rattle.t1_forms.specs.Sarif.{sarif_state}
use Rattle.t1_report.specs.WalkViews.{WalkView}
use Rattle.t1_report.specs.Waivers.{Waiver}
use Rattle.t1_pieces.specs.Documents.{AreAsManyAsFit, IsEndIn, IsFullAt, Start, subject_for}
use Rattle.t1_pieces.specs.declared.document_writer.DocumentWriter.{DocumentWriter}
use Rattle.t1_pieces.specs.declared.piece.Piece.{Piece}
use Rattle.t1_pieces.specs.declared.piece.Piece.TheVariants.{Last, Memory, More, NoRoom}
use Rattle.t1_pieces.specs.declared.stage.Reached.{Reached}

-- Where the next result of a writer and a walk starts, after these bytes.
abbrev pub start_of : DocumentWriter → WalkView → List Waiver → List ℕ → Start
start_of writer walk waivers before =
    record {
      subject = subject_for writer.request.now walk.font waivers;
      before = before;
      state = sarif_state writer.results.formatter;
      mark = walk.mark;
    }

-- Results after a text that is there, which was handed over at a call that began elsewhere.
abbrev pub IsRestOf : Start → Reached → Reached → Reached → List ℕ → Piece → Type 0
IsRestOf start at reached reached' room (Last n) = IsEndIn start room n
IsRestOf start at reached reached' room (More n) = AreAsManyAsFit start reached' room n
IsRestOf start at reached reached' room (NoRoom n) =
    (reached' ≡ reached) × (at ≡ reached) × IsFullAt start.subject at.stage start.state start.mark room 0 n
IsRestOf start at reached reached' room Memory = reached' ≡ reached
IsRestOf start at reached reached' room _ = ⊥

-- What a host lends to a call: how far the document was handed over, and the room.
pub record Lent : Type 0 where
  pub reached : Reached
  pub room : List ℕ

-- What is after all results, after so many bytes of a room, or it doesn't fit.
abbrev pub IsEndPut : List ℕ → ℕ → Reached → Lent → Lent → Piece → Type 0
IsEndPut end used at old new (Last n) =
    (n ≡ used + length end) × (n ≤ length new.room) × (take n new.room ≡ take used old.room ++ end)
IsEndPut end used at old new (More n) =
    (n ≡ used) × (0 < n) × (new.reached ≡ at) × (new.room ≡ old.room) × (length old.room < n + length end)
IsEndPut end used at old new (NoRoom n) =
    (n ≡ length end) × (used ≡ 0) × (new.reached ≡ at) × (new.room ≡ old.room) × (length old.room < length end)
IsEndPut end used at old new Memory = new.reached ≡ old.reached
IsEndPut end used at old new _ = ⊥
