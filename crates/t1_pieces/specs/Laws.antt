-- The statements of laws.
use Rattle.std.specs.Prelude.{◌≡◌, ◌≤◌, ℕ, List, [], ◌∷◌, ◌++◌, length, take}
use Rattle.std.specs.List.{All, flat_map}
use Rattle.t1_font.specs.Bounds.{most_glyphs}
use Rattle.t1_report.specs.Faults.{FaultValue}
use Rattle.t1_report.specs.Reports.{IsReport}
use Rattle.t1_report.specs.Waivers.{largest_waivers}
use Rattle.t1_report.specs.Walks.{first_mark}
use Rattle.t1_report.specs.declared.marks.Mark.{Mark}
use Rattle.t1_pieces.specs.Forms.{line_as, lines_as}
use Rattle.t1_pieces.specs.Pieces.{IsPieceOf}
use Rattle.t1_pieces.specs.Reading.{Input}
use Rattle.t1_pieces.specs.declared.form.Form.{Form}
use Rattle.t1_pieces.specs.declared.piece.Piece.{Piece}
use Rattle.t1_pieces.specs.declared.piece.Piece.TheVariants.{Last, More, NoRoom}

-- What a call left of which more was to come: how far it came, and so many bytes of a room.
pub record Call (P : Type 0) : Type 0 where
  pub reached : P
  pub room : List ℕ
  pub count : ℕ

abbrev pub handed_by : {P : Type 0} → Call P → List ℕ
handed_by call = take call.count call.room

-- Calls one after another, each from where the one before it came to, the first from here.
abbrev pub AreCalls : {P : Type 0} → (P → P → List ℕ → Piece → Type 0) → P → List (Call P) → P → Type 0
AreCalls Hands first [] last = first ≡ last
AreCalls Hands first (call ∷ calls) last = Hands first call.reached call.room (More call.count) × AreCalls Hands call.reached calls last

-- What calls hand over from the first mark on, and at the end a call that hands over the last lines, is joined the report.
abbrev pub JoinedAreTheReport : Type 0
JoinedAreTheReport =
    (form : Form) (input : Input) (faults : List FaultValue) (calls : List (Call Mark)) (mark mark' : Mark) (room : List ℕ) (n : ℕ)
    → length input.font.value.glyphs ≤ most_glyphs → length input.waivers ≤ largest_waivers
    → IsReport input.font input.waivers faults → AreCalls (IsPieceOf form input) first_mark calls mark → IsPieceOf form input mark mark' room (Last n)
    → flat_map handed_by calls ++ take n room ≡ lines_as form input.font input.waivers faults

-- A room that holds each line of the report is never too small.
abbrev pub LinesFit : Type 0
LinesFit =
    (form : Form) (input : Input) (faults : List FaultValue) (calls : List (Call Mark)) (mark mark' : Mark) (room : List ℕ) (n : ℕ)
    → length input.font.value.glyphs ≤ most_glyphs → length input.waivers ≤ largest_waivers
    → IsReport input.font input.waivers faults → AreCalls (IsPieceOf form input) first_mark calls mark
    → All (λ fault. length (line_as form input.font input.waivers fault) ≤ length room) faults
    → IsPieceOf form input mark mark' room (NoRoom n) → ⊥

-- Calls of which more is to come are no more than the report has faults.
abbrev pub CallsEnd : Type 0
CallsEnd =
    (form : Form) (input : Input) (faults : List FaultValue) (calls : List (Call Mark)) (mark : Mark)
    → length input.font.value.glyphs ≤ most_glyphs → length input.waivers ≤ largest_waivers
    → IsReport input.font input.waivers faults → AreCalls (IsPieceOf form input) first_mark calls mark → length calls ≤ length faults
