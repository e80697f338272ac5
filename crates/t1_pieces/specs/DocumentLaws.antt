-- The statements of laws on documents that are handed over in pieces.
use Rattle.std.specs.Prelude.{◌≡◌, ◌≤◌, ◌+◌, ℕ, List, [], ◌∷◌, ◌++◌, length, map, take}
use Rattle.std.specs.List.{AllByRecursion, flat_map}
use Rattle.t1_font.specs.Bounds.{most_glyphs}
use Rattle.t1_forms.specs.Sarif.{SarifState, begun, closing, opening}
use Rattle.t1_forms.specs.SarifDocuments.{after_one, tellings_text}
use Rattle.t1_report.specs.Faults.{FaultValue}
use Rattle.t1_report.specs.Reports.{IsReport}
use Rattle.t1_report.specs.Waivers.{largest_waivers}
use Rattle.t1_report.specs.Walks.{first_mark}
use Rattle.t1_pieces.specs.Documents.{IsDocumentPieceOf, Subject, result_of, told_of}
use Rattle.t1_pieces.specs.Laws.{AreCalls, Call, handed_by}
use Rattle.t1_pieces.specs.declared.piece.Piece.TheVariants.{Last, NoRoom}
use Rattle.t1_pieces.specs.declared.stage.Reached.{Reached}
use Rattle.t1_pieces.specs.declared.stage.Stage.TheVariants.{Nothing}

-- The whole document, as t1check-all writes it of these faults.
abbrev pub document_of : Subject → List FaultValue → List ℕ
document_of subject faults = opening subject.pages ++ tellings_text (begun subject.pages) (map (told_of subject) faults)

-- Its parts: what is before the results, the results, and what is after them.
abbrev pub parts_from : Subject → SarifState → List FaultValue → List (List ℕ)
parts_from subject state [] = closing state ∷ []
parts_from subject state (fault ∷ faults) = result_of subject state fault ∷ parts_from subject (after_one state (told_of subject fault)) faults

abbrev pub parts_of : Subject → List FaultValue → List (List ℕ)
parts_of subject faults = opening subject.pages ∷ parts_from subject (begun subject.pages) faults

-- Nothing was handed over.
abbrev pub IsFirst : Reached → Type 0
IsFirst reached = (reached.stage ≡ Nothing) × (reached.mark ≡ first_mark)

-- Of a font's report, calls from the first place on.
pub record AreCallsFor (subject : Subject) (faults : List FaultValue) (calls : List (Call Reached)) (last : Reached) : Type 0 where
  pub few : length subject.font.value.glyphs ≤ most_glyphs
  pub few_waivers : length subject.waivers ≤ largest_waivers
  pub report : IsReport subject.font subject.waivers faults
  pub first : Reached
  pub is_first : IsFirst first
  pub are : AreCalls (IsDocumentPieceOf subject) first calls last

-- What calls hand over, and at the end a call that hands over the last part, is joined the document.
abbrev pub JoinedAreTheDocument : Type 0
JoinedAreTheDocument =
    (subject : Subject) (faults : List FaultValue) (calls : List (Call Reached)) (last after : Reached) (room : List ℕ) (n : ℕ)
    → AreCallsFor subject faults calls last → IsDocumentPieceOf subject last after room (Last n)
    → flat_map handed_by calls ++ take n room ≡ document_of subject faults

-- A room that holds each part is never too small.
abbrev pub PartsFit : Type 0
PartsFit =
    (subject : Subject) (faults : List FaultValue) (calls : List (Call Reached)) (last after : Reached) (room : List ℕ) (n : ℕ)
    → AreCallsFor subject faults calls last → AllByRecursion (λ part. length part ≤ length room) (parts_of subject faults)
    → IsDocumentPieceOf subject last after room (NoRoom n) → ⊥

-- Calls of which more is to come are at most one more than the report has faults.
abbrev pub DocumentCallsEnd : Type 0
DocumentCallsEnd =
    (subject : Subject) (faults : List FaultValue) (calls : List (Call Reached)) (last : Reached)
    → AreCallsFor subject faults calls last → length calls ≤ length faults + 1
