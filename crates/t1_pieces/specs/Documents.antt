-- A document of SARIF that is handed over in pieces: what t1check-all writes of one font.
use Rattle.std.specs.Prelude.{◌≡◌, ◌≤◌, ◌<◌, ◌+◌, ℕ, true, List, [], ◌∷◌, ◌++◌, length, take, Some, Result}
use Rattle.t1_forms.specs.PageValues.{PagesValue, pages_value}
use Rattle.t1_forms.specs.Sarif.{SarifState, begun, closing, opening, resumed, telling_text}
use Rattle.t1_forms.specs.SarifDocuments.{after_one}
use Rattle.t1_forms.specs.SarifObjects.{unit_of}
use Rattle.t1_forms.specs.Tellings.{ToldValue, what_spelled}
use Rattle.t1_lines.specs.Lines.{line_in, of_fault}
use Rattle.t1_report.specs.Refusals.{Refusal}
use Rattle.t1_printers.specs.Formatting.{told_fault}
use Rattle.t1_report.specs.Checked.{CheckedFont}
use Rattle.t1_report.specs.Faults.{FaultValue}
use Rattle.t1_report.specs.Laws.Walks.{LeadTo}
use Rattle.t1_report.specs.Waivers.{Waiver}
use Rattle.t1_report.specs.Walks.{HasNoneLater, IsNext, mark_of}
use Rattle.t1_report.specs.declared.marks.Mark.{Mark}
use Rattle.t1_pieces.specs.Pieces.{IsHanded}
use Rattle.t1_pieces.specs.Reading.{Input}
use Rattle.t1_pieces.specs.declared.documents.DocumentRequest.{DocumentRequest}
use Rattle.t1_pieces.specs.declared.piece.Piece.{Piece}
use Rattle.t1_pieces.specs.declared.piece.Piece.TheVariants.{Last, Memory, More, NoRoom}
use Rattle.t1_pieces.specs.declared.stage.Reached.{Reached}
use Rattle.t1_pieces.specs.declared.stage.Stage.{Stage}
use Rattle.t1_pieces.specs.declared.stage.Stage.TheVariants.{Beginning, Nothing, Results}

-- ---- a font's report as results

-- The font of a name, with waivers, and the pages of its document.
pub record Subject : Type 0 where
  pub name : List ℕ
  pub pages : PagesValue
  pub font : CheckedFont
  pub waivers : List Waiver

abbrev pub subject_for : DocumentRequest → CheckedFont → List Waiver → Subject
subject_for request font waivers = record { name = request.name.now; pages = pages_value request.pages; font = font; waivers = waivers }

abbrev pub subject_of : List ℕ → PagesValue → Input → Subject
subject_of name pages input = record { name = name; pages = pages; font = input.font; waivers = input.waivers }

-- What is reported of a fault: its line, and its reason.
abbrev pub told_of : Subject → FaultValue → ToldValue
told_of subject fault = told_fault true subject.name subject.font subject.waivers fault

-- The text of its result.
abbrev pub result_of : Subject → SarifState → FaultValue → List ℕ
result_of subject state fault = telling_text state (told_of subject fault) (what_spelled (told_of subject fault).what)

abbrev pub state_after : Subject → SarifState → List FaultValue → SarifState
state_after subject state [] = state
state_after subject state (fault ∷ faults) = state_after subject (after_one state (told_of subject fault)) faults

abbrev pub results_of : Subject → SarifState → List FaultValue → List ℕ
results_of subject state [] = []
results_of subject state (fault ∷ faults) =
    result_of subject state fault ++ results_of subject (after_one state (told_of subject fault)) faults

-- The unit of a fault, by which results are counted.
abbrev pub fault_unit : Subject → FaultValue → List ℕ
fault_unit subject fault = unit_of (Some subject.name) (of_fault (line_in subject.font.value subject.waivers fault))

-- ---- how far it was handed over

-- What is handed over before the first result.
abbrev pub front : PagesValue → Stage → List ℕ
front pages Nothing = opening pages
front pages Beginning = []
front pages Results = []

-- Where a document was handed over so far, this is kept from result to result, and this is the mark of the last one. Before the
-- first result nothing is kept.
abbrev pub StandsAt : Subject → Stage → Mark → List ℕ → SarifState → Mark → Type 0
StandsAt subject Nothing at counts state mark = (mark ≡ at) × (state ≡ begun subject.pages)
StandsAt subject Beginning at counts state mark = (mark ≡ at) × (state ≡ begun subject.pages)
StandsAt subject Results at counts state mark =
    (last : FaultValue) × (IsNext subject.font subject.waivers at last × (mark ≡ mark_of last)
    × (state ≡ resumed subject.pages (fault_unit subject last) counts))

abbrev pub StandsFor : Subject → Reached → SarifState → Mark → Type 0
StandsFor subject reached state mark = StandsAt subject reached.stage reached.mark reached.counts state mark

-- What comes next after the beginning: a result, or what is after them all.
pub data IsNextResult (subject : Subject) (state : SarifState) (mark : Mark) (text : List ℕ) : Type 0 where
  result :
      (fault : FaultValue) → IsNext subject.font subject.waivers mark fault → text ≡ result_of subject state fault
      → IsNextResult subject state mark text
  ending : HasNoneLater subject.font subject.waivers mark → text ≡ closing state → IsNextResult subject state mark text

abbrev pub IsNextPart : Subject → Stage → SarifState → Mark → List ℕ → Type 0
IsNextPart subject Nothing state mark text = text ≡ opening subject.pages
IsNextPart subject Beginning state mark text = IsNextResult subject state mark text
IsNextPart subject Results state mark text = IsNextResult subject state mark text

-- ---- what a call hands over

-- Where results start: after these bytes of a room, where this is kept, and after this mark.
pub record Start : Type 0 where
  pub subject : Subject
  pub before : List ℕ
  pub state : SarifState
  pub mark : Mark

-- Of a call that goes on from a place.
abbrev pub start_at : Subject → Reached → SarifState → Mark → Start
start_at subject reached state mark =
    record { subject = subject; before = front subject.pages reached.stage; state = state; mark = mark }

-- The results of the faults between two marks, after what is before them, are the first n bytes of a room.
pub record AreResultsIn (start : Start) (reached' : Reached) (room : List ℕ) (n : ℕ) : Type 0 where
  pub given : List FaultValue
  pub last : Mark
  pub led : LeadTo start.subject.font start.subject.waivers start.mark given last
  pub within : n ≤ length room
  pub text : take n room ≡ start.before ++ results_of start.subject start.state given
  pub stands : StandsFor start.subject reached' (state_after start.subject start.state given) last

-- After them comes what the room doesn't hold any more, of so many bytes.
pub record IsFullAt (subject : Subject) (stage : Stage) (state : SarifState) (mark : Mark) (room : List ℕ) (n size : ℕ) : Type 0 where
  pub text : List ℕ
  pub is_next : IsNextPart subject stage state mark text
  pub size_is : size ≡ length text
  pub too_long : length room < n + size

pub record AreAsManyAsFit (start : Start) (reached' : Reached) (room : List ℕ) (n : ℕ) : Type 0 where
  pub some : 0 < n
  pub begun : ¬ (reached'.stage ≡ Nothing)
  pub results : AreResultsIn start reached' room n
  pub size : ℕ
  pub full : IsFullAt start.subject reached'.stage (state_after start.subject start.state results.given) results.last room n size

-- The last results, and what is after them all.
pub record IsEndIn (start : Start) (room : List ℕ) (n : ℕ) : Type 0 where
  pub given : List FaultValue
  pub last : Mark
  pub led : LeadTo start.subject.font start.subject.waivers start.mark given last
  pub none : HasNoneLater start.subject.font start.subject.waivers last
  pub within : n ≤ length room
  pub text : take n room ≡ start.before ++ (results_of start.subject start.state given ++ closing (state_after start.subject start.state given))

abbrev pub IsPartOf : Start → Reached → Reached → List ℕ → Piece → Type 0
IsPartOf start reached reached' room (Last n) = IsEndIn start room n
IsPartOf start reached reached' room (More n) = AreAsManyAsFit start reached' room n
IsPartOf start reached reached' room (NoRoom n) = (reached' ≡ reached) × IsFullAt start.subject reached.stage start.state start.mark room 0 n
IsPartOf start reached reached' room Memory = reached' ≡ reached
IsPartOf start reached reached' room _ = ⊥

-- From a place that the document was handed over to. Of another one nothing is promised.
abbrev pub IsDocumentPieceOf : Subject → Reached → Reached → List ℕ → Piece → Type 0
IsDocumentPieceOf subject reached reached' room piece =
    (state : SarifState) (mark : Mark) → StandsFor subject reached state mark
    → IsPartOf (start_at subject reached state mark) reached reached' room piece

-- By what the font and the waivers are read as, with a name and these pages.
abbrev pub IsDocumentPiece : List ℕ → PagesValue → Result Input Refusal → Reached → Reached → List ℕ → Piece → Type 0
IsDocumentPiece name pages read reached reached' room piece =
    IsHanded (λ input room piece. IsDocumentPieceOf (subject_of name pages input) reached reached' room piece) (reached' ≡ reached) read room piece
