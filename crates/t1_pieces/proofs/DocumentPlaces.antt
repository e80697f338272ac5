-- What stands for a place of a document is one.
use Rattle.std.proofs.Common.{◌≡◌, ◌∙◌, ◌⊎◌, IfOk, ℕ, List, [], Some, Result, Ok, Err, ap, inl, inr, refl, sym}
use Rattle.std.specs.declared.alloc.AllocError.{AllocError}
use Rattle.t1_font.specs.Fonts.{FontValue}
use Rattle.t1_forms.specs.PageValues.{PagesValue}
use Rattle.t1_forms.specs.Sarif.{SarifState, begun, resumed, sarif_state}
use Rattle.t1_forms.specs.SarifDocuments.{after_one}
use Rattle.t1_forms.specs.SarifObjects.{unit_of}
use Rattle.t1_lines.specs.Lines.{line_in, of_fault}
use Rattle.t1_report.proofs.OneReport.{both, same_fault}
use Rattle.t1_report.specs.Checked.{CheckedFont}
use Rattle.t1_report.specs.Faults.{FaultValue}
use Rattle.t1_report.specs.Reports.{IsBefore, path_at, place_of}
use Rattle.t1_report.specs.Waivers.{Waiver}
use Rattle.t1_report.specs.Walks.{HasNoneLater, IsNext, mark_of}
use Rattle.t1_report.specs.declared.marks.Mark.{Mark}
use Rattle.t1_pieces.specs.Documents.{StandsAt, StandsFor, Subject, fault_unit, told_of}
use Rattle.t1_pieces.specs.declared.document_writer.DocumentWriter.{DocumentWriter}
use Rattle.t1_pieces.specs.declared.stage.Reached.{Reached}
use Rattle.t1_pieces.specs.declared.stage.Stage.{Stage}
use Rattle.t1_pieces.specs.declared.stage.Stage.TheVariants.{Beginning, Nothing, Results}

one_place : (x y : FaultValue) → (place_of x ≡ place_of y) ⊎ IsBefore (place_of x) (place_of y)
    → (place_of y ≡ place_of x) ⊎ IsBefore (place_of y) (place_of x) → place_of x ≡ place_of y
one_place x y (inl same) other = same
one_place x y (inr before) (inl same) = sym same
one_place x y (inr before) (inr after) = absurd (both (place_of x) (place_of y) before after)

-- After a mark one fault is the next.
pub one_next : (font : CheckedFont) (waivers : List Waiver) (mark : Mark) (x y : FaultValue) → IsNext font waivers mark x
    → IsNext font waivers mark y → x ≡ y
one_next font waivers mark x y one other =
    same_fault (path_at font) x y (one.number ∙ sym other.number)
    (one_place x y (one.first (place_of y) other.violation.violated other.later)
    (other.first (place_of x) one.violation.violated one.later))
    one.violation.path other.violation.path

-- Before the first result nothing is kept.
pub begun_so : (subject : Subject) (stage : Stage) (at : Mark) (counts : List ℕ) (state : SarifState) (mark : Mark)
    → (stage ≡ Results → ⊥) → StandsAt subject stage at counts state mark → (begun subject.pages ≡ state) × (at ≡ mark)
begun_so subject Nothing at counts state mark none (mark_is, state_is) = (sym state_is, sym mark_is)
begun_so subject Beginning at counts state mark none (mark_is, state_is) = (sym state_is, sym mark_is)
begun_so subject Results at counts state mark none stands = absurd (none refl)

-- After a result that of the last fault is kept.
pub resumed_so : (subject : Subject) (stage : Stage) (at : Mark) (counts : List ℕ) (state : SarifState) (mark : Mark) (fault : FaultValue)
    → stage ≡ Results → IsNext subject.font subject.waivers at fault → StandsAt subject stage at counts state mark
    → (resumed subject.pages (fault_unit subject fault) counts ≡ state) × (mark_of fault ≡ mark)
resumed_so subject Nothing at counts state mark fault is next stands = cc
resumed_so subject Beginning at counts state mark fault is next stands = cc
resumed_so subject Results at counts state mark fault is next (last, (last_next, mark_is, state_is)) =
    let same : fault ≡ last = one_next subject.font subject.waivers at fault last next last_next in
    (ap (λ (f : FaultValue). resumed subject.pages (fault_unit subject f) counts) same ∙ sym state_is, ap mark_of same ∙ sym mark_is)

-- A place after which no fault comes is none that a call left.
pub never_so : (subject : Subject) (stage : Stage) (at : Mark) (counts : List ℕ) (state : SarifState) (mark : Mark)
    → stage ≡ Results → HasNoneLater subject.font subject.waivers at → StandsAt subject stage at counts state mark → ⊥
never_so subject Nothing at counts state mark is none stands = cc
never_so subject Beginning at counts state mark is none stands = cc
never_so subject Results at counts state mark is none (last, (next, mark_is, state_is)) = none (place_of last) next.violation.violated next.later

-- What is kept where each font was checked.
pub record IsPlain (pages : PagesValue) (state : SarifState) : Type 0 where
  pub pages_are : state.pages ≡ pages
  pub failures : state.failures ≡ []
  pub failure_count : state.failure_count ≡ 0

plain_begun : (pages : PagesValue) (state : SarifState) → state ≡ begun pages → IsPlain pages state
plain_begun pages state is = record {
  pages_are = ap (λ (s : SarifState). s.pages) is;
  failures = ap (λ (s : SarifState). s.failures) is;
  failure_count = ap (λ (s : SarifState). s.failure_count) is;
}

plain_resumed : (pages : PagesValue) (state : SarifState) (unit counts : List ℕ) → state ≡ resumed pages unit counts → IsPlain pages state
plain_resumed pages state unit counts is = record {
  pages_are = ap (λ (s : SarifState). s.pages) is;
  failures = ap (λ (s : SarifState). s.failures) is;
  failure_count = ap (λ (s : SarifState). s.failure_count) is;
}

pub plain_at : (subject : Subject) (stage : Stage) (at : Mark) (counts : List ℕ) (state : SarifState) (mark : Mark)
    → StandsAt subject stage at counts state mark → IsPlain subject.pages state
plain_at subject Nothing at counts state mark (mark_is, state_is) = plain_begun subject.pages state state_is
plain_at subject Beginning at counts state mark (mark_is, state_is) = plain_begun subject.pages state state_is
plain_at subject Results at counts state mark (last, (next, mark_is, state_is)) = plain_resumed subject.pages state _ _ state_is

-- After a fault's result its unit and the counts are kept.
pub kept_after : (subject : Subject) (state : SarifState) (fault : FaultValue) → IsPlain subject.pages state
    → after_one state (told_of subject fault)
    ≡ resumed subject.pages (fault_unit subject fault) (after_one state (told_of subject fault)).counts
kept_after subject state fault plain =
    let pages = plain.pages_are in
    let failures = plain.failures in
    let count = plain.failure_count in
    cc

-- What is before the results changes nothing that is kept.
pub begins : (subject : Subject) (stage : Stage) (at : Mark) (counts : List ℕ) (state : SarifState) (mark : Mark)
    → stage ≡ Nothing → StandsAt subject stage at counts state mark → StandsAt subject Beginning at counts state mark
begins subject Nothing at counts state mark is stands = stands
begins subject Beginning at counts state mark is stands = stands
begins subject Results at counts state mark is stands = cc

-- What a writer keeps from the place on.
pub opened_later : (result : Result DocumentWriter AllocError) (subject : Subject) (reached : Reached) (fault : FaultValue) (value : FontValue)
    (mark' : Mark) → reached.stage ≡ Results → IsNext subject.font subject.waivers reached.mark fault → subject.font.value ≡ value
    → mark' ≡ mark_of fault
    → IfOk result (λ writer. sarif_state writer.results.formatter
    ≡ resumed subject.pages (unit_of (Some subject.name) (of_fault (line_in value subject.waivers fault))) reached.counts)
    → IfOk result (λ writer. (state : SarifState) (mark : Mark) → StandsFor subject reached state mark
    → (sarif_state writer.results.formatter ≡ state) × (mark' ≡ mark))
opened_later (Ok writer) subject reached fault value mark' stage next value_is mark_is is = λ state mark stands.
    let both = resumed_so subject reached.stage reached.mark reached.counts state mark fault stage next stands in (
      is ∙ ap (λ (v : FontValue). resumed subject.pages (unit_of (Some subject.name) (of_fault (line_in v subject.waivers fault))) reached.counts)
          (sym value_is) ∙ both.0,
      mark_is ∙ both.1,
    )
opened_later (Err error) subject reached fault value mark' stage next value_is mark_is is = tt

pub opened_never : (result : Result DocumentWriter AllocError) (subject : Subject) (reached : Reached) (mark' : Mark)
    → reached.stage ≡ Results → HasNoneLater subject.font subject.waivers reached.mark
    → IfOk result (λ writer. (state : SarifState) (mark : Mark) → StandsFor subject reached state mark
    → (sarif_state writer.results.formatter ≡ state) × (mark' ≡ mark))
opened_never (Ok writer) subject reached mark' stage none = λ state mark stands.
    absurd (never_so subject reached.stage reached.mark reached.counts state mark stage none stands)
opened_never (Err error) subject reached mark' stage none = tt
