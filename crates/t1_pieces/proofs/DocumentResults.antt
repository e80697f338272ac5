-- Results that are handed over, one after another.
-- What is in the room is the results since the place where the call began; one more is put where it fits, and else the call ends there.
use Rattle.std.proofs.Common.{◌≡◌, ◌∙◌, ◌<◌, ◌≤◌, ◌+◌, ◌-◌, ℕ, zero, suc, List, [], ◌∷◌, ◌++◌, length, take, ap, arith, append_assoc, append-nil, length-append, refl, subst, sym}
use Rattle.serde_json.specs.Written.{comma_if, compact_text}
use Rattle.t1_forms.specs.Sarif.{SarifState, closing, count_of, resumed}
use Rattle.t1_forms.specs.SarifDocuments.{after_one}
use Rattle.t1_forms.specs.SarifObjects.{fingerprint, result_object, unit_of}
use Rattle.t1_forms.specs.Tellings.{what_spelled}
use Rattle.t1_lines.specs.Lines.{line_in, of_fault}
use Rattle.t1_report.specs.Checked.{CheckedFont}
use Rattle.t1_report.specs.Faults.{FaultValue}
use Rattle.t1_report.specs.Laws.Walks.{LeadTo}
use Rattle.t1_report.specs.Waivers.{Waiver}
use Rattle.t1_report.specs.Walks.{HasNoneLater, IsNext, mark_of}
use Rattle.t1_report.specs.declared.marks.Mark.{Mark}
use Rattle.t1_pieces.proofs.DocumentPlaces.{kept_after, plain_at}
use Rattle.t1_pieces.proofs.GivenLines.{led_on}
use Rattle.t1_pieces.specs.DocumentParts.{IsEndPut, IsRestOf, Lent}
use Rattle.t1_pieces.specs.Documents.{AreAsManyAsFit, IsEndIn, IsFullAt, IsNextPart, IsNextResult, IsPartOf, StandsFor, Start, Subject, fault_unit, front, result_of, results_of, start_at, state_after, subject_for, told_of}
use Rattle.t1_pieces.specs.Documents.IsNextResult.{ending}
use Rattle.t1_pieces.specs.declared.documents.DocumentRequest.{DocumentRequest}
use Rattle.t1_pieces.specs.declared.piece.Piece.{Piece}
use Rattle.t1_pieces.specs.declared.piece.Piece.TheVariants.{Last, Memory, Missing, More, NoRoom, Refused}
use Rattle.t1_pieces.specs.declared.stage.Reached.{Reached}
use Rattle.t1_pieces.specs.declared.stage.Stage.{Stage}
use Rattle.t1_pieces.specs.declared.stage.Stage.TheVariants.{Beginning, Nothing, Results}

-- One fault more at the end.
state_on : (subject : Subject) (state : SarifState) (given : List FaultValue) (fault : FaultValue)
    → state_after subject state (given ++ fault ∷ []) ≡ after_one (state_after subject state given) (told_of subject fault)
state_on subject state [] fault = refl
state_on subject state (f ∷ given) fault = state_on subject (after_one state (told_of subject f)) given fault

results_on : (subject : Subject) (state : SarifState) (given : List FaultValue) (fault : FaultValue)
    → results_of subject state (given ++ fault ∷ []) ≡ results_of subject state given ++ result_of subject (state_after subject state given) fault
results_on subject state [] fault = append-nil (result_of subject state fault)
results_on subject state (f ∷ given) fault =
    ap (λ t. result_of subject state f ++ t) (results_on subject (after_one state (told_of subject f)) given fault)
    ∙ sym (append_assoc (result_of subject state f) _ _)

-- What was handed over so far since a place, where this is kept and this is the mark.
pub record AreSoFar (start : Start) (at at' : Reached) (mark' : Mark) (state' : SarifState) (room : List ℕ) (used : ℕ) : Type 0 where
  pub given : List FaultValue
  pub led : LeadTo start.subject.font start.subject.waivers start.mark given mark'
  pub state_is : state' ≡ state_after start.subject start.state given
  pub within : used ≤ length room
  pub text : take used room ≡ start.before ++ results_of start.subject start.state given
  pub stands : StandsFor start.subject at start.state start.mark → StandsFor start.subject at' state' mark'
  pub begun : ¬ (at'.stage ≡ Nothing)
  pub none : used ≡ 0 → (at' ≡ at) × (given ≡ [])

pub none_so_far : (start : Start) (at : Reached) (room : List ℕ) (used : ℕ) → start.before ≡ take used room → used ≤ length room
    → ¬ (at.stage ≡ Nothing) → AreSoFar start at at start.mark start.state room used
none_so_far start at room used is within begun = record {
  given = [];
  led = refl;
  state_is = refl;
  within = within;
  text = sym is ∙ sym (append-nil start.before);
  stands = λ stands. stands;
  begun = begun;
  none = λ none. (refl, refl);
}

results_differ : Results ≡ Nothing → ⊥
results_differ is = cc

pub one_so_far : (start : Start) (at at' : Reached) (mark' : Mark) (state' next : SarifState) (room room' text : List ℕ) (used : ℕ) (fault : FaultValue)
    → AreSoFar start at at' mark' state' room used → IsNext start.subject.font start.subject.waivers mark' fault
    → text ≡ result_of start.subject state' fault → next ≡ after_one state' (told_of start.subject fault)
    → take (used + length text) room' ≡ take used room ++ text → used + length text ≤ length room' → 0 < length text
    → AreSoFar start at (record { stage = Results; mark = mark'; counts = next.counts }) (mark_of fault) next room' (used + length text)
one_so_far start at at' mark' state' next room room' text used fault so_far is_next text_is next_is put fits some =
    let subject = start.subject in
    record {
      given = so_far.given ++ fault ∷ [];
      led = led_on subject.font subject.waivers start.mark mark' so_far.given fault so_far.led is_next;
      state_is = next_is
          ∙ ap (λ (s : SarifState). after_one s (told_of subject fault)) so_far.state_is
          ∙ sym (state_on subject start.state so_far.given fault);
      within = fits;
      text = put
          ∙ ap (λ t. t ++ text) so_far.text
          ∙ append_assoc start.before (results_of subject start.state so_far.given) text
          ∙ ap (λ t. start.before ++ (results_of subject start.state so_far.given ++ t))
          (text_is ∙ ap (λ (s : SarifState). result_of subject s fault) so_far.state_is)
          ∙ ap (λ t. start.before ++ t) (sym (results_on subject start.state so_far.given fault));
      stands = λ stands.
          let plain = plain_at subject at'.stage at'.mark at'.counts state' mark' (so_far.stands stands) in (
            fault,
            (is_next, refl, next_is ∙ kept_after subject state' fault plain ∙ ap (λ (s : SarifState). resumed subject.pages (fault_unit subject fault) s.counts) (sym next_is)),
          );
      begun = results_differ;
      none = λ none. absurd (omega (arith, none, some));
    }

next_part : (subject : Subject) (stage : Stage) (state : SarifState) (mark : Mark) (text : List ℕ) → ¬ (stage ≡ Nothing)
    → IsNextResult subject state mark text → IsNextPart subject stage state mark text
next_part subject Nothing state mark text begun next = absurd (begun refl)
next_part subject Beginning state mark text begun next = next
next_part subject Results state mark text begun next = next

-- What comes next doesn't fit.
pub full_rest : (start : Start) (at at' reached : Reached) (mark' : Mark) (state' : SarifState) (room text : List ℕ) (used : ℕ) (piece : Piece)
    → AreSoFar start at at' mark' state' room used → (used ≡ 0 → at ≡ reached)
    → IsNextResult start.subject state' mark' text → length room - used < length text
    → (used ≡ 0 → piece ≡ NoRoom (length text)) → (0 < used → piece ≡ More used) → StandsFor start.subject at start.state start.mark
    → IsRestOf start at reached at' room piece
full_rest start at at' reached mark' state' room text zero piece so_far unmoved next long none some stands =
    let subject = start.subject in
    let same = (so_far.none refl).0 in
    let nothing = (so_far.none refl).1 in
    let state_is : state' ≡ start.state = so_far.state_is ∙ ap (λ (fs : List FaultValue). state_after subject start.state fs) nothing in
    let mark_is : start.mark ≡ mark' = subst (λ (fs : List FaultValue). LeadTo subject.font subject.waivers start.mark fs mark') nothing so_far.led in
    let next_is : IsNextResult subject start.state start.mark text =
    subst (λ (s : SarifState). IsNextResult subject s start.mark text) state_is
    (subst (λ (m : Mark). IsNextResult subject state' m text) (sym mark_is) next) in
    subst (IsRestOf start at reached at' room) (sym (none refl)) (
      same ∙ unmoved refl,
      unmoved refl,
      record {
        text = text;
        is_next = next_part subject at.stage start.state start.mark text (subst (λ (r : Reached). ¬ (r.stage ≡ Nothing)) same so_far.begun) next_is;
        size_is = refl;
        too_long = omega (arith, long);
      },
    )
full_rest start at at' reached mark' state' room text (suc used) piece so_far unmoved next long none some stands =
    let subject = start.subject in
    let within = so_far.within in
    subst (IsRestOf start at reached at' room) (sym (some (omega arith)))
    (record {
      some = omega arith;
      begun = so_far.begun;
      results = record {
        given = so_far.given;
        last = mark';
        led = so_far.led;
        within = so_far.within;
        text = so_far.text;
        stands = subst (λ (s : SarifState). StandsFor subject at' s mark') so_far.state_is (so_far.stands stands);
      };
      size = length text;
      full = record {
        text = text;
        is_next = next_part subject at'.stage (state_after subject start.state so_far.given) mark' text so_far.begun
            (subst (λ (s : SarifState). IsNextResult subject s mark' text) so_far.state_is next);
        size_is = refl;
        too_long = omega (arith, long, within);
      };
    })

-- The end of the document.
pub end_rest : (start : Start) (at at' : Reached) (old new : Lent) (mark' : Mark) (state' : SarifState) (used : ℕ) (piece : Piece)
    → AreSoFar start at at' mark' state' old.room used → (used ≡ 0 → at ≡ old.reached)
    → HasNoneLater start.subject.font start.subject.waivers mark' → IsEndPut (closing state') used at' old new piece
    → StandsFor start.subject at start.state start.mark → IsRestOf start at old.reached new.reached new.room piece
end_rest start at at' old new mark' state' used (Last n) so_far unmoved none (n_is, within, put) stands = record {
  given = so_far.given;
  last = mark';
  led = so_far.led;
  none = none;
  within = within;
  text = put
      ∙ ap (λ t. t ++ closing state') so_far.text
      ∙ append_assoc start.before (results_of start.subject start.state so_far.given) (closing state')
      ∙ ap (λ (s : SarifState). start.before ++ (results_of start.subject start.state so_far.given ++ closing s)) so_far.state_is;
}
end_rest start at at' old new mark' state' used (More n) so_far unmoved none (n_is, some, kept, same, long) stands =
    let within = so_far.within in
    subst (λ (r : Reached). IsRestOf start at old.reached r new.room (More n)) (sym kept)
    (subst (λ (r : List ℕ). IsRestOf start at old.reached at' r (More n)) (sym same)
    (full_rest start at at' old.reached mark' state' old.room (closing state') used (More n) so_far unmoved
    (ending none refl) (omega (arith, long, n_is, within)) (λ none. absurd (omega (arith, none, n_is, some))) (λ some. ap More n_is) stands))
end_rest start at at' old new mark' state' used (NoRoom n) so_far unmoved none (size_is, n_is, kept, same, long) stands =
    subst (λ (r : Reached). IsRestOf start at old.reached r new.room (NoRoom n)) (sym kept)
    (subst (λ (r : List ℕ). IsRestOf start at old.reached at' r (NoRoom n)) (sym same)
    (full_rest start at at' old.reached mark' state' old.room (closing state') used (NoRoom n) so_far unmoved
    (ending none refl) (omega (arith, long, n_is)) (λ none. ap NoRoom size_is) (λ some. absurd (omega (arith, some, n_is))) stands))
end_rest start at at' old new mark' state' used (Refused n) so_far unmoved none is stands = absurd is
end_rest start at at' old new mark' state' used (Missing why) so_far unmoved none is stands = absurd is
end_rest start at at' old new mark' state' used Memory so_far unmoved none is stands = is

-- What is handed over after what was put into a room before is what the call hands over.
pub rest_is_part : (subject : Subject) (before : List ℕ) (state : SarifState) (mark : Mark) (at reached reached' : Reached) (room : List ℕ)
    (piece : Piece) → before ≡ front subject.pages reached.stage
    → IsRestOf (record { subject = subject; before = before; state = state; mark = mark }) at reached reached' room piece
    → IsPartOf (start_at subject reached state mark) reached reached' room piece
rest_is_part subject before state mark at reached reached' room (Last n) is rest =
    subst (λ (b : List ℕ). IsEndIn (record { subject = subject; before = b; state = state; mark = mark }) room n) is rest
rest_is_part subject before state mark at reached reached' room (More n) is rest =
    subst (λ (b : List ℕ). AreAsManyAsFit (record { subject = subject; before = b; state = state; mark = mark }) reached' room n) is rest
rest_is_part subject before state mark at reached reached' room (NoRoom n) is (kept, same, full) =
    (kept, subst (λ (r : Reached). IsFullAt subject r.stage state mark room 0 n) same full)
rest_is_part subject before state mark at reached reached' room (Refused n) is rest = absurd rest
rest_is_part subject before state mark at reached reached' room (Missing why) is rest = absurd rest
rest_is_part subject before state mark at reached reached' room Memory is rest = rest

-- A result is never empty.
pub result_length : (subject : Subject) (state : SarifState) (fault : FaultValue) → 0 < length (result_of subject state fault)
result_length subject state fault =
    let told = told_of subject fault in
    let l = of_fault (line_in subject.font.value subject.waivers fault) in
    let text = compact_text (result_object state.pages.list told.font l (what_spelled told.what) told.reason
    (fingerprint (unit_of told.font l) l (count_of state told.font l))) in
    let whole = length-append (comma_if state.has_results) text in
    omega (arith, whole)

pub same_subject : (request request' : DocumentRequest) (font font' : CheckedFont) (waivers : List Waiver) → request ≡ request' → font ≡ font'
    → subject_for request font waivers ≡ subject_for request' font' waivers
same_subject request request' font font' waivers same is =
    ap (λ (r : DocumentRequest). subject_for r font waivers) same ∙ ap (λ (f : CheckedFont). subject_for request' f waivers) is
