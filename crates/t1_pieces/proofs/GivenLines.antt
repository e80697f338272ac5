-- Lines that are handed over, one after another.
use Rattle.std.proofs.Common.{◌≡◌, ◌∙◌, ◌<◌, ◌≤◌, ◌+◌, ◌-◌, ℕ, zero, suc, true, List, [], ◌∷◌, ◌++◌, length, take, ap, arith, codes, decimal, length-append, refl, subst, sym}
use Rattle.std.proofs.lemmas.Grind.{flat_map-append}
use Rattle.std.proofs.lemmas.List.{append-nil}
use Rattle.std.specs.List.{concat}
use Rattle.serde_json.specs.Written.{compact_text}
use Rattle.t1_forms.specs.Objects.{object_of}
use Rattle.t1_printers.specs.Formatting.{told_fault}
use Rattle.t1_report.specs.Checked.{CheckedFont}
use Rattle.t1_report.specs.Faults.{FaultValue}
use Rattle.t1_report.specs.Laws.Walks.{LeadTo}
use Rattle.t1_report.specs.Lines.{place_text, rule_part}
use Rattle.t1_report.specs.Places.{fault_place}
use Rattle.t1_report.specs.Waivers.{Waiver}
use Rattle.t1_report.specs.Walks.{IsNext, mark_of}
use Rattle.t1_report.specs.declared.marks.Mark.{Mark}
use Rattle.t1_rules.specs.Book.{code_of, text_of}
use Rattle.t1_pieces.specs.Forms.{line_as, lines_as}
use Rattle.t1_pieces.specs.Pieces.{AreGiven, IsPieceOf}
use Rattle.t1_pieces.specs.Reading.{Input}
use Rattle.t1_pieces.specs.declared.form.Form.{Form}
use Rattle.t1_pieces.specs.declared.form.Form.TheVariants.{Object, Text}
use Rattle.t1_pieces.specs.declared.piece.Piece.{Piece}
use Rattle.t1_pieces.specs.declared.piece.Piece.TheVariants.{More, NoRoom}

-- What is so of a walk's font, waivers and mark is so of what they are.
pub at_walk : (P : CheckedFont → List Waiver → Mark → Type 0) (font font' : CheckedFont) (waivers waivers' : List Waiver) (mark mark' : Mark)
    → font ≡ font' → waivers ≡ waivers' → mark ≡ mark' → P font waivers mark → P font' waivers' mark'
at_walk P font font' waivers waivers' mark mark' f w m p =
    subst (P font' waivers') m (subst (λ (v : List Waiver). P font' v mark) w (subst (λ (v : CheckedFont). P v waivers mark) f p))

-- A line is never empty.
pub line_length : (form : Form) (font : CheckedFont) (waivers : List Waiver) (fault : FaultValue) → 0 < length (line_as form font waivers fault)
line_length Text font waivers fault =
    let whole = length-append (concat (decimal fault.number ∷ codes ": " ∷ [])) (place_text font.value waivers fault (fault_place font.value fault) ++ rule_part fault) in
    let rest = length-append (place_text font.value waivers fault (fault_place font.value fault)) (rule_part fault) in
    let some : length (rule_part fault) ≡ suc (length (concat (code_of fault.rule ∷ codes " " ∷ text_of fault.rule ∷ codes "\n" ∷ []))) = refl in
    omega (arith, whole, rest, some)
line_length (Object name) font waivers fault =
    let whole = length-append (compact_text (object_of (told_fault true name.now font waivers fault))) (codes "\n") in
    omega (arith, whole)

pub led_on : (font : CheckedFont) (waivers : List Waiver) (mark reached : Mark) (given : List FaultValue) (fault : FaultValue)
    → LeadTo font waivers mark given reached → IsNext font waivers reached fault → LeadTo font waivers mark (given ++ fault ∷ []) (mark_of fault)
led_on font waivers mark reached [] fault led next = (subst (λ (m : Mark). IsNext font waivers m fault) (sym led) next, refl)
led_on font waivers mark reached (f ∷ given) fault (first, led) next = (first, led_on font waivers (mark_of f) reached given fault led next)

pub none_given : (form : Form) (input : Input) (mark : Mark) (room : List ℕ) → AreGiven form input mark mark room 0
none_given form input mark room = record { given = []; led = refl; within = omega arith; text = refl }

pub one_given : (form : Form) (input : Input) (mark reached : Mark) (room room' line : List ℕ) (used : ℕ) (fault : FaultValue)
    → AreGiven form input mark reached room used → IsNext input.font input.waivers reached fault → line ≡ line_as form input.font input.waivers fault
    → take (used + length line) room' ≡ take used room ++ line → used + length line ≤ length room'
    → AreGiven form input mark (mark_of fault) room' (used + length line)
one_given form input mark reached room room' line used fault before next is put fits = record {
  given = before.given ++ fault ∷ [];
  led = led_on input.font input.waivers mark reached before.given fault before.led next;
  within = fits;
  text = put
      ∙ ap (λ t. t ++ line) before.text
      ∙ ap (λ l. lines_as form input.font input.waivers before.given ++ l) (is ∙ sym (append-nil (line_as form input.font input.waivers fault)))
      ∙ sym (flat_map-append (line_as form input.font input.waivers) before.given (fault ∷ []));
}

-- The next line doesn't fit.
pub is_full : (form : Form) (input : Input) (mark reached : Mark) (room line : List ℕ) (used : ℕ) (fault : FaultValue) (piece : Piece)
    → AreGiven form input mark reached room used → (used ≡ 0 → reached ≡ mark) → IsNext input.font input.waivers reached fault
    → line ≡ line_as form input.font input.waivers fault → length room - used < length line
    → (used ≡ 0 → piece ≡ NoRoom (length line)) → (0 < used → piece ≡ More used) → IsPieceOf form input mark reached room piece
is_full form input mark reached room line zero fault piece before start next is long none some =
    subst (IsPieceOf form input mark reached room) (sym (none refl))
    (start refl, record { next = fault; is_next = next; size_is = ap length is; too_long = omega (arith, long) })
is_full form input mark reached room line (suc used) fault piece before start next is long none some =
    let within = before.within in
    subst (IsPieceOf form input mark reached room) (sym (some (omega arith)))
    (omega arith, before, (length line, record { next = fault; is_next = next; size_is = ap length is; too_long = omega (arith, long, within) }))
