-- Calls one after another hand over the report.
use Rattle.std.proofs.Common.{◌≡◌, ◌∙◌, ◌<◌, ◌≤◌, ◌+◌, ℕ, List, [], ◌∷◌, ◌++◌, length, slice_get, take, Some, ap, arith, length-append, length-take, refl, subst, sym}
use Rattle.std.proofs.lemmas.Grind.{flat_map-append}
use Rattle.std.proofs.lemmas.List.{take_all}
use Rattle.std.proofs.lemmas.Option.{get_or_from_slice_get, slice_get_within}
use Rattle.std.specs.List.{All, flat_map}
use Rattle.t1_report.specs.Checked.{CheckedFont}
use Rattle.t1_report.specs.Faults.{FaultValue}
use Rattle.t1_report.specs.Laws.Walks.{AllAreGivenAtLast, GivenAreTheFront, LeadTo, MarksGoOnCounting, NoneIsGivenAtFirst}
use Rattle.t1_report.specs.Waivers.{Waiver}
use Rattle.t1_report.specs.Walks.{IsNext, first_mark, mark_of}
use Rattle.t1_report.specs.declared.marks.Mark.{Mark}
use Rattle.t1_pieces.specs.Forms.{line_as, lines_as}
use Rattle.t1_pieces.specs.Laws.{AreCalls, Call, CallsEnd, JoinedAreTheReport, LinesFit, handed_by}
use Rattle.t1_pieces.specs.Pieces.{IsPieceOf}
use Rattle.t1_pieces.specs.Reading.{Input}
use Rattle.t1_pieces.specs.declared.form.Form.{Form}

pub led_more : (font : CheckedFont) (waivers : List Waiver) (mark middle last : Mark) (given more : List FaultValue)
    → LeadTo font waivers mark given middle → LeadTo font waivers middle more last → LeadTo font waivers mark (given ++ more) last
led_more font waivers mark middle last [] more led on = subst (λ (m : Mark). LeadTo font waivers m more last) (sym led) on
led_more font waivers mark middle last (f ∷ given) more (next, led) on =
    (next, led_more font waivers (mark_of f) middle last given more led on)

-- What calls handed over, and between which marks.
record AreHanded (form : Form) (input : Input) (mark : Mark) (calls : List (Call Mark)) (last : Mark) : Type 0 where
  pub given : List FaultValue
  pub led : LeadTo input.font input.waivers mark given last
  pub text : flat_map handed_by calls ≡ lines_as form input.font input.waivers given
  pub few : length calls ≤ length given

-- Bytes are no bytes of no line.
some_given : (form : Form) (input : Input) (room : List ℕ) (n : ℕ) (given : List FaultValue) → 0 < n
    → n ≤ length room → take n room ≡ lines_as form input.font input.waivers given → 1 ≤ length given
some_given form input room n [] some within is =
    let none : length (take n room) ≡ 0 = ap length is in
    absurd (omega (arith, some, within, none, length-take n room))
some_given form input room n (f ∷ given) some within is = omega arith

handed_over : (form : Form) (input : Input) (mark : Mark) (calls : List (Call Mark)) (last : Mark)
    → AreCalls (IsPieceOf form input) mark calls last → AreHanded form input mark calls last
handed_over form input mark [] last is = record { given = []; led = is; text = refl; few = omega arith }
handed_over form input mark (call ∷ calls) last ((some, here, full), rest) =
    let later = handed_over form input call.reached calls last rest in
    let count = length-append here.given later.given in
    let one = some_given form input call.room call.count here.given some here.within here.text in
    let few = later.few in
    record {
      given = here.given ++ later.given;
      led = led_more input.font input.waivers mark call.reached last here.given later.given here.led later.led;
      text = ap (λ t. t ++ flat_map handed_by calls) here.text
          ∙ ap (λ t. lines_as form input.font input.waivers here.given ++ t) later.text
          ∙ sym (flat_map-append (line_as form input.font input.waivers) here.given later.given);
      few = omega (arith, count, one, few);
    }

pub joined : NoneIsGivenAtFirst → GivenAreTheFront → AllAreGivenAtLast → JoinedAreTheReport
joined starts front ends form input faults calls mark mark' room n few few_waivers report are (last, none) =
    let before = handed_over form input first_mark calls mark are in
    let given = before.given ++ last.given in
    let led = led_more input.font input.waivers first_mark mark mark' before.given last.given before.led last.led in
    let whole = front input.font input.waivers faults 0 first_mark given mark' few few_waivers report (starts faults) led in
    let all : 0 + length given ≡ length faults = ends input.font input.waivers faults (0 + length given) mark' report whole.1 none in
    let same : given ≡ faults = whole.0 ∙ take_all (length given) faults (omega (arith, all)) in
    ap (λ t. t ++ take n room) before.text
    ∙ ap (λ t. lines_as form input.font input.waivers before.given ++ t) last.text
    ∙ sym (flat_map-append (line_as form input.font input.waivers) before.given last.given)
    ∙ ap (λ (fs : List FaultValue). lines_as form input.font input.waivers fs) same

-- What holds of all elements holds of one.
one_of : {A : Type 0} (P : A → Type 0) (xs : List A) (k : ℕ) (x : A) → All P xs → slice_get xs k ≡ Some x → P x
one_of P xs k x all is = subst P (get_or_from_slice_get xs k x x is) (all k x (slice_get_within xs k x is))

pub fit : NoneIsGivenAtFirst → GivenAreTheFront → MarksGoOnCounting → LinesFit
fit starts front counts form input faults calls mark mark' room n few few_waivers report are short (kept, full) =
    let before = handed_over form input first_mark calls mark are in
    let whole = front input.font input.waivers faults 0 first_mark before.given mark few few_waivers report (starts faults) before.led in
    let next = subst (λ (m : Mark). IsNext input.font input.waivers m full.next) kept full.is_next in
    let there = (counts input.font input.waivers faults (0 + length before.given) mark full.next few few_waivers report whole.1 next).0 in
    let holds = one_of (λ (fault : FaultValue). length (line_as form input.font input.waivers fault) ≤ length room) faults _ full.next short there in
    let size = full.size_is in
    let long = full.too_long in
    absurd (omega (arith, holds, size, long))

pub calls_end : NoneIsGivenAtFirst → GivenAreTheFront → CallsEnd
calls_end starts front form input faults calls mark few few_waivers report are =
    let before = handed_over form input first_mark calls mark are in
    let whole = front input.font input.waivers faults 0 first_mark before.given mark few few_waivers report (starts faults) before.led in
    let within = whole.1.given in
    let count = before.few in
    omega (arith, within, count)
