-- What a call of an OtherSubr can be.
use Rattle.std.proofs.Common.{Some, ◌≡◌, ℕ, ◌-◌, ◌≤◌, ◌+◌, ◌*◌, ◌&&◌, ◌||◌, not, Bool, true, false, nat_le, ℤ, pos, [], ◌∷◌, length, refl, ap, ◌∙◌, arith}
use Rattle.std.proofs.lemmas.Bool.{le-leb, leb-true}
use Rattle.std.proofs.lemmas.Bool.Decides.{Decides-int_eq}
use Rattle.t1_char.specs.Arguments.{calls_othersubr, is_callothersubr, is_flex_start, is_flex_point, is_flex_end, is_hint_replacement, is_whole}
use Rattle.t1_char.specs.Numbers.{natural}
use Rattle.t1_char.specs.Stacks.{from_top}
use Rattle.t1_char.specs.Steps.{StepView}
use Rattle.t1_rules.specs.Laws.Othersubrs.{CallsAreOneOfFive, how_many}
use Rattle.t1_rules.specs.StepRules.Othersubrs.{has_good_count, is_counter_control, is_effective, is_flex_or_hints, is_known}

pub and_both : (a b : Bool) → (a && b) ≡ true → (a ≡ true) × (b ≡ true)
and_both true true e = (refl, refl)
and_both true false e = let no : false ≡ true = e in cc
and_both false b e = let no : false ≡ true = e in cc

pub whole_is : (n : ℕ) (z : ℤ) → is_whole n z ≡ true → z ≡ pos (n * 65536)
whole_is n z e = (Decides-int_eq z (pos (n * 65536))).0 e

-- What a call of one of 0 to 3 with its own count has.
pub record IsCalled (number count : ℕ) (t : StepView) : Type 0 where
  pub call : is_callothersubr t.token ≡ true
  pub room : count + 2 ≤ length t.stack
  pub top : from_top t.stack 0 ≡ pos (number * 65536)
  pub below : from_top t.stack 1 ≡ pos (count * 65536)

pub is_called : (number count : ℕ) (t : StepView) → calls_othersubr number count t ≡ true → IsCalled number count t
is_called number count t e =
    let last = and_both _ _ e in
    let third = and_both _ _ last.0 in
    let second = and_both _ _ third.0 in
    record {
      call = second.0;
      room = leb-true (count + 2) (length t.stack) second.1;
      top = whole_is number _ third.1;
      below = whole_is count _ last.1;
    }

-- It has a good count, and its number is one of 0 to 3.
record IsOwn (t : StepView) : Type 0 where
  good : has_good_count t ≡ true
  own : is_flex_or_hints (from_top t.stack 0) ≡ true

own_call : (number count : ℕ) (t : StepView) → calls_othersubr number count t ≡ true → natural (pos (count * 65536)) ≡ Some count
    → is_flex_or_hints (pos (number * 65536)) ≡ true → IsOwn t
own_call number count t e whole is =
    let called = is_called number count t e in
    let room : nat_le count (length t.stack - 2) ≡ true = le-leb count (length t.stack - 2) (omega (arith, called.room)) in
    record { good = rw (called.below, whole) room; own = rw (called.top) is }

own : (t : StepView) → is_effective t ≡ true → IsOwn t
own t e = by_end (is_flex_end t) refl e
  where
    by_point : (b c : Bool) → is_flex_point t ≡ b → is_hint_replacement t ≡ c → (b || c) ≡ true → IsOwn t
    by_point true c is other some = own_call 2 0 t is refl refl
    by_point false c is other some = own_call 3 1 t (other ∙ some) refl refl

    by_start : (b : Bool) → is_flex_start t ≡ b → (b || (is_flex_point t || is_hint_replacement t)) ≡ true → IsOwn t
    by_start true is some = own_call 1 0 t is refl refl
    by_start false is some = by_point (is_flex_point t) (is_hint_replacement t) refl refl some

    by_end : (b : Bool) → is_flex_end t ≡ b → (b || (is_flex_start t || (is_flex_point t || is_hint_replacement t))) ≡ true → IsOwn t
    by_end true is some = own_call 0 3 t is refl refl
    by_end false is some = by_start (is_flex_start t) refl some

-- No number is one of 0 to 3 and one of 12 and 13.
own_is_no_counter : (z : ℤ) → (is_flex_or_hints z && is_counter_control z) ≡ false
own_is_no_counter z = by_zero (is_whole 0 z) refl
  where
    by_three : (b : Bool) → is_whole 3 z ≡ b → is_whole 0 z ≡ false → is_whole 1 z ≡ false → is_whole 2 z ≡ false
        → (is_flex_or_hints z && is_counter_control z) ≡ false
    by_three true is e0 e1 e2 = rw (whole_is 3 z is) refl
    by_three false is e0 e1 e2 = rw (e0, e1, e2, is) refl

    by_two : (b : Bool) → is_whole 2 z ≡ b → is_whole 0 z ≡ false → is_whole 1 z ≡ false → (is_flex_or_hints z && is_counter_control z) ≡ false
    by_two true is e0 e1 = rw (whole_is 2 z is) refl
    by_two false is e0 e1 = by_three (is_whole 3 z) refl e0 e1 is

    by_one : (b : Bool) → is_whole 1 z ≡ b → is_whole 0 z ≡ false → (is_flex_or_hints z && is_counter_control z) ≡ false
    by_one true is e0 = rw (whole_is 1 z is) refl
    by_one false is e0 = by_two (is_whole 2 z) refl e0 is

    by_zero : (b : Bool) → is_whole 0 z ≡ b → (is_flex_or_hints z && is_counter_control z) ≡ false
    by_zero true is = rw (whole_is 0 z is) refl
    by_zero false is = by_one (is_whole 1 z) refl is

one_of : (good own counter effective : Bool) → (effective ≡ true → (good ≡ true) × (own ≡ true)) → (own && counter) ≡ false
    → how_many (effective ∷ (good && counter) ∷ (good && not (own || counter)) ∷ not good ∷ (good && own && not effective) ∷ []) ≡ 1
one_of true true true e is apart = let no : true ≡ false = apart in cc
one_of false true true e is apart = let no : true ≡ false = apart in cc
one_of true true false true is apart = refl
one_of true true false false is apart = refl
one_of true false true true is apart = let no : false ≡ true = (is refl).1 in cc
one_of true false true false is apart = refl
one_of true false false true is apart = let no : false ≡ true = (is refl).1 in cc
one_of true false false false is apart = refl
one_of false true false true is apart = let no : false ≡ true = (is refl).0 in cc
one_of false true false false is apart = refl
one_of false false true true is apart = let no : false ≡ true = (is refl).0 in cc
one_of false false true false is apart = refl
one_of false false false true is apart = let no : false ≡ true = (is refl).0 in cc
one_of false false false false is apart = refl

pub calls_are_one_of_five : CallsAreOneOfFive
calls_are_one_of_five t calls =
    let given : is_effective t ≡ true → (has_good_count t ≡ true) × (is_flex_or_hints (from_top t.stack 0) ≡ true) = λ e. ((own t e).good, (own t e).own) in
    ap
    (λ b.
    how_many (
    is_effective t
    ∷ (b && has_good_count t && is_counter_control (from_top t.stack 0))
    ∷ (b && has_good_count t && not (is_known (from_top t.stack 0)))
    ∷ (b && not (has_good_count t))
    ∷ (b && has_good_count t && is_flex_or_hints (from_top t.stack 0) && not (is_effective t))
    ∷ []))
    calls
    ∙ one_of (has_good_count t) (is_flex_or_hints (from_top t.stack 0)) (is_counter_control (from_top t.stack 0)) (is_effective t) given
    (own_is_no_counter (from_top t.stack 0))
