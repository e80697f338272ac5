-- The parts of texts have no byte below 32 and no colon.
use Rattle.std.proofs.Common.{◌≡◌, ◌<◌, ◌-◌, ◌*◌, ◌/◌, ◌%◌, ◌==◌, ◌&&◌, ◌++◌, ℕ, zero, suc, ℤ, pos, negsuc, Bool, true, false, nat_lt, List, [], ◌∷◌, refl, ◌∙◌, inl, inr, arith, if◌then◌else◌}
use Rattle.std.specs.Fmt.{decimal, digits, digits_onto, digit_glyph, sign_text, signed_decimal}
use Rattle.std.specs.List.{list_all}
use Rattle.std.proofs.lemmas.Bool.{cases_Bool}
use Rattle.std.proofs.lemmas.List.Folds.{list_all-append}
use Rattle.std.proofs.Math.Nat.{mod-lt}
use Rattle.t1_char.specs.declared.command.Command.{Command}
use Rattle.t1_char.specs.declared.command.Command.TheVariants.{Hstem}
use Rattle.t1_char.specs.Commands.{name_of}
use Rattle.t1_reason_texts.specs.Decimals.{decimal_by, fraction, places}
use Rattle.t1_reason_texts.specs.Laws.{is_plain}
use Rattle.t1_reason_texts.specs.Names.{hexadecimal_digit, is_shown, shown_byte, shown_name, shown_within, width_of}

-- Both parts are plain.
pub append : (xs ys : List ℕ) → list_all is_plain xs ≡ true → list_all is_plain ys ≡ true → list_all is_plain (xs ++ ys) ≡ true
append xs ys one other = list_all-append is_plain xs ys ∙ (rw (one, other) refl)

digit : (d : ℕ) → d < 10 → is_plain (digit_glyph false d) ≡ true
digit d small = grind arith

onto : (k n : ℕ) (acc : List ℕ) → list_all is_plain acc ≡ true → list_all is_plain (digits_onto k 10 false n acc) ≡ true
onto zero n acc rest = rest
onto (suc k) n acc rest =
    let small : n % 10 < 10 = mod-lt n (omega arith) in
    let more : list_all is_plain (digit_glyph false (n % 10) ∷ acc) ≡ true = rw (digit (n % 10) small) rest in
    elim (cases_Bool (n / 10 == 0)) [
      | inl e ↦ rw e more
      | inr e ↦ rw e (onto k (n / 10) (digit_glyph false (n % 10) ∷ acc) more)
    ]

pub plain_decimal : (n : ℕ) → list_all is_plain (decimal n) ≡ true
unfolding digits
plain_decimal n = onto 64 n [] refl

pub plain_signed : (z : ℤ) → list_all is_plain (signed_decimal z) ≡ true
plain_signed (pos n) = plain_decimal n
plain_signed (negsuc n) = plain_decimal (suc n)

plain_sign : (b : Bool) → list_all is_plain (sign_text b) ≡ true
plain_sign true = refl
plain_sign false = refl

plain_places : (one n rest : ℕ) → list_all is_plain (places one n rest) ≡ true
unfolding places
plain_places one zero rest = refl
plain_places one (suc n) rest =
    elim (cases_Bool (rest == 0)) [
      | inl e ↦ rw e refl
      | inr e ↦ rw e (append (decimal (rest * 10 / one)) (places one n (rest * 10 % one)) (plain_decimal (rest * 10 / one)) (plain_places one n (rest * 10 % one)))
    ]

plain_fraction : (one rest : ℕ) → list_all is_plain (fraction one rest) ≡ true
plain_fraction one rest =
    elim (cases_Bool (rest == 0)) [
      | inl e ↦ rw e refl
      | inr e ↦ rw e (plain_places one 34 rest)
    ]

pub plain_by : (one : ℕ) (z : ℤ) → list_all is_plain (decimal_by one z) ≡ true
unfolding decimal_by
plain_by one z = simp (list_all-append is_plain, plain_sign, plain_decimal, plain_fraction)

pub plain_command : (command : Command) → list_all is_plain (name_of command) ≡ true
plain_command Hstem = refl
plain_command _ = refl

hexadecimal : (d : ℕ) → is_plain (hexadecimal_digit d) ≡ true
hexadecimal d = grind arith

shown_plain : (byte : ℕ) → is_shown byte ≡ true → is_plain byte ≡ true
shown_plain byte shown = grind arith

pub plain_byte : (byte : ℕ) → list_all is_plain (shown_byte byte) ≡ true
plain_byte byte =
    elim (cases_Bool (is_shown byte)) [
      | inl e ↦ rw (e, shown_plain byte e) refl
      | inr e ↦ rw (e, hexadecimal (byte / 16), hexadecimal (byte % 16)) refl
    ]

plain_within : (room : ℕ) (name : List ℕ) → list_all is_plain (shown_within room name) ≡ true
unfolding shown_within
plain_within room [] = refl
plain_within room (byte ∷ bytes) =
    elim (cases_Bool (nat_lt room (width_of byte))) [
      | inl e ↦ rw e refl
      | inr e ↦ rw e (append (shown_byte byte) (shown_within (room - width_of byte) bytes) (plain_byte byte) (plain_within (room - width_of byte) bytes))
    ]

pub plain_name : (name : List ℕ) → list_all is_plain (shown_name name) ≡ true
plain_name [] = refl
plain_name (byte ∷ bytes) = plain_within 60 (byte ∷ bytes)

-- One of two texts.
pub plain_either : (b : Bool) (xs ys : List ℕ) → list_all is_plain (if b then xs else ys) ≡ (if b then list_all is_plain xs else list_all is_plain ys)
plain_either true xs ys = refl
plain_either false xs ys = refl

pub either_same : (b : Bool) → (if b then true else true) ≡ true
either_same true = refl
either_same false = refl

pub append_plain : (xs ys : List ℕ) → list_all is_plain (xs ++ ys) ≡ (list_all is_plain xs && list_all is_plain ys)
append_plain xs ys = list_all-append is_plain xs ys

-- Texts that are joined or chosen, and the parts that no rule words.
pub ruleset plain = (append_plain, plain_either, plain_by, plain_decimal, plain_signed, plain_command, plain_name, either_same)
