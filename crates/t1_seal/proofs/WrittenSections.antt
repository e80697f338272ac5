-- Cipher bytes that were written after the word `eexec` open.
use Rattle.std.proofs.Common.{◌≡◌, ℕ, ◌/◌, ◌%◌, ◌≤◌, ◌++◌, Bool, true, false, ◌||◌, List, [], ◌∷◌, length, take, drop, Some, refl, ap, sym, ◌∙◌, one-add, append_assoc, subst, ◌==◌, arith}
use Rattle.std.proofs.lemmas.List.{take-append-drop}
use Rattle.std.proofs.lemmas.Bool.{eqb-true}
use Rattle.std.specs.List.{AllPass, prefix_len}
use Rattle.std.proofs.lemmas.List.Elements.{All-nil, All-cons, All-head, All-tail}
use Rattle.hex.specs.Hex.{hex_digit_value}
use Rattle.t1_seal.specs.Eexec.{is_leading, is_blank, is_digit, digit_value, section_of, is_hexadecimal, digits_of, bytes_of_digits, opened, private_text_of}
use Rattle.t1_seal.specs.Laws.Eexec.{AreWritten, no_digits, odd_digit, two_digits, AreSpaced, nothing_left, digit, blank, EndsDigits, BeginsSection, Opens, OpensHexadecimal, OpensBinary}
use Rattle.t1_seal.proofs.Digits.{digits-cons, digits-blank, digits-other}
use Rattle.t1_seal.proofs.Openings.{opened-short, opened-long}
use Rattle.t1_seal.proofs.Sections.{hexadecimal_text, binary_text}

-- Leading bytes are skipped.
section_after : (leading section : List ℕ) → AllPass is_leading leading → section_of section ≡ section → section_of (leading ++ section) ≡ section
section_after [] section leads is = is
section_after (c ∷ leading) section leads is =
    let first : is_leading c ≡ true = All-head (λ x. is_leading x ≡ true) c leading leads in
    rw (first, one-add (prefix_len is_leading (leading ++ section)))
    (section_after leading section (All-tail (λ x. is_leading x ≡ true) c leading leads) is)

begins : (section : List ℕ) → BeginsSection section → section_of section ≡ section
begins [] h = refl
begins (c ∷ section) h = rw h refl

-- The bytes open as their cipher bytes do.
opens : (bytes cipher : List ℕ) → opened cipher ≡ private_text_of bytes → Opens bytes cipher
opens bytes cipher is = record {
  short = λ h. sym is ∙ opened-short cipher h;
  long = λ h. sym is ∙ opened-long cipher h;
}

pub opens_binary : OpensBinary
opens_binary bytes cipher b =
    let is : cipher ≡ section_of bytes = sym (ap section_of b.is ∙ section_after b.leading cipher b.leads (begins cipher b.begins)) in
    opens bytes cipher (binary_text bytes cipher is b.no_digits_first)

-- The digits that write bytes are digits, and write them.
digit_of_value : (c v : ℕ) → hex_digit_value c ≡ Some v → is_digit c ≡ true
unfolding is_digit
digit_of_value c v e = rw e refl

value_of_value : (c v : ℕ) → hex_digit_value c ≡ Some v → digit_value c ≡ v
unfolding digit_value
value_of_value c v e = rw e refl

written_bytes : (cipher digits : List ℕ) → AreWritten cipher digits → bytes_of_digits digits ≡ cipher
written_bytes _ _ no_digits = refl
written_bytes _ _ (odd_digit c h) = refl
written_bytes _ _ (two_digits byte high low bytes digits h l rest) =
    rw (value_of_value high (byte / 16) h, value_of_value low (byte % 16) l, written_bytes bytes digits rest)
    (ap (λ n. n ∷ bytes) (omega arith))

written_digits : (cipher digits : List ℕ) → AreWritten cipher digits → AllPass is_digit digits
written_digits _ _ no_digits = All-nil (λ c. is_digit c ≡ true)
written_digits _ _ (odd_digit c h) = All-cons (λ c. is_digit c ≡ true) c [] h (All-nil (λ c. is_digit c ≡ true))
written_digits _ _ (two_digits byte high low bytes digits h l rest) =
    let P : ℕ → Type 0 = λ c. is_digit c ≡ true in
    All-cons P high (low ∷ digits) (digit_of_value high (byte / 16) h)
    (All-cons P low digits (digit_of_value low (byte % 16) l) (written_digits bytes digits rest))

-- Blanks and the bytes before a section are no digits.
either_holds : (a b : Bool) (P : Type 0) → (a ≡ true → P) → (b ≡ true → P) → (a || b) ≡ true → P
either_holds true b P first second h = first refl
either_holds false b P first second h = second h

blank_no_digit : (c : ℕ) → is_blank c ≡ true → is_digit c ≡ false
unfolding is_blank is_digit
blank_no_digit c =
    let P : ℕ → Type 0 = λ n. is_digit n ≡ false in
    let at : (n : ℕ) → P n → (c == n) ≡ true → P c = λ n here e. subst P (sym (eqb-true c n e)) here in
    either_holds _ (c == 32) (P c) (either_holds _ (c == 13) (P c) (either_holds _ (c == 12) (P c) (either_holds _ (c == 10) (P c)
    (either_holds (c == 0) (c == 9) (P c) (at 0 refl) (at 9 refl)) (at 10 refl)) (at 12 refl)) (at 13 refl)) (at 32 refl)

leading_no_digit : (c : ℕ) → is_leading c ≡ true → is_digit c ≡ false
unfolding is_leading is_digit
leading_no_digit c =
    let P : ℕ → Type 0 = λ n. is_digit n ≡ false in
    let at : (n : ℕ) → P n → (c == n) ≡ true → P c = λ n here e. subst P (sym (eqb-true c n e)) here in
    either_holds _ (c == 10) (P c) (either_holds _ (c == 13) (P c)
    (either_holds (c == 32) (c == 9) (P c) (at 32 refl) (at 9 refl)) (at 13 refl)) (at 10 refl)

digit_not_leading : (c : ℕ) → is_digit c ≡ true → is_leading c ≡ false
digit_not_leading c h =
    let by_case : (b : Bool) → is_leading c ≡ b → is_leading c ≡ false = λ b. elim b as (λ t. is_leading c ≡ t → is_leading c ≡ false) [
      | true ↦ λ leads. absurd (let no = leading_no_digit c leads in cc (no, h))
      | false ↦ λ e. e
    ] in
    by_case (is_leading c) refl

-- Spaced digits are read as the digits, up to what ends them.
ended : (tail : List ℕ) → EndsDigits tail → digits_of tail ≡ []
ended [] ends = refl
ended (c ∷ tail) ends = digits-other c tail ends.0 ends.1

spaced_digits : (digits text tail : List ℕ) → AllPass is_digit digits → AreSpaced digits text → EndsDigits tail → digits_of (text ++ tail) ≡ digits
spaced_digits _ _ tail pass nothing_left ends = ended tail ends
spaced_digits _ _ tail pass (digit c digits text h) ends =
    let P : ℕ → Type 0 = λ x. is_digit x ≡ true in
    digits-cons c (text ++ tail) (All-head P c digits pass) ∙ ap (λ ds. c ∷ ds) (spaced_digits digits text tail (All-tail P c digits pass) h ends)
spaced_digits _ _ tail pass (blank c digits text is h) ends =
    digits-blank c (text ++ tail) (blank_no_digit c is) is ∙ spaced_digits digits text tail pass h ends

digits_in_front : (front digits text : List ℕ) → AreSpaced digits text → AreSpaced (front ++ digits) (front ++ text)
digits_in_front [] digits text h = h
digits_in_front (c ∷ front) digits text h = digit c (front ++ digits) (front ++ text) (digits_in_front front digits text h)

-- Four leading digits make a section hexadecimal.
four_digits : (digits rest : List ℕ) → 4 ≤ length digits → AllPass is_digit digits → (is_hexadecimal (take 4 digits ++ rest) ≡ true)
    × BeginsSection (take 4 digits ++ rest)
four_digits [] rest h pass = absurd (omega arith)
four_digits (a ∷ []) rest h pass = absurd (omega arith)
four_digits (a ∷ b ∷ []) rest h pass = absurd (omega arith)
four_digits (a ∷ b ∷ c ∷ []) rest h pass = absurd (omega arith)
four_digits (a ∷ b ∷ c ∷ d ∷ digits) rest h pass =
    let P : ℕ → Type 0 = λ x. is_digit x ≡ true in
    let after_a : AllPass is_digit (b ∷ c ∷ d ∷ digits) = All-tail P a (b ∷ c ∷ d ∷ digits) pass in
    let after_b : AllPass is_digit (c ∷ d ∷ digits) = All-tail P b (c ∷ d ∷ digits) after_a in
    let after_c : AllPass is_digit (d ∷ digits) = All-tail P c (d ∷ digits) after_b in
    let first : is_digit a ≡ true = All-head P a (b ∷ c ∷ d ∷ digits) pass in (
      rw (first, All-head P b (c ∷ d ∷ digits) after_a, All-head P c (d ∷ digits) after_b, All-head P d digits after_c) refl,
      digit_not_leading a first,
    )

-- What is written in hexadecimal opens.
pub opens_hexadecimal : OpensHexadecimal
opens_hexadecimal bytes cipher h =
    let section : List ℕ = take 4 h.digits ++ (h.spaced ++ h.tail) in
    let pass : AllPass is_digit h.digits = written_digits cipher h.digits h.written in
    let front = four_digits h.digits (h.spaced ++ h.tail) h.four pass in
    let is : section ≡ section_of bytes = sym (ap section_of h.is ∙ section_after h.leading section h.leads (begins section front.1)) in
    let spaced : AreSpaced h.digits (take 4 h.digits ++ h.spaced) =
    rw take-append-drop at (digits_in_front (take 4 h.digits) (drop 4 h.digits) h.spaced h.blanks) in
    let read : digits_of section ≡ h.digits =
    ap digits_of (sym (append_assoc (take 4 h.digits) h.spaced h.tail)) ∙ spaced_digits h.digits (take 4 h.digits ++ h.spaced) h.tail pass spaced h.ends in
    let written : cipher ≡ bytes_of_digits (digits_of section) =
    sym (ap bytes_of_digits read ∙ written_bytes cipher h.digits h.written) in
    opens bytes cipher (ap opened written ∙ hexadecimal_text bytes section is front.0)
