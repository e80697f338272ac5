-- A font that was read has few enough glyphs, and a text of waivers few enough waivers.
use Rattle.std.proofs.Common.{◌≡◌, ◌≤◌, ◌==◌, ◌+◌, ℕ, Bool, true, false, cond, nat_lt, List, [], ◌∷◌, ◌++◌, Option, None, Some, option_map, Result, Ok, Err, IfOk, inl, inr, length, refl, subst, arith, length-append}
use Rattle.std.proofs.lemmas.Bool.{cases_Bool}
use Rattle.std.proofs.lemmas.Bool.Decides.{nat_tests}
use Rattle.std.specs.Prelude.{option_and_then}
use Rattle.t1_char.specs.declared.edition.Edition.{Edition}
use Rattle.t1_font.specs.ClearText.{clear_of}
use Rattle.t1_font.specs.FontFiles.{before_rest, clear_next, font_in, marks_in, private_next, read_with, section_next}
use Rattle.t1_font.specs.Fonts.{FontValue, Marks}
use Rattle.t1_font.specs.Laws.Limits.{FontsWithinLimits}
use Rattle.t1_font.specs.TextTurns.{TextRead}
use Rattle.t1_font.specs.Texts.{font_read}
use Rattle.t1_font.specs.declared.unread.Unread.{Unread}
use Rattle.t1_report.specs.Refusals.Refusal.{FontTooLarge}
use Rattle.t1_report.specs.Waivers.{Waiver, is_waived, line_read, lines_from, lines_read, text_read, waiver_of, waivers_of, with_waiver, without_return}
use Rattle.t1_rules.specs.Book.{number_of}
use Rattle.t1_seal.specs.Eexec.{private_text_of}
use Rattle.t1_seal.specs.Segments.{JoinedText, joined_of}
use Rattle.t1_seal.specs.declared.errors.SealError.{SealError}
use Rattle.t1_run.specs.FontFiles.{font_of, with_reason}
use Rattle.t1_run.specs.WaiverFiles.{as_waivers, waivers_in}

-- ---- a font

abbrev pub HasFew : FontValue → Type 0
HasFew font = length font.glyphs ≤ 65535

of_read : (before private : List ℕ) (read : Result FontValue Unread) → ((font : FontValue) → read ≡ Ok font → HasFew font)
    → IfOk (read_with before private read) HasFew
of_read before private (Ok font) few = few font refl
of_read before private (Err e) few = tt

of_section : FontsWithinLimits → (marks : Marks) (text : List ℕ) (clear : TextRead) → clear_of marks text ≡ Ok clear
    → (section : Result (List ℕ) SealError) → IfOk (private_next marks (before_rest text clear.rest) clear.stated section) HasFew
of_section limits marks text clear is (Ok private) =
    of_read (before_rest text clear.rest) private (font_read marks clear.stated private)
    (λ font read. (limits marks text private clear font is read).glyphs)
of_section limits marks text clear is (Err e) = tt

of_clear : FontsWithinLimits → (marks : Marks) (text : List ℕ) (clear : Result TextRead Unread) → clear_of marks text ≡ clear
    → IfOk (section_next marks text clear) HasFew
of_clear limits marks text (Ok clear) is = of_section limits marks text clear is (private_text_of clear.rest)
of_clear limits marks text (Err e) is = tt

of_joined : FontsWithinLimits → (joined : Result JoinedText SealError) → IfOk (clear_next joined) HasFew
of_joined limits (Ok joined) = of_clear limits (marks_in joined) joined.bytes (clear_of (marks_in joined) joined.bytes) refl
of_joined limits (Err e) = tt

of_bytes : FontsWithinLimits → (bytes : List ℕ) → IfOk (font_in bytes) HasFew
unfolding font_in
of_bytes limits bytes = of_joined limits (joined_of bytes)

sized : (test : Bool) (read : Result FontValue Unread) → IfOk read HasFew → IfOk (cond test (Err FontTooLarge) (with_reason read)) HasFew
sized true read few = tt
sized false (Ok font) few = few
sized false (Err e) few = tt

pub of_file : FontsWithinLimits → (file : List ℕ) → IfOk (font_of file) HasFew
unfolding font_of
of_file limits file = sized (nat_lt 16777216 (length file)) (font_in file) (of_bytes limits file)

-- ---- a text has no more waivers than bytes

with_few : (waivers : List Waiver) (w : Waiver) → length (with_waiver waivers w) ≤ length waivers + 1
with_few waivers w = elim (cases_Bool (is_waived waivers w.0 (number_of w.1))) [
  | inl is ↦ rw is (omega arith)
  | inr not ↦ rw not (omega (arith, length-append waivers (w ∷ [])))
]

map_few : (waivers : List Waiver) (w : Option Waiver) (more : List Waiver) → option_map (with_waiver waivers) w ≡ Some more
    → length more ≤ length waivers + 1
map_few waivers None more is = cc
map_few waivers (Some w) more is =
    let same : with_waiver waivers w ≡ more = cc in
    subst (λ (ws : List Waiver). length ws ≤ length waivers + 1) same (with_few waivers w)

text_few : (edition : Edition) (waivers : List Waiver) (text : List ℕ) (more : List Waiver) → text_read edition waivers text ≡ Some more → length more ≤ length waivers + 1
text_few edition waivers [] more is =
    let same : waivers ≡ more = cc in
    subst (λ (ws : List Waiver). length ws ≤ length waivers + 1) same (omega arith)
text_few edition waivers (b ∷ text) more is = map_few waivers (waiver_of edition (b ∷ text)) more is

line_few : (edition : Edition) (waivers : List Waiver) (line : List ℕ) (more : List Waiver) → line_read edition waivers line ≡ Some more
    → length more ≤ length waivers + length line
line_few edition waivers [] more is =
    let same : waivers ≡ more = cc in
    subst (λ (ws : List Waiver). length ws ≤ length waivers + 0) same (omega arith)
line_few edition waivers (b ∷ line) more is =
    let one = text_few edition waivers (without_return (b ∷ line)) more is in
    omega (arith, one)

then_some : {A B : Type 0} (o : Option A) (f : A → Option B) (y : B) → option_and_then f o ≡ Some y → (x : A) × ((o ≡ Some x) × (f x ≡ Some y))
then_some None f y is = cc
then_some (Some x) f y is = (x, (refl, is))

lines_few : (edition : Edition) (text front : List ℕ) (waivers more : List Waiver) → lines_read edition waivers (lines_from front text) ≡ Some more
    → length more ≤ length waivers + (length front + length text)
unfolding lines_from lines_read
lines_few edition [] front waivers more is =
    let step = then_some (line_read edition waivers front) (λ ws. lines_read edition ws []) more is in
    let same : step.0 ≡ more = (let last : Some step.0 ≡ Some more = step.1.1 in cc) in
    let few = line_few edition waivers front more (subst (λ (ws : List Waiver). line_read edition waivers front ≡ Some ws) same step.1.0) in
    omega (arith, few)
lines_few edition (b ∷ text) front waivers more is = elim (cases_Bool (b == 10)) [
  | inl ten ↦ (
      let step = then_some (line_read edition waivers front) (λ ws. lines_read edition ws (lines_from [] text)) more (rw ten at is) in
      let first = line_few edition waivers front step.0 step.1.0 in
      let rest = lines_few edition text [] step.0 more step.1.1 in
      omega (arith, first, rest))
  | inr other ↦ (
      let rest = lines_few edition text (front ++ b ∷ []) waivers more (rw other at is) in
      omega (arith, rest, length-append front (b ∷ [])))
]

abbrev pub AreFew : List Waiver → Type 0
AreFew waivers = length waivers ≤ 1048576

as_few : (bytes : ℕ) (waivers : Option (List Waiver)) → ((ws : List Waiver) → waivers ≡ Some ws → length ws ≤ bytes) → bytes ≤ 1048576
    → IfOk (as_waivers waivers) AreFew
as_few bytes None few small = tt
as_few bytes (Some ws) few small = omega (arith, few ws refl, small)

pub of_text : (edition : Edition) (text : List ℕ) → IfOk (waivers_in edition text) AreFew
unfolding waivers_in
of_text edition text = elim (cases_Bool (nat_lt 1048576 (length text))) [
  | inl large ↦ rw large tt
  | inr small ↦ (
      let bytes : length text ≤ 1048576 = grind (arith, nat_tests, small) in
      let few = as_few (length text) (waivers_of edition text) (λ ws is. (let most = lines_few edition text [] [] ws is in omega (arith, most))) bytes in
      rw small few)
]
