-- What is written as waivers is read as them.
use Rattle.std.proofs.Common.{◌≡◌, ◌-◌, ◌==◌, ◌&&◌, ℕ, zero, suc, Bool, true, false, true≢false, not, List, [], ◌∷◌, ◌++◌, drop, length, Some, option_map, inl, inr, refl, sym, ap, subst, ◌∙◌, arith, append_assoc, append-nil}
use Rattle.std.proofs.lemmas.Bool.{and_parts, cases_Bool}
use Rattle.std.proofs.lemmas.Bool.Decides.{nat_tests}
use Rattle.std.specs.Cmp.Lexicographic.{same_text}
use Rattle.std.specs.List.{AllByRecursion, list_all}
use Rattle.std.specs.Prelude.{option_and_then}
use Rattle.t1_char.specs.declared.edition.Edition.{Edition}
use Rattle.t1_scan.specs.Bytes.{is_regular}
use Rattle.t1_font.specs.Keys.{same_name}
use Rattle.t1_rules.specs.Book.{code_of, number_of}
use Rattle.t1_rules.specs.declared.rule.Rule.{Rule}
use Rattle.t1_rules.specs.declared.rule.Rule.TheVariants.{F01}
use Rattle.t1_report.specs.Laws.WaiverLines.{CanBeWritten, waiver_line}
use Rattle.t1_report.specs.Waivers.{Waiver, is_waived, line_read, lines_from, lines_read, text_read, waiver_of, with_waiver, without_return}
use Rattle.t1_report.proofs.WrittenWaivers.{lines_are_waivers}
use Rattle.t1_lines.specs.Lines.{FaultLineValue, IsFaultLine, IsPlace, PlaceValue, at_key, at_step, at_waiver}
use Rattle.t1_many.specs.Laws.{CanBeWaived, WrittenWaiversAreRead}
use Rattle.t1_many.specs.WrittenWaivers.{waivers_behind, waivers_of_lines, waivers_text, with_place}

-- ---- a line

-- no byte ends a line
abbrev is_inner : ℕ → Bool
is_inner byte = not (byte == 10) && not (byte == 13)

code_is_inner : (rule : Rule) → list_all is_inner (code_of rule) ≡ true
code_is_inner F01 = refl
code_is_inner _ = refl

regular_is_inner : (byte : ℕ) → is_regular byte ≡ true → is_inner byte ≡ true
regular_is_inner byte regular = grind (arith, nat_tests, regular)

name_is_inner : (name rest : List ℕ) → list_all is_regular name ≡ true → list_all is_inner rest ≡ true → list_all is_inner (name ++ rest) ≡ true
name_is_inner [] rest all more = more
name_is_inner (b ∷ bytes) rest all more =
    let parts = and_parts _ _ all in
    rw (regular_is_inner b parts.0) (name_is_inner bytes rest parts.1 more)

line_is_inner : (edition : Edition) (w : Waiver) → CanBeWritten edition w → list_all is_inner (waiver_line w) ≡ true
line_is_inner edition w can = name_is_inner w.0 (32 ∷ code_of w.1) can.name (code_is_inner w.1)

-- it is cut off at its end
cut_off : (front line rest : List ℕ) → list_all is_inner line ≡ true → lines_from front (line ++ (10 ∷ rest)) ≡ (front ++ line) ∷ lines_from [] rest
unfolding lines_from
cut_off front [] rest inner = ap (λ l. l ∷ lines_from [] rest) (sym (append-nil front))
cut_off front (b ∷ line) rest inner =
    let parts = and_parts (is_inner b) (list_all is_inner line) inner in
    let other : (b == 10) ≡ false = grind (arith, nat_tests, parts.0) in
    rw other (cut_off (front ++ b ∷ []) line rest parts.1 ∙ ap (λ l. l ∷ lines_from [] rest) (append_assoc front (b ∷ []) line))

-- nothing is cut off for a byte 13
no_return : (bytes : List ℕ) → list_all is_inner bytes ≡ true → same_name bytes (13 ∷ []) ≡ false
no_return [] inner = refl
no_return (b ∷ bytes) inner = elim (cases_Bool (same_name (b ∷ bytes) (13 ∷ []))) [
  | inl same ↦
      let whole : b ∷ bytes ≡ 13 ∷ [] = same_text (b ∷ bytes) (13 ∷ []) (sym same) in
      let is : b ≡ 13 = cc in
      absurd (true≢false (sym (subst (λ c. is_inner c ≡ true) is (and_parts _ _ inner).0)))
  | inr other ↦ other
]

inner_behind : (n : ℕ) (bytes : List ℕ) → list_all is_inner bytes ≡ true → list_all is_inner (drop n bytes) ≡ true
inner_behind zero bytes inner = inner
inner_behind (suc n) [] inner = refl
inner_behind (suc n) (b ∷ bytes) inner = inner_behind n bytes (and_parts _ _ inner).1

stays : (line : List ℕ) → list_all is_inner line ≡ true → without_return line ≡ line
stays line inner = rw (no_return (drop (length line - 1) line) (inner_behind (length line - 1) line inner)) refl

-- a line that isn't empty is read as its waiver
read_at : (edition : Edition) (waivers : List Waiver) (text : List ℕ) (w : Waiver) → waiver_of edition text ≡ Some w → (text ≡ [] → ⊥) → text_read edition waivers text ≡ Some (with_waiver waivers w)
read_at edition waivers [] w is some = absurd (some refl)
read_at edition waivers (b ∷ text) w is some = ap (option_map (with_waiver waivers)) is

line_has : (name rest : List ℕ) → name ++ (32 ∷ rest) ≡ [] → ⊥
line_has [] rest e = cc
line_has (b ∷ name) rest e = cc

one_read : (edition : Edition) (waivers : List Waiver) (w : Waiver) → CanBeWritten edition w → line_read edition waivers (waiver_line w) ≡ Some (with_waiver waivers w)
one_read edition waivers w can =
    ap (text_read edition waivers) (stays (waiver_line w) (line_is_inner edition w can))
    ∙ read_at edition waivers (waiver_line w) w ((lines_are_waivers edition (waiver_line w) w).1 (can, refl)) (line_has w.0 (code_of w.1))

-- ---- lines

abbrev taken : List Waiver → List Waiver → List Waiver
taken waivers [] = waivers
taken waivers (w ∷ more) = taken (with_waiver waivers w) more

all_read : (edition : Edition) (waivers more : List Waiver) → AllByRecursion (CanBeWritten edition) more
    → lines_read edition waivers (lines_from [] (waivers_text more)) ≡ Some (taken waivers more)
unfolding lines_from lines_read
all_read edition waivers [] can = refl
all_read edition waivers (w ∷ more) can =
    let text : waivers_text (w ∷ more) ≡ waiver_line w ++ (10 ∷ waivers_text more) = append_assoc (waiver_line w) (10 ∷ []) (waivers_text more) in
    let cut = cut_off [] (waiver_line w) (waivers_text more) (line_is_inner edition w can.0) in
    ap (λ t. lines_read edition waivers (lines_from [] t)) text ∙ ap (lines_read edition waivers) cut
    ∙ ap (λ o. option_and_then (λ so_far. lines_read edition so_far (lines_from [] (waivers_text more))) o) (one_read edition waivers w can.0)
    ∙ all_read edition (with_waiver waivers w) more can.1

-- ---- each once

taken_last : (waivers more : List Waiver) (w : Waiver) → taken waivers (more ++ w ∷ []) ≡ with_waiver (taken waivers more) w
taken_last waivers [] w = refl
taken_last waivers (v ∷ more) w = taken_last (with_waiver waivers v) more w

-- Waivers that can be written, and are the same once each is taken anew.
record AreWritten (edition : Edition) (waivers : List Waiver) : Type 0 where
  pub can : AllByRecursion (CanBeWritten edition) waivers
  pub once : taken [] waivers ≡ waivers

can_last : (edition : Edition) (waivers : List Waiver) (w : Waiver) → AllByRecursion (CanBeWritten edition) waivers → CanBeWritten edition w → AllByRecursion (CanBeWritten edition) (waivers ++ w ∷ [])
can_last edition [] w all can = (can, tt)
can_last edition (v ∷ waivers) w all can = (all.0, can_last edition waivers w all.1 can)

one_more : (edition : Edition) (waivers : List Waiver) (w : Waiver) → AreWritten edition waivers → CanBeWritten edition w → AreWritten edition (with_waiver waivers w)
one_more edition waivers w are can = elim (cases_Bool (is_waived waivers w.0 (number_of w.1))) [
  | inl there ↦ rw there are
  | inr new ↦ rw new (record {
    can = can_last edition waivers w are.can can;
    once = taken_last [] waivers w ∙ ap (λ v. with_waiver v w) are.once ∙ rw new refl;
  })
]

one_place : (edition : Edition) (waivers : List Waiver) (place : PlaceValue) (rule : Rule) → AreWritten edition waivers → IsPlace place rule → CanBeWaived edition place rule
    → AreWritten edition (with_place waivers place rule)
one_place edition waivers (at_key key index) rule are is can = are
one_place edition waivers (at_step name path step) rule are is can = one_more edition waivers (name, rule) are (record { name = is.0; rule = can })
one_place edition waivers (at_waiver name waived) rule are is can = are

all_places : (edition : Edition) (waivers : List Waiver) (lines : List FaultLineValue) → AreWritten edition waivers
    → AllByRecursion (λ (l : FaultLineValue). IsFaultLine l × CanBeWaived edition l.place l.rule) lines → AreWritten edition (waivers_behind waivers lines)
all_places edition waivers [] are all = are
all_places edition waivers (l ∷ lines) are all =
    all_places edition (with_place waivers l.place l.rule) lines (one_place edition waivers l.place l.rule are all.0.0.place all.0.1) all.1

pub written_are_read : WrittenWaiversAreRead
written_are_read edition lines all =
    let are = all_places edition [] lines (record { can = tt; once = refl }) all in
    all_read edition [] (waivers_of_lines lines) are.can ∙ ap Some are.once
