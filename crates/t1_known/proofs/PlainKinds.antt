-- The kinds of a report's lines are in one line each.
use Rattle.std.proofs.Common.{◌≡◌, ◌<◌, ◌==◌, ℕ, zero, suc, Bool, true, not, List, [], ◌∷◌, ◌++◌, codes, length, map, refl, arith, slice_index_or}
use Rattle.std.proofs.lemmas.Bool.{and_parts}
use Rattle.std.proofs.lemmas.Bool.Decides.{nat_tests}
use Rattle.std.specs.List.{AllByRecursion, list_all}
use Rattle.t1_lines.specs.Lines.{FaultLineValue, IsFaultLine, IsPlace, PlaceValue, at_key, at_step, at_waiver}
use Rattle.t1_many.proofs.LineKinds.{have_kinds}
use Rattle.t1_many.proofs.Texts.{all_by}
use Rattle.t1_many.specs.KnownFaults.{kind_at, kind_of}
use Rattle.t1_rules.specs.Book.{code_of}
use Rattle.t1_rules.specs.Keys.{key_count, key_text_of, key_texts}
use Rattle.t1_rules.specs.declared.rule.Rule.{Rule}
use Rattle.t1_rules.specs.declared.rule.Rule.TheVariants.{F01}
use Rattle.t1_scan.specs.Bytes.{is_regular}
use Rattle.t1_known.proofs.ReadBack.{without-append}
use Rattle.t1_known.specs.Laws.{LinesAreReadable}
use Rattle.t1_known.specs.Lines.{has_no_line_end}
use Rattle.t1_known.specs.Readings.{IsPlainKind}

code_in_line : (rule : Rule) → has_no_line_end (code_of rule) ≡ true
code_in_line F01 = refl
code_in_line _ = refl

regular_in_line : (byte : ℕ) → is_regular byte ≡ true → not (byte == 10) ≡ true
regular_in_line byte regular = grind (arith, nat_tests, regular)

name_in_line : (name : List ℕ) → list_all is_regular name ≡ true → has_no_line_end name ≡ true
name_in_line name all = all_by is_regular (λ byte. not (byte == 10)) regular_in_line name all

each_text : (p : List ℕ → Bool) (texts : List (List ℕ)) (i : ℕ) (d : List ℕ) → list_all p texts ≡ true → i < length texts
    → p (slice_index_or texts i d) ≡ true
each_text p [] i d all less = absurd (omega arith)
each_text p (text ∷ texts) zero d all less = (and_parts _ _ all).0
each_text p (text ∷ texts) (suc i) d all less = each_text p texts i d (and_parts _ _ all).1 (omega arith)

key_in_line : (key : ℕ) → key < key_count → has_no_line_end (key_text_of key) ≡ true
key_in_line key less = each_text has_no_line_end key_texts key [] refl less

pub kind_in_line : (rule : Rule) (place : PlaceValue) → IsPlace place rule → has_no_line_end (kind_at rule place) ≡ true
kind_in_line rule (at_key key index) is =
    without-append (code_of rule) (codes " font " ++ (key_text_of key ++ [])) (code_in_line rule)
    (without-append (key_text_of key) [] (key_in_line key is.0) refl)
kind_in_line rule (at_step name path step) is =
    without-append (code_of rule) (codes " glyph " ++ (name ++ [])) (code_in_line rule) (without-append name [] (name_in_line name is.0) refl)
kind_in_line rule (at_waiver name waived) is =
    without-append (code_of rule) (codes " waiver " ++ (name ++ (32 ∷ (code_of waived ++ [])))) (code_in_line rule)
    (without-append name (32 ∷ (code_of waived ++ [])) (name_in_line name is.0) (without-append (code_of waived) [] (code_in_line waived) refl))

plain : (lines : List FaultLineValue) → AllByRecursion IsFaultLine lines → AllByRecursion IsPlainKind (map kind_of lines)
plain [] all = tt
plain (l ∷ lines) all = ((have_kinds l all.0, kind_in_line l.rule l.place all.0.place), plain lines all.1)

count : (lines : List FaultLineValue) → length (map kind_of lines) ≡ length lines
count [] = refl
count (l ∷ lines) = let more = count lines in omega (arith, more)

pub lines_are_readable : LinesAreReadable
lines_are_readable font lines all few named in_line =
    let same = count lines in
    record { kinds = plain lines all; few = omega (arith, few, same); named = named; font = in_line }
