-- What is written of a fault is spelled as its line.
use Rattle.std.proofs.Common.{◌≡◌, ◌<◌, ◌+◌, ◌-◌, ◌/◌, ◌%◌, ◌==◌, ℕ, zero, suc, true, length, IsTrue, slice_get, List, [], ◌∷◌, ◌++◌, refl, sym, subst, ap, ◌∙◌, inl, inr, arith, Some, decimal, codes}
use Rattle.std.proofs.lemmas.Bool.{cases_Bool, eqb-true}
use Rattle.std.proofs.lemmas.List.{append-nil, append_assoc}
use Rattle.std.proofs.lemmas.List.Elements.{All-head, All-tail}
use Rattle.std.specs.List.{list_all}
use Rattle.t1_scan.specs.Bytes.{is_regular}
use Rattle.t1_font.specs.Fonts.{FontValue, glyph_name}
use Rattle.t1_rules.specs.Book.{code_of, text_of}
use Rattle.t1_rules.specs.Keys.{key_text_of}
use Rattle.t1_report.specs.Faults.{FaultValue}
use Rattle.t1_report.specs.Lines.{IsInFont, line_of, place_text, rule_part, path_text}
use Rattle.t1_report.specs.Places.{fault_place}
use Rattle.t1_report.specs.Waivers.{Waiver}
use Rattle.t1_lines.specs.Lines.{FaultLineValue, place_in, line_in, place_words, spaced, fault_spelled, IsPlace, IsSmall}
use Rattle.t1_lines.specs.Laws.{FaultsAreWrittenAsLines}
use Rattle.t1_lines.specs.Names.{HasNames, HaveNames}
use Rattle.t1_lines.proofs.NamesKept.{glyph_named}

spaced-end : (words : List (List ℕ)) (text end : List ℕ) → spaced words text ++ end ≡ spaced words (text ++ end)
spaced-end [] text end = refl
spaced-end (w ∷ words) text end = append_assoc w (32 ∷ spaced words text) end ∙ ap (λ t. w ++ (32 ∷ t)) (spaced-end words text end)

spelled-end : (l : FaultLineValue) (end : List ℕ)
    → fault_spelled l ++ end ≡ decimal l.number ++ (58 ∷ 32 ∷ spaced (place_words l.place (code_of l.rule)) (text_of l.rule ++ end))
spelled-end l end =
    append_assoc (decimal l.number) (58 ∷ 32 ∷ spaced (place_words l.place (code_of l.rule)) (text_of l.rule)) end
    ∙ ap (λ t. decimal l.number ++ (58 ∷ 32 ∷ t)) (spaced-end (place_words l.place (code_of l.rule)) (text_of l.rule) end)

key-written : (key index rest : List ℕ) → (key ++ (32 ∷ (index ++ []))) ++ rest ≡ key ++ (32 ∷ (index ++ rest))
key-written key index rest = append_assoc key (32 ∷ (index ++ [])) rest ∙ ap (λ i. key ++ (32 ∷ (i ++ rest))) (append-nil index)

glyph-written : (name path step rest : List ℕ) → ((name ++ (32 ∷ [])) ++ (path ++ (32 ∷ (step ++ [])))) ++ rest ≡ name ++ (32 ∷ (path ++ (32 ∷ (step ++ rest))))
glyph-written name path step rest =
    append_assoc (name ++ (32 ∷ [])) (path ++ (32 ∷ (step ++ []))) rest
    ∙ append_assoc name (32 ∷ []) ((path ++ (32 ∷ (step ++ []))) ++ rest)
    ∙ ap (λ t. name ++ (32 ∷ t)) (key-written path step rest)

-- A waiver that is there.
record IsThere (waivers : List Waiver) (i : ℕ) : Type 0 where
  pub waiver : Waiver
  pub found : slice_get waivers i ≡ Some waiver

waiver-there : (waivers : List Waiver) (i : ℕ) → i < length waivers → IsThere waivers i
waiver-there [] i less = absurd (omega (arith, less))
waiver-there (w ∷ waivers) zero less = record { waiver = w; found = refl }
waiver-there (w ∷ waivers) (suc i) less =
    let later = waiver-there waivers i (omega (arith, less)) in
    record { waiver = later.waiver; found = later.found }

waiver-of-fault : (font : FontValue) (waivers : List Waiver) (fault : FaultValue) → IsInFont font waivers fault
    → (fault.unit == length font.glyphs + 1) ≡ true → IsThere waivers (fault.step - 1)
waiver-of-fault font waivers fault there is =
    let last = there.waiver (eqb-true fault.unit (length font.glyphs + 1) is) in
    waiver-there waivers (fault.step - 1) (omega (arith, last.1.0, last.1.1))

abbrev Named : Waiver → Type 0
Named w = IsTrue (list_all is_regular w.0)

-- Its name has no blank and no delimiter.
waiver-named : (waivers : List Waiver) (i : ℕ) (w : Waiver) → HaveNames waivers → slice_get waivers i ≡ Some w → Named w
waiver-named [] i w names found = cc
waiver-named (v ∷ waivers) zero w names found = let same : v ≡ w = cc in subst Named same (All-head Named v waivers names)
waiver-named (v ∷ waivers) (suc i) w names found = waiver-named waivers i w (All-tail Named v waivers names) found

place-written : (font : FontValue) (waivers : List Waiver) (fault : FaultValue) → IsInFont font waivers fault
    → place_text font waivers fault (fault_place font fault) ++ rule_part fault
    ≡ spaced (place_words (place_in font waivers fault) (code_of fault.rule)) (text_of fault.rule ++ codes "\n")
place-written font waivers fault there =
    elim (cases_Bool (fault.unit == 0)) [
      | inl e ↦ rw e (ap (λ t. codes "font " ++ t) (key-written (key_text_of (fault.step / 65536)) (decimal (fault.step % 65536)) (rule_part fault)))
      | inr e ↦ elim (cases_Bool (fault.unit == length font.glyphs + 1)) [
        | inl is ↦ (
            let at = waiver-of-fault font waivers fault there is in
            let found = at.found in
            rw (e, is, found) (ap (λ t. codes "waiver " ++ t) (key-written at.waiver.0 (code_of at.waiver.1) (rule_part fault))))
        | inr is ↦ rw (e, is) (ap (λ t. codes "glyph " ++ t)
            (glyph-written (glyph_name font (fault.unit - 1)) (path_text fault.path) (decimal fault.step) (rule_part fault)))
      ]
    ]

-- Whatever the names are.
pub line-written : (font : FontValue) (waivers : List Waiver) (fault : FaultValue) → IsInFont font waivers fault
    → line_of font waivers fault ≡ fault_spelled (line_in font waivers fault) ++ codes "\n"
line-written font waivers fault there =
    append_assoc (decimal fault.number) (58 ∷ 32 ∷ []) (place_text font waivers fault (fault_place font fault) ++ rule_part fault)
    ∙ ap (λ t. decimal fault.number ++ (58 ∷ 32 ∷ t)) (place-written font waivers fault there)
    ∙ sym (spelled-end (line_in font waivers fault) (codes "\n"))

pub place-is : (font : FontValue) (waivers : List Waiver) (fault : FaultValue) → HasNames font → HaveNames waivers → IsInFont font waivers fault → IsSmall fault
    → IsPlace (place_in font waivers fault) fault.rule
place-is font waivers fault glyphs names there plain =
    elim (cases_Bool (fault.unit == 0)) [
      | inl e ↦ (let none : fault.unit ≡ 0 = eqb-true fault.unit 0 e in rw e (there.key none, omega arith))
      | inr e ↦ elim (cases_Bool (fault.unit == length font.glyphs + 1)) [
        | inl is ↦ (
            let at = waiver-of-fault font waivers fault there is in
            let found = at.found in
            let last = there.waiver (eqb-true fault.unit (length font.glyphs + 1) is) in
            rw (e, is, found) (waiver-named waivers (fault.step - 1) at.waiver names found, last.0))
        | inr is ↦ (rw (e, is) (glyph_named font (fault.unit - 1) glyphs, plain.depth, plain.path, plain.step))
      ]
    ]

pub written : FaultsAreWrittenAsLines
written font waivers fault glyphs names there plain =
    (record { number = plain.number; place = place-is font waivers fault glyphs names there plain }, line-written font waivers fault there)
