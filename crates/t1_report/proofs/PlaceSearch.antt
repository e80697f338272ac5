-- The places of the font, one after another: what is broken at each, and that nothing is past the places of a key.
use Rattle.std.proofs.Common.{◌≡◌, ℕ, ◌+◌, ◌-◌, ◌*◌, ◌<◌, ◌≤◌, inl, inr, [], sym, ap, subst, ◌∙◌, arith}
use Rattle.std.proofs.lemmas.Bool.{cases_lt}
use Rattle.t1_report.specs.Checked.{CheckedFont}
use Rattle.t1_rules.specs.declared.mask.Mask.{Mask}
use Rattle.t1_rules.specs.Book.{number_of}
use Rattle.t1_rules.specs.FontRules.{font_rules, violated}
use Rattle.t1_rules.specs.Mask.{HasNoneAbove, has}
use Rattle.t1_rules.proofs.Lemmas.Book.{in_book}
use Rattle.t1_rules.proofs.Lemmas.Keys.{few_places}
use Rattle.t1_report.specs.declared.walk.found.Found.{Found}
use Rattle.t1_report.specs.declared.walk.font_places.FontPlaces.{FontPlaces}
use Rattle.t1_report.specs.Reports.{is_broken}
use Rattle.t1_report.specs.Private.Units.{IsFirst, IsFontPlaces, IsQuiet, IsQuietFrom, font_step}
use Rattle.t1_report.proofs.Broken.{in_font, no_path, past_key, past_keys}
use Rattle.t1_rules.specs.Keys.{key_count}

-- An index that is tested is below 65,536.
pub few_index : (font : CheckedFont) (p : FontPlaces) → IsFontPlaces font p → p.index < p.places → p.index < 65536
few_index font p is less = let few = few_places font.edition font.value p.key in omega (arith, few, is.places, less)

-- The set of a place is what is broken there.
place_agrees : (font : CheckedFont) (p : FontPlaces) (mask : Mask) → p.index < 65536 → ((n : ℕ) → has mask n ≡ violated (font_rules font.edition) n font.value p.key p.index)
    → (n : ℕ) → has mask n ≡ is_broken font 0 (font_step p) n
place_agrees font p mask few answers n = answers n ∙ sym (in_font font p.key p.index n few)

pub first_place : (font : CheckedFont) (from : ℕ) (p : FontPlaces) (found : Found) → IsFontPlaces font p → p.index < p.places → from ≤ font_step p
    → IsQuiet font 0 from (font_step p)
    → found.unit ≡ 0 → found.step ≡ font_step p → found.path.items ≡ [] → ((n : ℕ) → has found.rules n ≡ violated (font_rules font.edition) n font.value p.key p.index)
    → IsFirst font 0 from found
first_place font from p found is less behind quiet unit step path answers =
    record {
      unit_is = unit;
      behind = subst (λ s. from ≤ s) (sym step) behind;
      quiet = subst (λ s. IsQuiet font 0 from s) (sym step) quiet;
      rules = λ n. place_agrees font p found.rules (few_index font p is less) answers n ∙ ap (λ s. is_broken font 0 s n) (sym step);
      path = path ∙ sym (no_path font.value found.step);
    }

-- A place where nothing is broken, and the place after it.
pub place_passed : (font : CheckedFont) (from : ℕ) (p next : FontPlaces) (mask : Mask) → IsFontPlaces font p → p.index < p.places
    → IsQuiet font 0 from (font_step p)
    → ((n : ℕ) → has mask n ≡ violated (font_rules font.edition) n font.value p.key p.index) → HasNoneAbove mask 0 → font_step next ≡ font_step p + 1
    → IsQuiet font 0 from (font_step next)
place_passed font from p next mask is less quiet answers none at = λ s rule past before.
    elim (cases_lt s (font_step p)) [
      | inl earlier ↦ quiet s rule past earlier
      | inr here ↦
          let same : s ≡ font_step p = omega (arith, here, before, at) in
          ap (λ (t : ℕ). is_broken font 0 t (number_of rule)) same
          ∙ sym (place_agrees font p mask (few_index font p is less) answers (number_of rule))
          ∙ none (number_of rule) (in_book rule).0 (in_book rule).1
    ]

-- The rest of a key, past its places.
pub key_passed : (font : CheckedFont) (from : ℕ) (p next : FontPlaces) → IsFontPlaces font p → p.places ≤ p.index → IsQuiet font 0 from (font_step p)
    → next.key ≡ p.key + 1 → next.index ≡ 0 → IsQuiet font 0 from (font_step next)
key_passed font from p next is past quiet key index = λ s rule behind before.
    elim (cases_lt s (font_step p)) [
      | inl earlier ↦ quiet s rule behind earlier
      | inr later ↦ past_key font p.key s (number_of rule) (omega (arith, is.places, past, later)) (omega (arith, before, key, index))
    ]

-- Past the last key.
pub keys_passed : (font : CheckedFont) (from : ℕ) (p : FontPlaces) → key_count ≤ p.key → IsQuiet font 0 from (font_step p) → IsQuietFrom font 0 from
keys_passed font from p last quiet = λ s rule behind.
    elim (cases_lt s (font_step p)) [
      | inl earlier ↦ quiet s rule behind earlier
      | inr later ↦ past_keys font s (number_of rule) (omega (arith, last, later))
    ]

-- The measure: places that are left, and the keys.
pub fewer_places : (key index : ℕ) → index < 65536 → (key_count - key) * 65537 + (65536 - (index + 1)) < (key_count - key) * 65537 + (65536 - index)
fewer_places key index few = omega (arith, few)
