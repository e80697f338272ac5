-- A font without its noted keys breaks the same rules up to number 70, has the same steps and the same components.
use Rattle.std.proofs.Common.{◌≡◌, ◌+◌, ◌<◌, ◌||◌, ◌&&◌, ℕ, zero, suc, Bool, false, Option, Some, None, List, [], ◌∷◌, ◌++◌, take, slice_index_or, lit<, refl, sym, ap, ◌∙◌, arith}
use Rattle.std.specs.List.{range_with_len}
use Rattle.std.proofs.Math.Bool.{or-false}
use Rattle.t1_char.specs.Charstrings.{code_at, len_iv_in, tokens_in}
use Rattle.t1_char.specs.declared.edition.Edition.{Edition}
use Rattle.t1_char.specs.Editions.{has_later_rules, limit_of}
use Rattle.t1_char.specs.Effects.{most_calls}
use Rattle.t1_char.specs.Steps.{Run, StepView, at_start, expansion, steps_of}
use Rattle.t1_font.specs.Fonts.{FontValue}
use Rattle.t1_font.specs.Keys.{taken_keys}
use Rattle.t1_font.specs.Laws.Notes.{unnoted}
use Rattle.t1_font.specs.LenIv.{len_iv_of}
use Rattle.t1_font.specs.Values.{Value, absent}
use Rattle.t1_rules.specs.Components.{component_at, component_in, component_named, component_of_glyph, components_of, glyph_named}
use Rattle.t1_rules.specs.FontRules.{first_font_rules, font_rules, later_font_rules, violated}
use Rattle.t1_rules.specs.Laws.Editions.{rules_in}
use Rattle.t1_rules.specs.StandardEncoding.{standard_name}
use Rattle.t1_rules.specs.StepRules.{charstring_rules}
use Rattle.t1_rules.proofs.Lemmas.ComponentLaws.{map_same, same_run, same_tokens}
use Rattle.t1_rules.proofs.Lemmas.FontRules.{only_first}

-- ---- the keys that are taken

front_same : (n i : ℕ) (values rest : List Value) → i < n → ((j : ℕ) → slice_index_or rest j absent ≡ absent)
    → slice_index_or (take n values ++ rest) i absent ≡ slice_index_or values i absent
front_same zero i values rest less none = absurd (omega (arith, less))
front_same (suc n) i [] rest less none = none i
front_same (suc n) zero (value ∷ values) rest less none = refl
front_same (suc n) (suc i) (value ∷ values) rest less none = front_same n i values rest (omega (arith, less)) none

four_absent : (j : ℕ) → slice_index_or (absent ∷ (absent ∷ (absent ∷ (absent ∷ [])))) j absent ≡ absent
four_absent zero = refl
four_absent (suc zero) = refl
four_absent (suc (suc zero)) = refl
four_absent (suc (suc (suc zero))) = refl
four_absent (suc (suc (suc (suc j)))) = refl

value_same : (font : FontValue) (i : ℕ) → i < taken_keys → slice_index_or (unnoted font).plain i absent ≡ slice_index_or font.plain i absent
value_same font i less = front_same taken_keys i font.plain (absent ∷ (absent ∷ (absent ∷ (absent ∷ [])))) less four_absent

first_same : (n : ℕ) (font : FontValue) (key index : ℕ) → violated first_font_rules n (unnoted font) key index ≡ violated first_font_rules n font key index
unfolding first_font_rules
first_same n font key index =
    rw (
      value_same font 0 (lit< tt),
      value_same font 1 (lit< tt),
      value_same font 2 (lit< tt),
      value_same font 3 (lit< tt),
      value_same font 4 (lit< tt),
      value_same font 5 (lit< tt),
      value_same font 7 (lit< tt),
      value_same font 8 (lit< tt),
      value_same font 9 (lit< tt),
      value_same font 10 (lit< tt),
      value_same font 11 (lit< tt),
      value_same font 12 (lit< tt),
      value_same font 13 (lit< tt),
      value_same font 14 (lit< tt),
      value_same font 15 (lit< tt),
      value_same font 16 (lit< tt),
      value_same font 17 (lit< tt),
    ) refl

pub font_rules_same : (edition : Edition) → has_later_rules edition ≡ false → (n : ℕ) (font : FontValue) (key index : ℕ)
    → violated (font_rules edition) n (unnoted font) key index ≡ violated (font_rules edition) n font key index
font_rules_same edition none n font key index =
    only_first edition none n (unnoted font) key index ∙ first_same n font key index ∙ sym (only_first edition none n font key index)

-- ---- steps

same_len_iv : (font : FontValue) → len_iv_in (unnoted font) ≡ len_iv_in font
same_len_iv font = ap len_iv_of (value_same font 6 (lit< tt))

pub steps_same : (font : FontValue) (glyph : ℕ) → steps_of (unnoted font) glyph ≡ steps_of font glyph
unfolding steps_of
steps_same font glyph =
    ap (λ tokens. (expansion (unnoted font) most_calls [] tokens at_start).steps)
    (same_tokens font (unnoted font).plain (unnoted font).key_times font.encoding font.codes font.bad_code font.glyphs (same_len_iv font) (code_at font glyph))
    ∙ ap (λ (run : Run). run.steps)
    (same_run font (unnoted font).plain (unnoted font).key_times font.encoding font.codes font.bad_code font.glyphs (same_len_iv font) most_calls []
    (tokens_in font (code_at font glyph)) at_start)

component_same : (limit : ℕ) (font : FontValue) (code : ℕ) → component_at limit (unnoted font) code ≡ component_at limit font code
component_same limit font code = by_name (standard_name code)
  where
    by_glyph : (found : Option ℕ) → component_of_glyph limit (unnoted font) found ≡ component_of_glyph limit font found
    by_glyph None = refl
    by_glyph (Some glyph) = ap (λ (steps : List StepView). component_in (take limit steps)) (steps_same font glyph)

    by_name : (name : List ℕ) → component_named limit (unnoted font) name ≡ component_named limit font name
    by_name [] = refl
    by_name (c ∷ cs) = by_glyph (glyph_named font (c ∷ cs))

pub step_rules_same : (edition : Edition) (font : FontValue) → rules_in edition (unnoted font) ≡ rules_in edition font
unfolding components_of
step_rules_same edition font =
    ap (charstring_rules edition)
    (map_same (component_at (limit_of edition) (unnoted font)) (component_at (limit_of edition) font) (range_with_len 0 256) (component_same (limit_of edition) font))
