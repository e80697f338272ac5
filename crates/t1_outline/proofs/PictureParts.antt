-- What steps say of the parts of their glyph, one step further; and laws of the parts.
use Rattle.std.proofs.Common.{◌≡◌, ℕ, ◌==◌, ◌||◌, if◌then◌else◌, Bool, true, false, Option, None, Some, List, [], ◌∷◌, ◌++◌, length, refl, ap, ◌∙◌, arith}
use Rattle.std.proofs.lemmas.Int.{ints}
use Rattle.std.specs.List.{find, list_any}
use Rattle.std.specs.Option.{option_map}
use Rattle.t1_char.specs.Seacs.{step_is_seac}
use Rattle.t1_char.specs.Since.{last_of}
use Rattle.t1_char.specs.Steps.{StepView}
use Rattle.t1_font.specs.Fonts.{FontValue}
use Rattle.t1_char.proofs.LookingBack.{last_goes_on}
use Rattle.t1_outline.specs.declared.parts.SeacPart.TheVariants.{There}
use Rattle.t1_outline.specs.Laws.Parts.{AccentsStandByTheirSidebearings, GlyphsWithoutSeacAreOnePart, NamesGlyph, SeacsDrawBaseAndAccent}
use Rattle.t1_outline.specs.Parts.{accent_origin, seac_part_at, seac_part_named, metrics_in, metrics_of, part, seac_in, seac_of, sets_metrics, sidebearing_by}
use Rattle.t1_outline.specs.Private.Composing.{metrics_with, seac_with}
use Rattle.t1_rules.specs.declared.step_rules.flex.Point.{Point}
use Rattle.t1_rules.specs.Components.{glyph_named}
use Rattle.t1_rules.specs.StandardEncoding.{standard_name}
use Rattle.t1_rules.specs.StepRules.Flex.{origin}
use Rattle.t1_rules.specs.StepRules.Seac.{accent_code, base_code}

pub metrics_on : (steps : List StepView) (t : StepView) → metrics_of (steps ++ t ∷ []) ≡ metrics_with (metrics_of steps) t
metrics_on [] t = go (sets_metrics t)
  where
    go : (b : Bool) → option_map metrics_in (if b then Some t else None) ≡ (if b then Some (metrics_in t) else None)
    go true = refl
    go false = refl
metrics_on (s ∷ ss) t = go (sets_metrics s) (metrics_on ss t)
  where
    go : (b : Bool) → option_map metrics_in (find sets_metrics (ss ++ t ∷ [])) ≡ metrics_with (option_map metrics_in (find sets_metrics ss)) t
        → option_map metrics_in (if b then Some s else find sets_metrics (ss ++ t ∷ []))
        ≡ metrics_with (option_map metrics_in (if b then Some s else find sets_metrics ss)) t
    go true rest = refl
    go false rest = rest

pub seac_on : (steps : List StepView) (t : StepView) → seac_of (steps ++ t ∷ []) ≡ seac_with (seac_of steps) t
seac_on steps t = ap (option_map seac_in) (last_goes_on step_is_seac steps t) ∙ go (step_is_seac t)
  where
    go : (b : Bool) → option_map seac_in (if b then Some t else last_of step_is_seac steps) ≡ (if b then Some (seac_in t) else seac_of steps)
    go true = refl
    go false = refl

none_last : (steps : List StepView) → list_any step_is_seac steps ≡ false → last_of step_is_seac steps ≡ None
none_last [] none = refl
none_last (s ∷ ss) none = go (step_is_seac s) (list_any step_is_seac ss) none
  where
    go : (own others : Bool) → (own || others) ≡ false
        → (if others then last_of step_is_seac ss else (if own then Some s else None)) ≡ None
    go false false e = refl
    go true others e = let no : true ≡ false = e in cc
    go false true e = let no : true ≡ false = e in cc

pub glyphs_without_seac_are_one_part : GlyphsWithoutSeacAreOnePart
glyphs_without_seac_are_one_part font glyph steps none = rw (none_last steps none) refl

-- What a code names that names a glyph.
named_there : (font : FontValue) (code : Option ℕ) (glyph : ℕ) (point : Point) → NamesGlyph font code glyph → seac_part_at font code point ≡ There (part glyph point)
named_there font code glyph point names =
    rw names.is_code (named (standard_name names.number) names.has_letters names.is_named)
  where
    named : (name : List ℕ) → (length name == 0) ≡ false → glyph_named font name ≡ Some glyph
        → seac_part_named font names.number point name ≡ There (part glyph point)
    named [] letters is = let no : true ≡ false = letters in cc
    named (c ∷ cs) letters is = rw is refl

pub seacs_draw_base_and_accent : SeacsDrawBaseAndAccent
seacs_draw_base_and_accent font glyph base accent before t is base_named accent_named =
    rw (
      seac_on before t,
      is,
      named_there font (base_code t) base origin base_named,
      named_there font (accent_code t) accent (accent_origin (sidebearing_by (metrics_of (before ++ t ∷ []))) (seac_in t)) accent_named,
    )
    refl

pub accents_stand_by_their_sidebearings : AccentsStandByTheirSidebearings
accents_stand_by_their_sidebearings start seac = omega (arith, ints)
