-- Fonts with more waivers than are read, one after another.
use Rattle.std.proofs.Common.{◌≡◌, ◌<◌, ◌+◌, ◌||◌, ℕ, Bool, true, false, Option, Some, None, is_none, is_some, not, List, [], ◌∷◌, ◌++◌, codes, length, map, take, get_or, option_map, refl, sym, ap, ◌∙◌, add-one, append-nil, if◌then◌else◌, string_bytes}
use Rattle.std.proofs.lemmas.Grind.{flat_map-append}
use Rattle.std.proofs.lemmas.List.Folds.{flat_map-map, list_any-append}
use Rattle.std.proofs.Math.Seq.{take-suc}
use Rattle.std.specs.List.{concat, flat_map, list_any}
use Rattle.t1_run.specs.declared.status.Status.{Status}
use Rattle.t1_run.specs.declared.status.Status.TheVariants.{Clean, Failed}
use Rattle.t1_waiving.specs.FontTexts.{font_text}
use Rattle.t1_waiving.specs.TooMany.{has_too_many, status_of_texts, too_many_line}
use Rattle.t1_waiving.specs.declared.kept.FontWaivers.{FontWaivers}

-- By what is kept of a font.
abbrev pub line_told : FontWaivers → List ℕ
line_told font = too_many_line (font_text font)

abbrev pub is_told : FontWaivers → Bool
is_told font = has_too_many (font_text font)

abbrev pub status_told : List FontWaivers → Status
status_told fonts = if list_any is_told fonts then Failed else Clean

same_none : {A B : Type 0} (f : A → B) (o : Option A) → is_none (option_map f o) ≡ is_none o
same_none f None = refl
same_none f (Some x) = refl

pub none_is : {A : Type 0} (o : Option A) (b : Bool) → is_some o ≡ not b → is_none o ≡ b
none_is o true is = ap not is
none_is o false is = ap not is

pub told_is : (font : FontWaivers) (b : Bool) → is_none font.text ≡ b → is_told font ≡ b
told_is font b is = same_none (λ text. text.items) font.text ∙ is

pub line_is : (font : FontWaivers) → is_none font.text ≡ true
    → line_told font ≡ concat (string_bytes font.name ∷ codes ": too many waivers\n" ∷ [])
line_is font is = rw (told_is font true is) refl

pub no_line : (font : FontWaivers) → is_none font.text ≡ false → line_told font ≡ []
no_line font is = rw (told_is font false is) refl

module _ (fonts : List FontWaivers) (i : ℕ) (font : FontWaivers) (less : i < length fonts) (is : font ≡ get_or fonts i font) where
  fonts_next : take (i + 1) fonts ≡ take i fonts ++ font ∷ []
  fonts_next = ap (λ n. take n fonts) (add-one i) ∙ take-suc fonts i font less ∙ ap (λ f. take i fonts ++ f ∷ []) (sym is)

  pub lines_next : flat_map line_told (take (i + 1) fonts) ≡ flat_map line_told (take i fonts) ++ line_told font
  lines_next =
      ap (flat_map line_told) fonts_next ∙ flat_map-append line_told (take i fonts) (font ∷ [])
      ∙ ap (λ l. flat_map line_told (take i fonts) ++ l) (append-nil (line_told font))

  any_next : list_any is_told (take (i + 1) fonts) ≡ (list_any is_told (take i fonts) || (is_told font || false))
  any_next = ap (list_any is_told) fonts_next ∙ list_any-append is_told (take i fonts) (font ∷ [])

  with_true : (b : Bool) → (b || true) ≡ true
  with_true true = refl
  with_true false = refl

  with_false : (b : Bool) → (b || false) ≡ b
  with_false true = refl
  with_false false = refl

  pub status_failed : is_none font.text ≡ true → Failed ≡ status_told (take (i + 1) fonts)
  status_failed none =
      ap (λ (b : Bool). if b then Failed else Clean)
      (sym (any_next ∙ ap (λ (b : Bool). list_any is_told (take i fonts) || (b || false)) (told_is font true none)
      ∙ with_true (list_any is_told (take i fonts))))

  pub status_same : is_none font.text ≡ false → status_told (take i fonts) ≡ status_told (take (i + 1) fonts)
  status_same some =
      ap (λ (b : Bool). if b then Failed else Clean)
      (sym (any_next ∙ ap (λ (b : Bool). list_any is_told (take i fonts) || (b || false)) (told_is font false some)
      ∙ with_false (list_any is_told (take i fonts))))

pub lines_are : (fonts : List FontWaivers) → flat_map too_many_line (map font_text fonts) ≡ flat_map line_told fonts
lines_are fonts = flat_map-map too_many_line font_text fonts

any_are : (fonts : List FontWaivers) → list_any has_too_many (map font_text fonts) ≡ list_any is_told fonts
any_are [] = refl
any_are (font ∷ fonts) = ap (λ (b : Bool). is_told font || b) (any_are fonts)

pub status_is : (fonts : List FontWaivers) → status_of_texts (map font_text fonts) ≡ status_told fonts
status_is fonts = ap (λ (b : Bool). if b then Failed else Clean) (any_are fonts)
