-- StandardEncoding's names, and what components depend on.
use Rattle.std.proofs.Common.{◌≡◌, ℕ, zero, suc, ◌<◌, ◌==◌, ◌&&◌, ◌||◌, not, nat_lt, if◌then◌else◌, Bool, true, false, Option, Some, None, List, [], ◌∷◌, ◌++◌, length, map, take, slice_get, slice_index_or, refl, sym, ap, ◌∙◌, arith}
use Rattle.std.specs.List.{AllPass, list_any, position_or_len, range_with_len}
use Rattle.t1_char.specs.Charstrings.{code_at, code_or_empty, len_iv_in, tokens_in}
use Rattle.t1_char.specs.declared.token.CharToken.{CharToken}
use Rattle.t1_char.specs.Effects.{Action, State, calls, finishes, goes, most_calls, returns}
use Rattle.t1_char.specs.Steps.{Run, StepView, after, and_then, at_start, effect_at, expansion, first, led_to, step_at, steps_of}
use Rattle.t1_char.specs.Tokens.{charstring_tokens}
use Rattle.t1_font.specs.declared.encoding.Encoding.{Encoding}
use Rattle.t1_font.specs.Fonts.{FontValue}
use Rattle.t1_font.specs.Keys.{same_name}
use Rattle.t1_font.specs.Values.{Value}
use Rattle.t1_rules.specs.Components.{component_at, component_in, component_named, component_of_glyph, components_of, glyph_named}
use Rattle.t1_rules.specs.Laws.Components.{CodesAreCounted, NamesAreCounted, NoNameStandsTwice, OwnEncodingHasNoSay, PlacesHaveNoSay, encoded_anew}
use Rattle.t1_rules.specs.StandardEncoding.{standard_encoding, standard_name}
use Rattle.t1_rules.proofs.Lemmas.Book.{both}
use Rattle.t1_rules.proofs.Lemmas.Components.{named_by_letters}

pub codes_are_counted : CodesAreCounted
unfolding standard_encoding
codes_are_counted = refl

pub names_are_counted : NamesAreCounted
unfolding standard_encoding
names_are_counted = refl

-- ---- no name twice

-- Each name that has letters is another than those after it.
abbrev are_apart : List (List ℕ) → Bool
are_apart [] = true
are_apart (name ∷ names) = (length name == 0 || not (list_any (same_name name) names)) && are_apart names

encoding_is_apart : are_apart standard_encoding ≡ true
unfolding standard_encoding
encoding_is_apart = refl

same_self : (name : List ℕ) → same_name name name ≡ true
same_self [] = refl
same_self (c ∷ cs) = grind (arith, same_self cs)

among : (names : List (List ℕ)) (place : ℕ) (name : List ℕ) → name ≡ slice_index_or names place [] → 0 < length name → list_any (same_name name) names ≡ true
among [] place name at letters = absurd (omega (arith, ap length at))
among (n ∷ ns) zero name at letters = rw (sym at) (rw (same_self name) refl)
among (n ∷ ns) (suc place) name at letters = rw (among ns place name at letters) (always (same_name name n))
  where
    always : (b : Bool) → (b || true) ≡ true
    always true = refl
    always false = refl

not_among : (name : List ℕ) (names : List (List ℕ)) → (length name == 0 || not (list_any (same_name name) names)) ≡ true
    → list_any (same_name name) names ≡ true → 0 < length name → ⊥
not_among name names apart here letters =
    let some : (length name == 0) ≡ false = grind (arith, letters) in
    let none : (length name == 0 || not (list_any (same_name name) names)) ≡ false = rw (some, here) refl in
    let no : false ≡ true = sym none ∙ apart in
    cc

one_place : (names : List (List ℕ)) → are_apart names ≡ true → (one other : ℕ) → slice_index_or names one [] ≡ slice_index_or names other []
    → 0 < length (slice_index_or names one []) → one ≡ other
one_place [] apart one other same letters = absurd (omega (arith, letters))
one_place (n ∷ ns) apart zero zero same letters = refl
one_place (n ∷ ns) apart zero (suc other) same letters = absurd (not_among n ns (both _ _ apart).0 (among ns other n same letters) letters)
one_place (n ∷ ns) apart (suc one) zero same letters =
    let with_letters : 0 < length n = rw (sym same) letters in
    absurd (not_among n ns (both _ _ apart).0 (among ns one n (sym same) with_letters) with_letters)
one_place (n ∷ ns) apart (suc one) (suc other) same letters = ap (λ (k : ℕ). suc k) (one_place ns (both _ _ apart).1 one other same letters)

pub no_name_stands_twice : NoNameStandsTwice
unfolding standard_name
no_name_stands_twice one other same letters = one_place standard_encoding encoding_is_apart one other same letters

-- ---- what steps depend on

led_same : (step : StepView) (s : State) (action : Action) (behind other_behind : State → Run) (called other_called : ℕ → List ℕ → State → Run)
    → ((x : State) → behind x ≡ other_behind x) → ((number : ℕ) (code : List ℕ) (x : State) → called number code x ≡ other_called number code x)
    → led_to step s action behind called ≡ led_to step s action other_behind other_called
led_same step s goes behind other_behind called other_called same_behind same_called = ap (first step) (same_behind s)
led_same step s (calls number code) behind other_behind called other_called same_behind same_called = ap (first step) (same_called number code s)
led_same step s returns behind other_behind called other_called same_behind same_called = refl
led_same step s finishes behind other_behind called other_called same_behind same_called = refl

then_same : (run : Run) (next other_next : State → Run) → ((x : State) → next x ≡ other_next x) → and_then run next ≡ and_then run other_next
then_same run next other_next same = go run.finished
  where
    go : (b : Bool) → (if b then run else after run.steps (next run.state)) ≡ (if b then run else after run.steps (other_next run.state))
    go true = refl
    go false = ap (after run.steps) (same run.state)

-- The font with other entries, stated so often, the same lenIV, other glyphs and another Encoding.
module _ (font : FontValue) (plain : List Value) (key_times : List ℕ) (encoding : Encoding) (codes : List (ℕ × List ℕ)) (bad_code : Bool) (glyphs : List (List ℕ × List ℕ))
    (same_len_iv : len_iv_in (record font { plain = plain }) ≡ len_iv_in font) where
  abbrev changed : FontValue
  changed = record font { plain = plain; key_times = key_times; encoding = encoding; codes = codes; bad_code = bad_code; glyphs = glyphs }

  pub same_tokens : (code : List ℕ) → tokens_in changed code ≡ tokens_in font code
  same_tokens code = ap (λ len_iv. charstring_tokens len_iv code) same_len_iv

  pub same_run : (n : ℕ) (path : List ℕ) (ts : List CharToken) (s : State) → expansion changed n path ts s ≡ expansion font n path ts s
  unfolding expansion
  same_run n path [] s = refl
  same_run zero path (t ∷ ts) s =
      led_same (step_at font path t ts s) (effect_at font path t s).state (effect_at font path t s).action _ _ _ _
      (λ x. same_run zero path ts x)
      (λ number code x. same_run zero path ts x)
  same_run (suc n) path (t ∷ ts) s =
      led_same (step_at font path t ts s) (effect_at font path t s).state (effect_at font path t s).action _ _ _ _
      (λ x. same_run (suc n) path ts x)
      (λ number code x.
      ap (λ run. and_then run (λ y. expansion changed (suc n) path ts y))
      (ap (λ tokens. expansion changed n (path ++ number ∷ []) tokens x) (same_tokens code)
      ∙ same_run n (path ++ number ∷ []) (tokens_in font code) x)
      ∙ then_same (expansion font n (path ++ number ∷ []) (tokens_in font code) x) (λ y. expansion changed (suc n) path ts y)
      (λ y. expansion font (suc n) path ts y)
      (λ y. same_run (suc n) path ts y))

same_component : (limit : ℕ) (font : FontValue) (encoding : Encoding) (codes : List (ℕ × List ℕ)) (bad_code : Bool) (code : ℕ)
    → component_at limit (encoded_anew font encoding codes bad_code) code ≡ component_at limit font code
unfolding steps_of
same_component limit font encoding codes bad_code code = by_name (standard_name code)
  where
    by_glyph : (found : Option ℕ) → component_of_glyph limit (encoded_anew font encoding codes bad_code) found ≡ component_of_glyph limit font found
    by_glyph None = refl
    by_glyph (Some glyph) = ap (λ (run : Run). component_in (take limit run.steps))
        (same_run font font.plain font.key_times encoding codes bad_code font.glyphs refl most_calls [] (tokens_in font (code_at font glyph)) at_start)

    by_name : (name : List ℕ) → component_named limit (encoded_anew font encoding codes bad_code) name ≡ component_named limit font name
    by_name [] = refl
    by_name (c ∷ cs) = by_glyph (glyph_named font (c ∷ cs))

pub map_same : {A B : Type 0} (f g : A → B) (xs : List A) → ((x : A) → f x ≡ g x) → map f xs ≡ map g xs
map_same f g [] same = refl
map_same f g (x ∷ xs) same = rw (same x, map_same f g xs same) refl

pub own_encoding_has_no_say : OwnEncodingHasNoSay
unfolding components_of
own_encoding_has_no_say limit font encoding codes bad_code =
    map_same (component_at limit (encoded_anew font encoding codes bad_code)) (component_at limit font) (range_with_len 0 256)
    (λ code. same_component limit font encoding codes bad_code code)

-- ---- a component by its charstring

-- The first of a name comes after those of other names.
first_place : (front rest : List (List ℕ × List ℕ)) (name code : List ℕ) → AllPass (λ glyph. not (same_name name glyph.0)) front
    → position_or_len (same_name name) (map (λ glyph. glyph.0) (front ++ (name, code) ∷ rest)) ≡ length front
first_place [] rest name code others = rw (same_self name) refl
first_place (g ∷ gs) rest name code others =
    let first : not (same_name name g.0) ≡ true = others 0 g (omega arith) in
    let later : AllPass (λ glyph. not (same_name name glyph.0)) gs = λ k d less. others (suc k) d (omega (arith, less)) in
    rw (is_other (same_name name g.0) first, first_place gs rest name code later) (omega arith)
  where
    is_other : (b : Bool) → not b ≡ true → b ≡ false
    is_other false e = refl
    is_other true e = let no : false ≡ true = e in cc

shorter : (front rest : List (List ℕ × List ℕ)) (glyph : List ℕ × List ℕ) → nat_lt (length front) (length (map (λ g. g.0) (front ++ glyph ∷ rest))) ≡ true
shorter [] rest glyph = grind arith
shorter (g ∷ gs) rest glyph = grind (arith, shorter gs rest glyph)

get_behind : (front rest : List (List ℕ × List ℕ)) (glyph : List ℕ × List ℕ) → slice_get (front ++ glyph ∷ rest) (length front) ≡ Some glyph
get_behind [] rest glyph = refl
get_behind (g ∷ gs) rest glyph = get_behind gs rest glyph

pub places_have_no_say : PlacesHaveNoSay
unfolding steps_of
places_have_no_say limit font front rest name code letters others =
    let glyphs = front ++ (name, code) ∷ rest in
    let some : (length name == 0) ≡ false = grind (arith, letters) in
    let there : glyph_named (record font { glyphs = glyphs }) name ≡ Some (length front) =
    rw (first_place front rest name code others, shorter front rest (name, code)) refl in
    named_by_letters limit (record font { glyphs = glyphs }) name some
    ∙ ap (λ found. component_of_glyph limit (record font { glyphs = glyphs }) found) there
    ∙ ap (λ found. component_in (take limit (expansion (record font { glyphs = glyphs }) most_calls [] (tokens_in font (code_or_empty found)) at_start).steps))
    (get_behind front rest (name, code))
    ∙ ap (λ (run : Run). component_in (take limit run.steps))
    (same_run font font.plain font.key_times font.encoding font.codes font.bad_code glyphs refl most_calls [] (tokens_in font code) at_start)
