-- A charstring with a step that breaks C01 has fewer bytes than lenIV says.
use Rattle.std.proofs.Common.{◌≡◌, ◌&&◌, ◌||◌, ◌==◌, ◌+◌, ◌-◌, ◌*◌, ◌-ℤ◌, ◌<ℤ◌, neg_ℤ, ℕ, zero, suc, ℤ, pos, negsuc, nat_lt, if◌then◌else◌, Bool, true, false, Option, Some, None, List, [], ◌∷◌, length, option_map, slice_get, take, refl, sym, subst, ◌∙◌, arith}
use Rattle.std.specs.List.{list_any}
use Rattle.std.proofs.lemmas.Bool.{ltb-true}
use Rattle.std.proofs.lemmas.Int.{ints}
use Rattle.t1_font.specs.Fonts.{FontValue}
use Rattle.t1_char.specs.declared.command.Command.{Command as Commands}
use Rattle.t1_char.specs.declared.edition.Edition.{Edition}
use Rattle.t1_char.specs.declared.token.CharToken.{CharToken}
use Rattle.t1_char.specs.declared.token.CharToken.TheVariants.{End, Number, Short}
use Rattle.t1_char.specs.Charstrings.{len_iv_in, tokens_in}
use Rattle.t1_char.specs.Commands.{command_of, escaped_of}
use Rattle.t1_char.specs.Editions.{limit_of}
use Rattle.t1_char.specs.Steps.{StepView, steps_of}
use Rattle.t1_char.specs.Tokens.{charstring_tokens, completed, escaped_code, five, long_number, more_of, plain_code, token_at, tokens_behind, tokens_by, tokens_of, two, whole, with_second}
use Rattle.t1_rules.specs.declared.rule.Rule.TheVariants.{C01}
use Rattle.t1_rules.specs.declared.sidebearings.Component.{Component}
use Rattle.t1_rules.specs.Components.{components_of}
use Rattle.t1_rules.specs.StepRules.{argument_rules, breaks, call_rules, charstring_rules, component_rules, counter_rules, flex_rules, othersubr_rules, path_rules, seac_rules, stem_rules, step_rules, triple_rules}
use Rattle.t1_rules.specs.StepRules.Tokens.{is_short}
use Rattle.t1_rules.proofs.Lemmas.StepRules.{row_decides}
use Rattle.t1_reasons.specs.declared.reason.Reason.{Reason}
use Rattle.t1_reasons.specs.declared.reason.Reason.TheVariants.{Length, Nothing}
use Rattle.t1_reasons.specs.CharstringReasons.{IsShorter, charstring_at, told_of_step}
use Rattle.t1_reasons.specs.GlyphReasons.{ShortCharstringsAreShorter, limit_reason, next_reason, reason_at_place}
use Rattle.t1_reasons.specs.StepReasons.{step_reason}
use Rattle.t1_reasons.proofs.EachStep.{each_step}
use Rattle.t1_reasons.proofs.NamedSteps.{broken_where_told}

-- ---- what is short

-- No other token says that its charstring is too short.
plain_is : (v : ℕ) (command : Option Commands) → is_short (plain_code v command) ≡ false
plain_is v None = refl
plain_is v (Some command) = refl

escaped_is : (w : ℕ) (command : Option Commands) → is_short (escaped_code w command) ≡ false
escaped_is w None = refl
escaped_is w (Some command) = refl

long_is : (rest : List ℕ) → is_short (long_number rest) ≡ false
long_is [] = refl
long_is (a ∷ []) = refl
long_is (a ∷ (b ∷ [])) = refl
long_is (a ∷ (b ∷ (c ∷ []))) = refl
long_is (a ∷ (b ∷ (c ∷ (d ∷ rest)))) = refl

second_is : (token : ℕ → CharToken) → ((w : ℕ) → is_short (token w) ≡ false) → (rest : List ℕ) → is_short (with_second token rest) ≡ false
second_is token each [] = refl
second_is token each (w ∷ rest) = each w

token_is : (v : ℕ) (rest : List ℕ) → is_short (token_at v rest) ≡ false
token_is v rest = go (nat_lt v 32) (v == 12) (nat_lt v 247) (nat_lt v 251) (nat_lt v 255)
  where
    go : (code escape small above below : Bool) → is_short (completed
        (if code then (if escape then two (λ w. escaped_code w (escaped_of w)) else whole (plain_code v (command_of v)))
        else (if small then whole (Number (pos v -ℤ pos 139))
        else (if above then two (λ w. Number (pos ((v - 247) * 256 + w + 108)))
        else (if below then two (λ w. Number (neg_ℤ (pos ((v - 251) * 256 + w + 108)))) else five)))) rest) ≡ false
    go true true small above below = second_is (λ w. escaped_code w (escaped_of w)) (λ w. escaped_is w (escaped_of w)) rest
    go true false small above below = plain_is v (command_of v)
    go false escape true above below = refl
    go false escape false true below = second_is _ (λ w. refl) rest
    go false escape false false true = second_is _ (λ w. refl) rest
    go false escape false false false = long_is rest

none_short : (n : ℕ) (bytes : List ℕ) → list_any is_short (tokens_behind n bytes) ≡ false
unfolding tokens_behind
none_short zero [] = refl
none_short (suc n) [] = refl
none_short (suc n) (b ∷ rest) = none_short n rest
none_short zero (v ∷ rest) = rw (token_is v rest) (none_short (more_of v) rest)

short_where : (b : Bool) (bytes : List ℕ) → list_any is_short (if b then Short ∷ (End ∷ []) else tokens_of bytes) ≡ true → b ≡ true
short_where true bytes is = refl
short_where false bytes is = let no : false ≡ true = sym (none_short 0 bytes) ∙ is in cc

short_by : (random : Option ℕ) (code : List ℕ) → list_any is_short (tokens_by random code) ≡ true → (n : ℕ) × ((random ≡ Some n) × (nat_lt (length code) n ≡ true))
short_by None code is = let no : false ≡ true = sym (none_short 0 code) ∙ is in cc
short_by (Some n) code is = (n, (refl, short_where (nat_lt (length code) n) _ is))

shorter : (len_iv : ℤ) (code : List ℕ) → list_any is_short (charstring_tokens len_iv code) ≡ true → pos (length code) <ℤ len_iv
unfolding charstring_tokens
shorter (pos random) code is =
    let some = short_by (Some random) code is in
    let is_same : Some random ≡ Some some.0 = some.1.0 in
    let same : random ≡ some.0 = cc in
    let less = ltb-true (length code) some.0 some.1.1 in
    grind (arith, ints, less, same)
shorter (negsuc n) code is = let some = short_by None code is in let no : None ≡ Some some.0 = some.1.0 in cc

-- ---- each step

-- A token that says so is among those of the charstring.
abbrev IsAmong : FontValue → ℕ → List ℕ → List CharToken → Type 0
IsAmong font glyph path ts = list_any is_short ts ≡ true → list_any is_short (tokens_in font (charstring_at font glyph path)) ≡ true

abbrev IsShortStep : FontValue → ℕ → StepView → Type 0
IsShortStep font glyph step = is_short step.token ≡ true → pos (length (charstring_at font glyph step.path)) <ℤ len_iv_in font

short_steps : (font : FontValue) (glyph place : ℕ) (step : StepView) → slice_get (steps_of font glyph) place ≡ Some step → IsShortStep font glyph step
short_steps font glyph =
    each_step font glyph (IsAmong font glyph) (IsShortStep font glyph) (λ path is. is)
    (λ path t ts other among is. among (rw is (or_true (is_short t))))
    (λ path t ts s among is. shorter (len_iv_in font) (charstring_at font glyph path) (among (rw is refl)))
  where
    or_true : (b : Bool) → (b || true) ≡ true
    or_true true = refl
    or_true false = refl

-- ---- the reason

short_where_broken : (edition : Edition) (components : List Component) (before : List StepView) (step : StepView)
    → breaks (charstring_rules edition components) 26 before step ≡ true → is_short step.token ≡ true
unfolding charstring_rules step_rules argument_rules call_rules path_rules stem_rules flex_rules othersubr_rules seac_rules triple_rules counter_rules component_rules
short_where_broken edition components before step broken =
    sym (row_decides 26 (charstring_rules edition components) 0 _ refl refl refl refl before step) ∙ broken

pub short_are_shorter : ShortCharstringsAreShorter
short_are_shorter font edition glyph zero reason is = let no : None ≡ Some reason = is in cc
short_are_shorter font edition glyph (suc place) reason is =
    among (nat_lt place (limit_of edition)) is
  where
    steps : List StepView
    steps = steps_of font glyph

    components : List Component
    components = components_of (limit_of edition) font

    told : (step : StepView) → slice_get steps place ≡ Some step → (found : Option Reason)
        → step_reason edition components C01 (take place steps) step ≡ found
        → option_map (told_of_step font glyph C01 step) found ≡ Some reason → IsShorter reason
    told step there None found is = let no : None ≡ Some reason = is in cc
    told step there (Some r) found is =
        let short = short_where_broken edition components (take place steps) step
        (broken_where_told (breaks (charstring_rules edition components) 26 (take place steps) step) Nothing r found) in
        let same : Length (length (charstring_at font glyph step.path)) (len_iv_in font) ≡ reason = cc in
        subst IsShorter same (short_steps font glyph place step there short)

    at_step : (step : Option StepView) → slice_get steps place ≡ step → next_reason font glyph edition components C01 (take place steps) step ≡ Some reason
        → IsShorter reason
    at_step None there is = let no : None ≡ Some reason = is in cc
    at_step (Some step) there is = told step there (step_reason edition components C01 (take place steps) step) refl is

    past : (b : Bool) → (if b then limit_reason (limit_of edition) C01 else None) ≡ Some reason → IsShorter reason
    past true is = let no : None ≡ Some reason = is in cc
    past false is = let no : None ≡ Some reason = is in cc

    among : (b : Bool) → (if b then reason_at_place font glyph edition components C01 steps place
        else (if place == limit_of edition && nat_lt place (length steps) then limit_reason (limit_of edition) C01 else None)) ≡ Some reason
        → IsShorter reason
    among true is = at_step (slice_get steps place) refl is
    among false is = past (place == limit_of edition && nat_lt place (length steps)) is
