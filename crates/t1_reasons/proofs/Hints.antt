-- Hint sets, one step further, and beside those of the rule book.
use Rattle.std.proofs.Common.{◌≡◌, ℕ, zero, suc, ◌+◌, ◌||◌, Bool, true, false, if◌then◌else◌, List, [], ◌∷◌, ◌++◌, append-nil, length, map, take, flat_map, refl, sym, ap, ◌∙◌, arith}
use Rattle.std.specs.List.{list_any}
use Rattle.std.proofs.lemmas.Grind.{flat_map-append}
use Rattle.t1_char.specs.declared.command.Command.{Command as Commands}
use Rattle.t1_char.specs.Arguments.{is_hint_replacement}
use Rattle.t1_char.specs.Steps.{NumberedStep, StepView, numbered}
use Rattle.t1_font.specs.Fonts.{after_last}
use Rattle.t1_rules.specs.declared.step_rules.stems.Stem.{Stem}
use Rattle.t1_rules.specs.StepRules.Stems.{hint_set, stems_in, stems_of}
use Rattle.t1_rules.specs.StepRules.Tokens.{is_command}
use Rattle.t1_rules.proofs.Lemmas.Before.{take_more}
use Rattle.t1_reasons.specs.declared.hint_sets.HintSets.{HintSets}
use Rattle.t1_reasons.specs.declared.reason.SetStem.{SetStem}
use Rattle.t1_reasons.specs.HintSets.{all_set_at, replaces, set_by, stems_set}
use Rattle.t1_reasons.specs.Standing.{HintsStandFor, set_after}

pub numbered_more : (n : ℕ) (before : List StepView) (t : StepView)
    → numbered n (before ++ t ∷ []) ≡ numbered n before ++ record { number = length before + n; step = t } ∷ []
numbered_more n [] t = ap (λ (m : ℕ). record { number = m; step = t } ∷ []) (let same : n ≡ 0 + n = omega arith in same)
numbered_more n (s ∷ ss) t =
    let count : length ss + (n + 1) ≡ suc (length ss) + n = omega arith in
    ap (λ more. record { number = n; step = s } ∷ more)
    (numbered_more (n + 1) ss t ∙ ap (λ (m : ℕ). numbered (n + 1) ss ++ record { number = m; step = t } ∷ []) count)

any_append : {A : Type 0} (a : A → Bool) (ss : List A) (t : A) → list_any a (ss ++ t ∷ []) ≡ (list_any a ss || a t)
any_append a [] t = grind arith
any_append a (s ∷ ss) t = grind (arith, any_append a ss t)

after_append : {A : Type 0} (a : A → Bool) (ss : List A) (t : A) → after_last a (ss ++ t ∷ []) ≡ (if a t then [] else after_last a ss ++ t ∷ [])
after_append a [] t = grind arith
after_append a (s ∷ ss) t = grind (arith, any_append a ss t, after_append a ss t)

stems_go_on : (direction : Commands → Bool) (before : List StepView) (t : StepView)
    → stems_set direction (before ++ t ∷ []) ≡ set_after direction (length before + 1) (stems_set direction before) t
stems_go_on direction before t =
    ap (λ steps. take 96 (flat_map (set_by direction) (after_last replaces steps))) (numbered_more 1 before t)
    ∙ ap (λ steps. take 96 (flat_map (set_by direction) steps)) (after_append replaces (numbered 1 before) last)
    ∙ go (is_hint_replacement t)
  where
    last : NumberedStep
    last = record { number = length before + 1; step = t }

    kept : List NumberedStep
    kept = after_last replaces (numbered 1 before)

    more : (b : Bool) → take 96 (flat_map (set_by direction) kept ++ (all_set_at (length before + 1) (if b then stems_of t else []) ++ []))
        ≡ (if b then take 96 (take 96 (flat_map (set_by direction) kept) ++ all_set_at (length before + 1) (stems_of t)) else take 96 (flat_map (set_by direction) kept))
    more true =
        rw (append-nil (all_set_at (length before + 1) (stems_of t)))
        (sym (take_more 96 (flat_map (set_by direction) kept) (all_set_at (length before + 1) (stems_of t))))
    more false = ap (λ stems. take 96 stems) (append-nil (flat_map (set_by direction) kept))

    go : (b : Bool) → take 96 (flat_map (set_by direction) (if b then [] else kept ++ last ∷ []))
        ≡ (if b then [] else (if is_command direction t.token then take 96 (take 96 (flat_map (set_by direction) kept)
        ++ all_set_at (length before + 1) (stems_of t)) else take 96 (flat_map (set_by direction) kept)))
    go true = refl
    go false = ap (λ stems. take 96 stems) (flat_map-append (set_by direction) kept (last ∷ [])) ∙ more (is_command direction t.token)

-- What is kept after a step, by what was kept before it.
pub one_step_more : (old new : HintSets) (before : List StepView) (t : StepView) → HintsStandFor old before
    → new.across.items ≡ set_after Rattle.t1_rules.specs.StepRules.Stems.lies_across (old.seen + 1) old.across.items t
    → new.upright.items ≡ set_after Rattle.t1_rules.specs.StepRules.Stems.stands_upright (old.seen + 1) old.upright.items t
    → new.seen ≡ old.seen + 1 → HintsStandFor new (before ++ t ∷ [])
one_step_more old new before t st across upright seen = record {
  across = across ∙ rw (st.seen, st.across) (sym (stems_go_on _ before t));
  upright = upright ∙ rw (st.seen, st.upright) (sym (stems_go_on _ before t));
  seen = seen ∙ rw st.seen (counted before);
}
  where
    counted : (steps : List StepView) → length steps + 1 ≡ length (steps ++ t ∷ [])
    counted [] = refl
    counted (s ∷ ss) = let more = counted ss in omega arith

-- ---- the stems alone

abbrev pub plain : List SetStem → List Stem
plain stems = map (λ s. s.stem) stems

pub plain_set : (number : ℕ) (stems : List Stem) → plain (all_set_at number stems) ≡ stems
plain_set number [] = refl
plain_set number (stem ∷ stems) = ap (λ more. stem ∷ more) (plain_set number stems)

abbrev steps_alone : List NumberedStep → List StepView
steps_alone steps = map (λ s. s.step) steps

alone : (n : ℕ) (before : List StepView) → steps_alone (numbered n before) ≡ before
alone n [] = refl
alone n (s ∷ ss) = ap (λ more. s ∷ more) (alone (n + 1) ss)

any_alone : (steps : List NumberedStep) → list_any replaces steps ≡ list_any is_hint_replacement (steps_alone steps)
any_alone [] = refl
any_alone (s ∷ ss) = ap (λ b. replaces s || b) (any_alone ss)

after_alone : (steps : List NumberedStep) → steps_alone (after_last replaces steps) ≡ after_last is_hint_replacement (steps_alone steps)
after_alone [] = refl
after_alone (s ∷ ss) = rw (← any_alone ss) (go (list_any replaces ss) (replaces s) (after_alone ss))
  where
    go : (b c : Bool) → steps_alone (after_last replaces ss) ≡ after_last is_hint_replacement (steps_alone ss)
        → steps_alone (if b then after_last replaces ss else (if c then ss else s ∷ ss))
        ≡ (if b then after_last is_hint_replacement (steps_alone ss) else (if c then steps_alone ss else s.step ∷ steps_alone ss))
    go true c rest = rest
    go false true rest = refl
    go false false rest = refl

plain_append : (xs ys : List SetStem) → plain (xs ++ ys) ≡ plain xs ++ plain ys
plain_append [] ys = refl
plain_append (x ∷ xs) ys = ap (λ more. x.stem ∷ more) (plain_append xs ys)

plain_take : (n : ℕ) (xs : List SetStem) → plain (take n xs) ≡ take n (plain xs)
plain_take zero xs = refl
plain_take (suc n) [] = refl
plain_take (suc n) (x ∷ xs) = ap (λ more. x.stem ∷ more) (plain_take n xs)

plain_all : (direction : Commands → Bool) (steps : List NumberedStep)
    → plain (flat_map (set_by direction) steps) ≡ flat_map (stems_in direction) (steps_alone steps)
plain_all direction [] = refl
plain_all direction (s ∷ ss) =
    plain_append (set_by direction s) (flat_map (set_by direction) ss)
    ∙ rw (plain_set s.number (stems_in direction s.step), plain_all direction ss) refl

pub plain_hints : (direction : Commands → Bool) (before : List StepView) → plain (stems_set direction before) ≡ hint_set direction before
plain_hints direction before =
    plain_take 96 (flat_map (set_by direction) (after_last replaces (numbered 1 before)))
    ∙ ap (λ stems. take 96 stems) (plain_all direction (after_last replaces (numbered 1 before))
    ∙ ap (flat_map (stems_in direction)) (after_alone (numbered 1 before) ∙ ap (after_last is_hint_replacement) (alone 1 before)))
