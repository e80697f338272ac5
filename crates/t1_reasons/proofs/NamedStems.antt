-- The stems that reasons name beside one of the step's own.
use Rattle.std.proofs.Common.{◌≡◌, ℕ, zero, suc, ◌+◌, ◌-◌, ◌<◌, ◌≤◌, not, is_some, Bool, true, false, Option, Some, None, option_map, if◌then◌else◌, List, [], ◌∷◌, ◌++◌, append_assoc, length, take, drop, take-append-drop, slice_get, inl, inr, refl, sym, ap, subst, ◌∙◌, arith}
use Rattle.std.proofs.lemmas.List.Elements.{Contains-append_cases, Contains-append_left, Contains-append_right}
use Rattle.std.specs.List.{AllByRecursion, Contains, find, flat_map, list_any, slice_index_or}
use Rattle.t1_char.specs.declared.command.Command.{Command as Commands}
use Rattle.t1_char.specs.declared.command.Command.TheVariants.{Hstem, Hstem3, Vstem, Vstem3}
use Rattle.t1_char.specs.declared.edition.Edition.{Edition}
use Rattle.t1_char.specs.declared.token.CharToken.{CharToken}
use Rattle.t1_char.specs.declared.token.CharToken.TheVariants.{Command}
use Rattle.t1_char.specs.Editions.{has_later_rules}
use Rattle.t1_char.specs.Since.{Test}
use Rattle.t1_char.specs.Steps.{StepView, numbered}
use Rattle.t1_font.specs.Fonts.{after_last}
use Rattle.t1_rules.specs.declared.rule.Rule.{Rule}
use Rattle.t1_rules.specs.declared.rule.Rule.TheVariants.{H02, H06, H07}
use Rattle.t1_rules.specs.declared.step_rules.stems.Stem.{Stem}
use Rattle.t1_rules.specs.StepRules.{argument_rules, breaks, call_rules, charstring_rules, component_rules, counter_rules, flex_rules, othersubr_rules, path_rules, seac_rules, stem_rules, step_rules, triple_rules}
use Rattle.t1_rules.specs.StepRules.Stems.{lies_across, most_stems, stands_upright, stem_at, stems_in, stems_of}
use Rattle.t1_rules.specs.StepRules.Tokens.{is_command}
use Rattle.t1_rules.specs.StepRules.Triples.{came, is_hstem, is_hstem3, is_vstem, is_vstem3, stands_beside, triple_of}
use Rattle.t1_rules.proofs.Lemmas.Book.{both}
use Rattle.t1_rules.proofs.Lemmas.StepRules.{row_decides}
use Rattle.t1_reasons.specs.declared.background.SetTriple.{SetTriple}
use Rattle.t1_reasons.specs.declared.reason.Reason.{Reason}
use Rattle.t1_reasons.specs.declared.reason.Reason.TheVariants.{Stems}
use Rattle.t1_reasons.specs.declared.reason.SetStem.{SetStem}
use Rattle.t1_reasons.specs.Backgrounds.{background_of, first_stem, set_three}
use Rattle.t1_reasons.specs.Carried.{carried_from, last_on, last_such, last_told, last_told_on}
use Rattle.t1_reasons.specs.HintSets.{all_set_at, replaces, set_at, set_by, stems_set}
use Rattle.t1_reasons.specs.Laws.{IsLastOf, IsLastSuch}
use Rattle.t1_reasons.specs.NamedStems.{AreInOnePlace, AreOfOneSet, IsSetAt, NamedStemsAreSet, NamesOfOther, NamesOfSet, NamesOfThree, NamesStem, is_other_command, is_same_command, names_stem}
use Rattle.t1_reasons.specs.declared.step_reasons.PairFlaw.TheVariants.{Overlap}
use Rattle.t1_reasons.specs.StepReasons.{beside, beside_last, beside_last_of, beside_one, first_of_three, have_other_edges, in_edition, is_any, is_flawed_pair, last_of_other, only_where, own_stems, pairs, pairs_with, step_reason, stems_at, three_beside, threes_at}
use Rattle.t1_reasons.proofs.EachStep.{all_append}
use Rattle.t1_reasons.proofs.LastCommands.{told_where_it_came}
use Rattle.t1_reasons.proofs.LastSteps.{told_steps_are_the_last}
use Rattle.t1_reasons.proofs.NamedSteps.{there}

-- ---- what holds of all

all_found : (P : Reason → Type 0) (p : Reason → Bool) (xs : List Reason) → AllByRecursion P xs → (x : Reason) → find p xs ≡ Some x → P x
all_found P p [] all x is = let no : None ≡ Some x = is in cc
all_found P p (y ∷ ys) all x is = go (p y) refl is (all_found P p ys all.1 x)
  where
    go : (b : Bool) → p y ≡ b → find p (y ∷ ys) ≡ Some x → (find p ys ≡ Some x → P x) → P x
    go true here is rest = let same : Some y ≡ Some x = rw here at is in let alike : y ≡ x = cc in subst P alike all.0
    go false here is rest = rest (rw here at is)

all_weaker : {A : Type 0} (P Q : A → Type 0) → ((x : A) → P x → Q x) → (xs : List A) → AllByRecursion P xs → AllByRecursion Q xs
all_weaker P Q weaker [] all = tt
all_weaker P Q weaker (x ∷ xs) all = (weaker x all.0, all_weaker P Q weaker xs all.1)

all_contained : {A : Type 0} (P : A → Type 0) (xs : List A) → ((x : A) → Contains xs x → P x) → AllByRecursion P xs
all_contained P [] each = tt
all_contained P (x ∷ xs) each = (
  each x (Contains-append_left (x ∷ []) xs x (0, omega arith, refl)),
  all_contained P xs (λ y in_rest. each y (Contains-append_right (x ∷ []) xs y in_rest)),
)

pub none_in : {A : Type 0} {B : Type 0} (x : A) → Contains [] x → B
none_in x some = let none : 0 ≤ some.0 = omega arith in absurd (omega (arith, some.1))

pub one_is : {A : Type 0} (x y : A) → Contains (x ∷ []) y → x ≡ y
one_is x y some = go some.0 some.1 some.2
  where
    go : (k : ℕ) → k < 1 → slice_index_or (x ∷ []) k y ≡ y → x ≡ y
    go zero less is = is
    go (suc k) less is = absurd (omega (arith, less))

-- ---- the step that set a stem

-- Stems with the number of one step.
of_step : (n : ℕ) (stems : List Stem) (y : SetStem) → Contains (all_set_at n stems) y → (y.step ≡ n) × Contains stems y.stem
of_step n [] y some = none_in y some
of_step n (s ∷ ss) y some = elim (Contains-append_cases (set_at n s ∷ []) (all_set_at n ss) y some) [
  | inl here ↦
      let same : set_at n s ≡ y = one_is (set_at n s) y here in
      (ap (λ (t : SetStem). t.step) (sym same), Contains-append_left (s ∷ []) ss y.stem (0, omega arith, ap (λ (t : SetStem). t.stem) same))
  | inr later ↦ let rest = of_step n ss y later in (rest.0, Contains-append_right (s ∷ []) ss y.stem rest.1)
]

-- The same of some steps, whose first one has this number.
record IsSetFrom (direction : Commands → Bool) (n : ℕ) (ss : List StepView) (set : SetStem) : Type 0 where
  place : ℕ
  step : StepView
  number_is : set.step ≡ n + place
  there : slice_get ss place ≡ Some step
  sets : Contains (stems_in direction step) set.stem

set_from : (direction : Commands → Bool) (n : ℕ) (ss : List StepView) (y : SetStem) → Contains (flat_map (set_by direction) (numbered n ss)) y
    → IsSetFrom direction n ss y
set_from direction n [] y some = none_in y some
set_from direction n (s ∷ ss) y some =
    elim (Contains-append_cases (all_set_at n (stems_in direction s)) (flat_map (set_by direction) (numbered (n + 1) ss)) y some) [
      | inl here ↦
          let own = of_step n (stems_in direction s) y here in
          record { place = 0; step = s; number_is = own.0 ∙ omega arith; there = refl; sets = own.1 }
      | inr later ↦
          let rest = set_from direction (n + 1) ss y later in
          record { place = suc rest.place; step = rest.step; number_is = rest.number_is ∙ omega arith; there = rest.there; sets = rest.sets }
    ]

there_before : (ss : List StepView) (t s : StepView) (k : ℕ) → slice_get ss k ≡ Some s → slice_get (ss ++ t ∷ []) k ≡ Some s
there_before [] t s k is = let no : None ≡ Some s = is in cc
there_before (u ∷ us) t s zero is = is
there_before (u ∷ us) t s (suc k) is = there_before us t s k is

there_last : (ss : List StepView) (t : StepView) → slice_get (ss ++ t ∷ []) (length ss) ≡ Some t
there_last [] t = refl
there_last (u ∷ us) t = there_last us t

in_after_last : {A B : Type 0} (f : A → List B) (a : A → Bool) (xs : List A) (y : B) → Contains (flat_map f (after_last a xs)) y → Contains (flat_map f xs) y
in_after_last f a [] y some = some
in_after_last f a (x ∷ xs) y some = go (list_any a xs) (a x) some (in_after_last f a xs y)
  where
    go : (later here : Bool) → Contains (flat_map f (if later then after_last a xs else (if here then xs else x ∷ xs))) y
        → (Contains (flat_map f (after_last a xs)) y → Contains (flat_map f xs) y) → Contains (flat_map f (x ∷ xs)) y
    go true here some rest = Contains-append_right (f x) (flat_map f xs) y (rest some)
    go false true some rest = Contains-append_right (f x) (flat_map f xs) y some
    go false false some rest = some

in_take : {A : Type 0} (n : ℕ) (xs : List A) (y : A) → Contains (take n xs) y → Contains xs y
in_take n xs y some = subst (λ all. Contains all y) (take-append-drop n xs) (Contains-append_left (take n xs) (drop n xs) y some)

-- ---- stems of a direction

module _ (direction : Commands → Bool) (before : List StepView) (step : StepView) (is : is_command direction step.token ≡ true) where
  abbrev IsOwn : SetStem → Type 0
  IsOwn y = Contains (stems_in direction step) y.stem

  record IsOther (y : SetStem) : Type 0 where
    set : IsSetAt direction (before ++ step ∷ []) y
    kept : Contains (stems_set direction before ++ own_stems before step) y

  own : (y : SetStem) → Contains (own_stems before step) y → IsOwn y
  own y some = rw is (of_step (length before + 1) (stems_of step) y some).1

  own_other : (y : SetStem) → Contains (own_stems before step) y → IsOther y
  own_other y some = record {
    set = record {
      place = length before;
      step = step;
      number_is = (of_step (length before + 1) (stems_of step) y some).0;
      there = there_last before step;
      sets = own y some;
    };
    kept = Contains-append_right (stems_set direction before) (own_stems before step) y some;
  }

  kept_other : (y : SetStem) → Contains (stems_set direction before) y → IsOther y
  kept_other y some =
      let at = set_from direction 1 before y
      (in_after_last (set_by direction) replaces (numbered 1 before) y
      (in_take most_stems (flat_map (set_by direction) (after_last replaces (numbered 1 before))) y some)) in
      record {
        set = record {
          place = at.place;
          step = at.step;
          number_is = at.number_is ∙ omega arith;
          there = there_before before step at.step at.place at.there;
          sets = at.sets;
        };
        kept = Contains-append_left (stems_set direction before) (own_stems before step) y some;
      }

  abbrev Names : Reason → Type 0
  Names (Stems one other) = AreOfOneSet direction before step one other
  Names _ = ⊥

  beside_named : (y : SetStem) → IsOwn y → (others : List SetStem) → AllByRecursion IsOther others → AllByRecursion Names (beside y.stem others)
  beside_named y y_own [] all = tt
  beside_named y y_own (other ∷ others) all =
      (record { own_is = y_own; other_is = all.0.set; kept = all.0.kept }, beside_named y y_own others all.1)

  flat_named : (stems kept : List SetStem) → AllByRecursion IsOwn stems → AllByRecursion IsOther kept
      → AllByRecursion Names (flat_map (λ y. beside y.stem kept) stems)
  flat_named [] kept owns all = tt
  flat_named (y ∷ stems) kept owns all =
      all_append Names (beside y.stem kept) (flat_map (λ z. beside z.stem kept) stems) (beside_named y owns.0 kept all) (flat_named stems kept owns.1 all)

  pairs_named : (stems : List SetStem) → AllByRecursion IsOwn stems → AllByRecursion IsOther stems → AllByRecursion Names (pairs stems)
  pairs_named [] owns all = tt
  pairs_named (y ∷ stems) owns all =
      all_append Names (beside y.stem stems) (pairs stems) (beside_named y owns.0 stems all.1) (pairs_named stems owns.1 all.1)

  along_named : AllByRecursion Names (pairs_with (own_stems before step) (stems_set direction before))
  along_named =
      let owns = all_contained IsOwn (own_stems before step) own in
      all_append Names (flat_map (λ y. beside y.stem (stems_set direction before)) (own_stems before step)) (pairs (own_stems before step))
      (flat_named (own_stems before step) (stems_set direction before) owns (all_contained IsOther (stems_set direction before) kept_other))
      (pairs_named (own_stems before step) owns (all_contained IsOther (own_stems before step) own_other))

set_named : (before : List StepView) (step : StepView) → AllByRecursion (NamesOfSet before step) (stems_at before step)
set_named before step = go (is_command lies_across step.token) refl (is_command stands_upright step.token) refl
  where
    across_is : (is : is_command lies_across step.token ≡ true) (r : Reason) → Names lies_across before step is r → NamesOfSet before step r
    across_is is (Stems one other) named = inl named
    across_is is _ named = absurd named

    upright_is : (is : is_command stands_upright step.token ≡ true) (r : Reason) → Names stands_upright before step is r → NamesOfSet before step r
    upright_is is (Stems one other) named = inr named
    upright_is is _ named = absurd named

    go : (across : Bool) → is_command lies_across step.token ≡ across → (upright : Bool) → is_command stands_upright step.token ≡ upright
        → AllByRecursion (NamesOfSet before step) (if across then pairs_with (own_stems before step) (stems_set lies_across before)
        else (if upright then pairs_with (own_stems before step) (stems_set stands_upright before) else []))
    go true is upright u =
        all_weaker (Names lies_across before step is) (NamesOfSet before step) (across_is is) (pairs_with (own_stems before step) (stems_set lies_across before))
        (along_named lies_across before step is)
    go false is true u =
        all_weaker (Names stands_upright before step u) (NamesOfSet before step) (upright_is u)
        (pairs_with (own_stems before step) (stems_set stands_upright before)) (along_named stands_upright before step u)
    go false is false u = tt

-- ---- the last command of a kind

module _ {A : Type 0} (kind : CharToken → Bool) (tell : ℕ → StepView → A) where
  abbrev is_such : Test
  is_such before s = kind s.token

  -- What is told of a step by its number.
  abbrev told_of : List StepView → Option ℕ → Option A
  told_of steps None = None
  told_of steps (Some number) = option_map (tell number) (slice_get steps (number - 1))

  told_from : (front ss : List StepView) (last : Option ℕ)
      → carried_from (last_told_on kind tell) (told_of (front ++ ss) last) front ss ≡ told_of (front ++ ss) (carried_from (last_on is_such) last front ss)
  told_from front [] last = refl
  told_from front (s ∷ ss) last =
      ap (λ told. carried_from (last_told_on kind tell) told (front ++ s ∷ []) ss) (here (kind s.token))
      ∙ ap (λ all. carried_from (last_told_on kind tell) (told_of all next) (front ++ s ∷ []) ss) (sym (append_assoc front (s ∷ []) ss))
      ∙ told_from (front ++ s ∷ []) ss next
      ∙ ap (λ all. told_of all (carried_from (last_on is_such) next (front ++ s ∷ []) ss)) (append_assoc front (s ∷ []) ss)
    where
      next : Option ℕ
      next = if kind s.token then Some (length front + 1) else last

      here : (b : Bool) → (if b then Some (tell (length front + 1) s) else told_of (front ++ s ∷ ss) last)
          ≡ told_of (front ++ s ∷ ss) (if b then Some (length front + 1) else last)
      here true = ap (option_map (tell (length front + 1))) (sym (there front s ss))
      here false = refl

  last_is : (before : List StepView) (x : A) → last_told kind tell before ≡ Some x
      → (n : ℕ) × ((last : IsLastSuch is_such before n) × (tell n last.step ≡ x))
  last_is before x some = go (last_such is_such before) (told_steps_are_the_last is_such before) (sym (told_from [] before None) ∙ some)
    where
      go : (found : Option ℕ) → IsLastOf is_such before found → told_of before found ≡ Some x
          → (n : ℕ) × ((last : IsLastSuch is_such before n) × (tell n last.step ≡ x))
      go None last is = let no : None ≡ Some x = is in cc
      go (Some n) last is =
          let place : n - 1 ≡ last.place = omega (arith, last.number_is) in
          let at : slice_get before (n - 1) ≡ Some last.step = ap (slice_get before) place ∙ last.there in
          let whole : Some (tell n last.step) ≡ Some x = sym (ap (option_map (tell n)) at) ∙ is in
          let same : tell n last.step ≡ x = cc in
          (n, (last, same))

-- ---- stems in one place

threes_named : (before : List StepView) (step : StepView) → AllByRecursion (NamesOfThree step.token before step) (threes_at before step)
threes_named before step = go step.token
  where
    named : (token : CharToken) (last : Option SetTriple) → last_told (is_same_command token) set_three before ≡ last
        → AllByRecursion (NamesOfThree token before step) (beside_last (triple_of step) last)
    named token None told = tt
    named token (Some t) told =
        let found = last_is (is_same_command token) set_three before t told in
        subst (λ u. AllByRecursion (NamesOfThree token before step) (three_beside (triple_of step) u)) found.1.1 (
          (0, ((0, omega arith, refl), record { own_is = refl; last = found.1.0; other_is = refl })),
          (
            (2, ((1, omega arith, refl), record { own_is = refl; last = found.1.0; other_is = refl })),
            ((4, ((2, omega arith, refl), record { own_is = refl; last = found.1.0; other_is = refl })), tt),
          ),
        )

    go : (token : CharToken) → AllByRecursion (NamesOfThree token before step) (beside_last_of token before (triple_of step))
    go (Command Hstem3) = named (Command Hstem3) (last_told is_hstem3 set_three before) refl
    go (Command Vstem3) = named (Command Vstem3) (last_told is_vstem3 set_three before) refl
    go _ = tt

later_named : (P : Reason → Type 0) (edition : Edition) (xs : List Reason) → AllByRecursion P xs → AllByRecursion P (in_edition edition xs)
later_named P edition xs all = go (has_later_rules edition)
  where
    go : (b : Bool) → AllByRecursion P (if b then xs else [])
    go true = all
    go false = tt

-- Where a command stands beside the other one, that came.
others_came : (before : List StepView) (token : CharToken) → stands_beside token before ≡ true
    → is_some (last_of_other token (background_of before)) ≡ true
others_came before token beside = go token beside
  where
    first : (three : Option SetTriple) → is_some (first_of_three three) ≡ is_some three
    first None = refl
    first (Some t) = refl

    go : (token : CharToken) → stands_beside token before ≡ true → is_some (last_of_other token (background_of before)) ≡ true
    go (Command Hstem) beside =
        first (last_told is_hstem3 set_three before) ∙ told_where_it_came is_hstem3 set_three before
        ∙ (both (not (came is_hstem before)) (came is_hstem3 before) beside).1
    go (Command Hstem3) beside = told_where_it_came is_hstem first_stem before ∙ (both (not (came is_hstem3 before)) (came is_hstem before) beside).1
    go (Command Vstem) beside =
        first (last_told is_vstem3 set_three before) ∙ told_where_it_came is_vstem3 set_three before
        ∙ (both (not (came is_vstem before)) (came is_vstem3 before) beside).1
    go (Command Vstem3) beside = told_where_it_came is_vstem first_stem before ∙ (both (not (came is_vstem3 before)) (came is_vstem before) beside).1
    go _ beside = let no : false ≡ true = beside in cc

module _ (before : List StepView) (step : StepView) (other : SetStem) where
  abbrev IsFirst : (CharToken → Bool) → Type 0
  IsFirst kind = AreInOnePlace kind 0 before step (stem_at step.stack 0) other

  of_one : (kind : CharToken → Bool) → last_told kind first_stem before ≡ Some other → IsFirst kind
  of_one kind is =
      let found = last_is kind first_stem before other is in
      subst (λ o. AreInOnePlace kind 0 before step (stem_at step.stack 0) o) found.1.1 (record { own_is = refl; last = found.1.0; other_is = refl })

  of_three : (kind : CharToken → Bool) (three : Option SetTriple) → last_told kind set_three before ≡ three → first_of_three three ≡ Some other → IsFirst kind
  of_three kind None told is = let no : None ≡ Some other = is in cc
  of_three kind (Some t) told is =
      let found = last_is kind set_three before t told in
      let first : set_at t.step t.triple.one ≡ other = cc in
      subst (λ o. AreInOnePlace kind 0 before step (stem_at step.stack 0) o) (ap (λ (u : SetTriple). set_at u.step u.triple.one) found.1.1 ∙ first)
      (record { own_is = refl; last = found.1.0; other_is = refl })

  other_named : (token : CharToken) → last_of_other token (background_of before) ≡ Some other → IsFirst (is_other_command token)
  other_named (Command Hstem) is = of_three is_hstem3 (last_told is_hstem3 set_three before) refl is
  other_named (Command Hstem3) is = of_one is_hstem is
  other_named (Command Vstem) is = of_three is_vstem3 (last_told is_vstem3 set_three before) refl is
  other_named (Command Vstem3) is = of_one is_vstem is
  other_named _ is = let no : None ≡ Some other = is in cc

first_named : (before : List StepView) (step : StepView) (b : Bool) (other : Option SetStem) (reason : Reason)
    → last_of_other step.token (background_of before) ≡ other → (b ≡ true → is_some other ≡ true)
    → find is_any (only_where b (beside_one (stem_at step.stack 0) other)) ≡ Some reason → NamesOfOther step.token before step reason
first_named before step false other reason told came is = let no : None ≡ Some reason = is in cc
first_named before step true None reason told came is = let no : false ≡ true = came refl in cc
first_named before step true (Some o) reason told came is =
    let same : Stems (stem_at step.stack 0) o ≡ reason = cc in
    subst (NamesOfOther step.token before step) same (other_named before step o step.token told)

pub named_stems : NamedStemsAreSet
unfolding charstring_rules step_rules argument_rules call_rules path_rules stem_rules flex_rules othersubr_rules seac_rules triple_rules counter_rules component_rules
named_stems edition components rule before step reason names is = go rule names is
  where
    beside_other : breaks (charstring_rules edition components) 87 before step ≡ true → stands_beside step.token before ≡ true
    beside_other broken =
        (both (has_later_rules edition) (stands_beside step.token before)
        (sym (row_decides 87 (charstring_rules edition components) 40 _ refl refl refl refl before step) ∙ broken)).1

    go : (r : Rule) → names_stem r ≡ true → step_reason edition components r before step ≡ Some reason → NamesStem r before step reason
    go H02 names is = all_found (NamesOfSet before step) (is_flawed_pair (Overlap edition)) (stems_at before step) (set_named before step) reason is
    go H06 names is =
        first_named before step (breaks (charstring_rules edition components) 87 before step) (last_of_other step.token (background_of before)) reason refl
        (λ broken. others_came before step.token (beside_other broken)) is
    go H07 names is =
        all_found (NamesOfThree step.token before step) have_other_edges (in_edition edition (threes_at before step))
        (later_named (NamesOfThree step.token before step) edition (threes_at before step) (threes_named before step)) reason is
    go _ names is = let no : false ≡ true = names in cc
