-- Facts about a table of font rules, each shown of one table by computing a Bool of its keys or its rules.
use Rattle.std.proofs.Common.{◌≡◌, ℕ, ◌<◌, ◌≤◌, ◌==◌, ◌&&◌, ◌||◌, ◌⊎◌, inl, inr, if◌then◌else◌, Bool, true, false, nat_le, nat_lt, List, [], ◌∷◌, ◌++◌, refl, sym, ap, subst, ◌∙◌, arith}
use Rattle.std.specs.List.{list_all}
use Rattle.std.proofs.Math.Bool.{and-false, or-false}
use Rattle.std.proofs.lemmas.Bool.{ne_eqb, eqb-true, leb-true, ltb-true}
use Rattle.std.proofs.lemmas.List.Folds.{list_any-append}
use Rattle.t1_char.specs.Editions.{has_later_rules, has_latest_rules}
use Rattle.t1_char.specs.declared.edition.Edition.{Edition}
use Rattle.t1_char.specs.declared.edition.Edition.TheVariants.{Four, One, Three, Two}
use Rattle.t1_font.specs.Fonts.{FontValue}
use Rattle.t1_font.specs.declared.key.Key.{Key}
use Rattle.t1_font.specs.declared.key.Key.TheVariants.{FontType, PaintType, UniqueId, PrivateUniqueId, Password, MinFeature, LenIv}
use Rattle.t1_rules.specs.declared.keys.KeyKind.{KeyKind}
use Rattle.t1_rules.specs.declared.keys.KeyKind.TheVariants.{File, Encoding, Subrs, CharStrings}
use Rattle.t1_rules.specs.declared.mask.Mask.{Mask}
use Rattle.t1_rules.specs.declared.rule.Rule.{Rule}
use Rattle.t1_rules.specs.Book.{number_of, last_number, last_number_before, last_number_of_third}
use Rattle.t1_rules.specs.Mask.{has}
use Rattle.t1_rules.specs.Private.KeyTests.{broken_among}
use Rattle.t1_rules.specs.Laws.FontRules.{BrokenIsInTheBook, EarlierEditionsKnowNoLaterRule, FirstThreeKnowNoLatestRule, FourthAgreesWithThird, LaterRulesChangeNoOther, RuleNumbersAreInOrder}
use Rattle.t1_rules.specs.FontRules.{KeyTest, FontRule, first_font_rules, font_rules, later_font_rules, later_rules_in, latest_font_rules, latest_rules_in, says, violated}
use Rattle.t1_rules.proofs.Lemmas.Book.{both, in_book}
use Rattle.t1_rules.specs.Keys.{key_count, key_number, kind_number}

-- The keys of all tests are less than m.
abbrev pub keys_below : ℕ → List FontRule → Bool
keys_below m rules = list_all (λ r. list_all (λ t. nat_lt t.key m) r.tests) rules

says_none : (m : ℕ) (tests : List KeyTest) → list_all (λ t. nat_lt t.key m) tests ≡ true → (font : FontValue) (key index : ℕ) → m ≤ key
    → says tests font key index ≡ false
says_none m [] below font key index past = refl
says_none m (t ∷ ts) below font key index past =
    let parts = both (nat_lt t.key m) (list_all (λ u. nat_lt u.key m) ts) below in
    let less : t.key < m = ltb-true t.key m parts.0 in
    let other : (key == t.key) ≡ false = ne_eqb key t.key (λ e. omega arith) in
    rw other (says_none m ts parts.1 font key index past)

-- Nothing is broken past the keys of a table.
pub none_at : (m : ℕ) (rules : List FontRule) → keys_below m rules ≡ true → (n : ℕ) (font : FontValue) (key index : ℕ) → m ≤ key
    → violated rules n font key index ≡ false
none_at m [] below n font key index past = refl
none_at m (r ∷ rs) below n font key index past =
    let parts = both (list_all (λ t. nat_lt t.key m) r.tests) (keys_below m rs) below in
    rw (says_none m r.tests parts.0 font key index past) (none_at m rs parts.1 n font key index past)

-- What is broken is a rule of the book, whatever the table.
pub number_within : (rules : List FontRule) (n : ℕ) (font : FontValue) (key index : ℕ) → violated rules n font key index ≡ true → (0 < n) × (n ≤ last_number)
number_within [] n font key index broken = let no : false ≡ true = broken in cc
number_within (r ∷ rs) n font key index broken =
    go (says r.tests font key index) (number_of r.rule == n) refl broken (number_within rs n font key index)
  where
    go : (a b : Bool) → (number_of r.rule == n) ≡ b → (a && b || violated rs n font key index) ≡ true
        → (violated rs n font key index ≡ true → (0 < n) × (n ≤ last_number)) → (0 < n) × (n ≤ last_number)
    go false b e some rest = rest some
    go true false e some rest = rest some
    go true true e some rest = let same : number_of r.rule ≡ n = eqb-true (number_of r.rule) n e in rw same at (in_book r.rule)

first_within : keys_below 22 first_font_rules ≡ true
unfolding first_font_rules
first_within = refl

later_within : keys_below key_count later_font_rules ≡ true
unfolding later_font_rules
later_within = refl

latest_within : keys_below key_count latest_font_rules ≡ true
unfolding latest_font_rules
latest_within = refl

-- The rules up to number 70 say nothing of keys past 21.
pub first_past : (key : ℕ) → 22 ≤ key → (font : FontValue) (index n : ℕ) → violated first_font_rules n font key index ≡ false
first_past key past font index n = none_at 22 first_font_rules first_within n font key index past

pub later_past : (key : ℕ) → key_count ≤ key → (font : FontValue) (index n : ℕ) → violated later_font_rules n font key index ≡ false
later_past key past font index n = none_at key_count later_font_rules later_within n font key index past

pub latest_past : (key : ℕ) → key_count ≤ key → (font : FontValue) (index n : ℕ) → violated latest_font_rules n font key index ≡ false
latest_past key past font index n = none_at key_count latest_font_rules latest_within n font key index past

-- What is broken by an edition is broken by one of its three parts.
pub in_parts : (edition : Edition) (n : ℕ) (font : FontValue) (key index : ℕ) → violated (font_rules edition) n font key index
    ≡ (violated first_font_rules n font key index
    || (has_later_rules edition && violated later_font_rules n font key index || has_latest_rules edition && violated latest_font_rules n font key index))
in_parts edition n font key index =
    list_any-append _ first_font_rules (later_rules_in edition ++ latest_rules_in edition)
    ∙ ap (λ b. violated first_font_rules n font key index || b)
    (list_any-append _ (later_rules_in edition) (latest_rules_in edition)
    ∙ ap (λ b. b || violated (latest_rules_in edition) n font key index) (where_there (has_later_rules edition) later_font_rules)
    ∙ ap (λ b. has_later_rules edition && violated later_font_rules n font key index || b) (where_there (has_latest_rules edition) latest_font_rules))
  where
    where_there : (b : Bool) (rules : List FontRule) → violated (if b then rules else []) n font key index ≡ (b && violated rules n font key index)
    where_there true rules = refl
    where_there false rules = refl

-- An edition without the later rules hasn't the latest.
pub latest_are_later : (edition : Edition) → has_later_rules edition ≡ false → has_latest_rules edition ≡ false
latest_are_later One none = refl
latest_are_later Two none = refl
latest_are_later Three none = refl
latest_are_later Four none = none

-- Such an edition breaks just those of the first part.
pub only_first : (edition : Edition) → has_later_rules edition ≡ false → (n : ℕ) (font : FontValue) (key index : ℕ)
    → violated (font_rules edition) n font key index ≡ violated first_font_rules n font key index
only_first edition none n font key index =
    in_parts edition n font key index ∙ rw (none, latest_are_later edition none) (or-false (violated first_font_rules n font key index))

-- No font rule is past the last key.
pub past_last : (edition : Edition) (key : ℕ) → key_count ≤ key → (font : FontValue) (index n : ℕ) → violated (font_rules edition) n font key index ≡ false
past_last edition key past font index n =
    in_parts edition n font key index
    ∙ rw (
      first_past key (omega (arith, past)) font index n,
      later_past key past font index n,
      latest_past key past font index n,
      and-false (has_later_rules edition),
      and-false (has_latest_rules edition),
    ) refl

-- A set that says what the tests of a key say.
pub told_at : (rules : List FontRule) (key own : ℕ) (tests : List (Rule × Bool)) (mask : Mask) (font : FontValue) (index : ℕ) → key ≡ own →
    ((n : ℕ) → has mask n ≡ broken_among tests n) → ((n : ℕ) → violated rules n font own index ≡ broken_among tests n) →
    (n : ℕ) → has mask n ≡ violated rules n font key index
told_at rules key own tests mask font index same told left n = rw same (told n ∙ sym (left n))

pub broken_is_in_the_book : BrokenIsInTheBook
broken_is_in_the_book edition = number_within (font_rules edition)

pub numbers_in_order : RuleNumbersAreInOrder
unfolding first_font_rules later_font_rules latest_font_rules
numbers_in_order = record { first = refl; later = refl; latest = refl }

-- The numbers of the rules of a table are at most this.
abbrev numbers_to : ℕ → List FontRule → Bool
numbers_to most rules = list_all (λ r. nat_le (number_of r.rule) most) rules

-- Of two ways to be so.
either : {A : Type 0} (a b c : Bool) → (b ≡ true → A) → (c ≡ true → A) → (a && b || c) ≡ true → A
either false b c here there some = there some
either true false c here there some = there some
either true true c here there some = here refl

number_to : (most : ℕ) (rules : List FontRule) → numbers_to most rules ≡ true → (n : ℕ) (font : FontValue) (key index : ℕ)
    → violated rules n font key index ≡ true → n ≤ most
number_to most [] few n font key index broken = let no : false ≡ true = broken in cc
number_to most (r ∷ rs) few n font key index broken =
    let parts = both (nat_le (number_of r.rule) most) (numbers_to most rs) few in
    either (says r.tests font key index) (number_of r.rule == n) (violated rs n font key index)
    (λ e. let same : number_of r.rule ≡ n = eqb-true (number_of r.rule) n e in omega (arith, same, leb-true (number_of r.rule) most parts.0))
    (number_to most rs parts.1 n font key index) broken

first_numbers : numbers_to last_number_before first_font_rules ≡ true
unfolding first_font_rules
first_numbers = refl

-- The numbers of the rules of a table are above this.
abbrev numbers_above : ℕ → List FontRule → Bool
numbers_above most rules = list_all (λ r. nat_lt most (number_of r.rule)) rules

number_above : (most : ℕ) (rules : List FontRule) → numbers_above most rules ≡ true → (n : ℕ) (font : FontValue) (key index : ℕ)
    → n ≤ most → violated rules n font key index ≡ false
number_above most [] many n font key index few = refl
number_above most (r ∷ rs) many n font key index few =
    let parts = both (nat_lt most (number_of r.rule)) (numbers_above most rs) many in
    let more : most < number_of r.rule = ltb-true most (number_of r.rule) parts.0 in
    let other : (number_of r.rule == n) ≡ false = ne_eqb (number_of r.rule) n (λ e. omega arith) in
    rw (other, and-false (says r.tests font key index), number_above most rs parts.1 n font key index few) refl

later_numbers : numbers_above last_number_before later_font_rules ≡ true
unfolding later_font_rules
later_numbers = refl

latest_numbers : numbers_above last_number_of_third latest_font_rules ≡ true
unfolding latest_font_rules
latest_numbers = refl

later_to : numbers_to last_number_of_third later_font_rules ≡ true
unfolding later_font_rules
later_to = refl

pub earlier_editions_know_no_later_rule : EarlierEditionsKnowNoLaterRule
earlier_editions_know_no_later_rule edition earlier n font key index broken =
    number_to last_number_before first_font_rules first_numbers n font key index (sym (only_first edition earlier n font key index) ∙ broken)

-- The latest rules change nothing of what is broken up to number 93.
no_latest : (edition : Edition) (n : ℕ) (font : FontValue) (key index : ℕ) → n ≤ last_number_of_third
    → (has_latest_rules edition && violated latest_font_rules n font key index) ≡ false
no_latest edition n font key index few =
    rw (number_above last_number_of_third latest_font_rules latest_numbers n font key index few) (and-false (has_latest_rules edition))

pub later_rules_change_no_other : LaterRulesChangeNoOther
later_rules_change_no_other edition n font key index few =
    let further : n ≤ last_number_of_third = omega (arith, few) in
    in_parts edition n font key index
    ∙ rw (
      number_above last_number_before later_font_rules later_numbers n font key index few,
      and-false (has_later_rules edition),
      no_latest edition n font key index further,
    ) (or-false (violated first_font_rules n font key index))

pub first_three_know_no_latest_rule : FirstThreeKnowNoLatestRule
first_three_know_no_latest_rule edition earlier n font key index broken =
    go (violated first_font_rules n font key index) (has_later_rules edition) refl
    (sym (in_parts edition n font key index ∙ rw earlier refl) ∙ broken)
  where
    later : (b : Bool) → (b && violated later_font_rules n font key index || false) ≡ true → n ≤ last_number_of_third
    later true some =
        number_to last_number_of_third later_font_rules later_to n font key index (sym (or-false (violated later_font_rules n font key index)) ∙ some)
    later false some = let no : false ≡ true = some in cc

    go : (a b : Bool) → violated first_font_rules n font key index ≡ a
        → (a || (b && violated later_font_rules n font key index || false)) ≡ true → n ≤ last_number_of_third
    go true b is some =
        let few : n ≤ last_number_before = number_to last_number_before first_font_rules first_numbers n font key index is in omega (arith, few)
    go false b is some = later b some

pub fourth_agrees_with_third : FourthAgreesWithThird
fourth_agrees_with_third n font key index few =
    in_parts Four n font key index
    ∙ ap (λ b. violated first_font_rules n font key index || (violated later_font_rules n font key index || b)) (no_latest Four n font key index few)
    ∙ sym (in_parts Three n font key index)

-- ---- what a set says of all parts

module _ (edition : Edition) (n : ℕ) (font : FontValue) (kind key index : ℕ) (same : kind ≡ key) (told first : Bool)
    (first_is : first ≡ violated first_font_rules n font kind index) where
  at_key : told ≡ violated (font_rules edition) n font kind index → told ≡ violated (font_rules edition) n font key index
  at_key is = subst (λ k. told ≡ violated (font_rules edition) n font k index) same is

  pub without_later : has_later_rules edition ≡ false → told ≡ first → told ≡ violated (font_rules edition) n font key index
  without_later has is = at_key (is ∙ first_is ∙ sym (only_first edition has n font kind index))

  module _ (later : Bool) (later_is : later ≡ violated later_font_rules n font kind index) (has : has_later_rules edition ≡ true) where
    pub without_latest : has_latest_rules edition ≡ false → told ≡ (first || later) → told ≡ violated (font_rules edition) n font key index
    without_latest none is =
        at_key (is ∙ rw (first_is, later_is) refl
        ∙ ap (λ b. violated first_font_rules n font kind index || b) (sym (or-false (violated later_font_rules n font kind index)))
        ∙ sym (in_parts edition n font kind index ∙ rw (has, none) refl))

    pub with_latest : (latest joined : Bool) → has_latest_rules edition ≡ true → joined ≡ (first || later) → told ≡ (joined || latest)
        → latest ≡ violated latest_font_rules n font kind index → told ≡ violated (font_rules edition) n font key index
    with_latest latest joined all of_two is latest_is =
        at_key (is ∙ rw (of_two, first_is, later_is, latest_is) refl
        ∙ or_assoc (violated first_font_rules n font kind index) (violated later_font_rules n font kind index) (violated latest_font_rules n font kind index)
        ∙ sym (in_parts edition n font kind index ∙ rw (has, all) refl))
      where
        or_assoc : (a b c : Bool) → ((a || b) || c) ≡ (a || (b || c))
        or_assoc true b c = refl
        or_assoc false b c = refl

-- ---- keys of which the later rules, or the latest, don't speak

pub no_latest_rule_of_kind : (kind : KeyKind) → (kind ≡ Subrs) ⊎ (kind ≡ CharStrings) → (n : ℕ) (font : FontValue) (index : ℕ)
    → violated latest_font_rules n font (kind_number kind) index ≡ false
unfolding latest_font_rules
no_latest_rule_of_kind kind (inl is) n font index = rw is refl
no_latest_rule_of_kind kind (inr is) n font index = rw is refl

pub no_later_rule : (k : Key) → (k ≡ FontType) ⊎ ((k ≡ PaintType) ⊎ ((k ≡ UniqueId) ⊎ ((k ≡ PrivateUniqueId) ⊎ ((k ≡ Password) ⊎ ((k ≡ MinFeature)
    ⊎ (k ≡ LenIv)))))) → (n : ℕ) (font : FontValue) (index : ℕ) → violated later_font_rules n font (key_number k) index ≡ false
unfolding later_font_rules
no_later_rule k (inl is) n font index = rw is refl
no_later_rule k (inr (inl is)) n font index = rw is refl
no_later_rule k (inr (inr (inl is))) n font index = rw is refl
no_later_rule k (inr (inr (inr (inl is)))) n font index = rw is refl
no_later_rule k (inr (inr (inr (inr (inl is))))) n font index = rw is refl
no_later_rule k (inr (inr (inr (inr (inr (inl is)))))) n font index = rw is refl
no_later_rule k (inr (inr (inr (inr (inr (inr is)))))) n font index = rw is refl

pub no_later_rule_of_kind : (kind : KeyKind) → (kind ≡ File) ⊎ ((kind ≡ Encoding) ⊎ (kind ≡ CharStrings)) → (n : ℕ) (font : FontValue) (index : ℕ)
    → violated later_font_rules n font (kind_number kind) index ≡ false
unfolding later_font_rules
no_later_rule_of_kind kind (inl is) n font index = rw is refl
no_later_rule_of_kind kind (inr (inl is)) n font index = rw is refl
no_later_rule_of_kind kind (inr (inr is)) n font index = rw is refl
