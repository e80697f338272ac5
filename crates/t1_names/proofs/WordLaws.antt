-- Words are trimmed in one way.
use Rattle.std.proofs.Common.{◌≡◌, ℕ, Bool, true, false, List, [], ◌∷◌, ◌++◌, if◌then◌else◌, ⊎_elim, codes, eqb, refl, sym, ap, subst, ◌∙◌}
use Rattle.std.proofs.lemmas.Bool.{and_right, cases_Bool, cond-false, cond-true, eqb-true, true≢false}
use Rattle.std.specs.List.{ends_with}
use Rattle.std.specs.Str.{bytes_eq}
use Rattle.t1_names.proofs.WordLemmas.{fronts_same, tails_same}
use Rattle.t1_names.specs.Laws.{InputIsNoFile, NoDotInFolders, NoDotInPaths, OneTrim, leads_by}
use Rattle.t1_names.specs.Words.{HasNoFront, IsShort, Shortens, Trims, after_slashes, is_input}
use Rattle.t1_names.specs.Words.IsShort.{no_end, no_folder}
use Rattle.t1_names.specs.Words.Shortens.{back, front}
use Rattle.t1_names.specs.Words.Trims.{short, shortened}

no_nil : (byte : ℕ) (bytes : List ℕ) → byte ∷ bytes ≡ [] → ⊥
no_nil byte bytes is = cc

module _ (is_folder : List ℕ → Bool) where
  abbrev IsFolder : Unit {0} → Unit {0} → List ℕ → Bool → Type 0
  IsFolder = leads_by is_folder

  -- what a word is that isn't shortened
  no_front : (old new : Unit {0}) (word : List ℕ) → IsShort IsFolder old new word → HasNoFront word
  no_front old new word (no_end none bare same) = none
  no_front old new word (no_folder none shorter is some leads) = none

  no_back : (old new : Unit {0}) (word : List ℕ) → IsShort IsFolder old new word → (shorter : List ℕ) → word ≡ shorter ++ 47 ∷ [] → (shorter ≡ [] → ⊥)
      → is_folder word ≡ false
  no_back old new word (no_end none bare same) shorter is some = absurd (some (bare shorter is))
  no_back old new word (no_folder none other other_is other_some leads) shorter is some = leads

  -- what shortens a word at its beginning or its end, with what the word is
  data Way (word next : List ℕ) : Type 0 where
    at_front : (rest : List ℕ) → word ≡ 46 ∷ 47 ∷ rest → next ≡ after_slashes rest → (next ≡ [] → ⊥) → Way word next
    at_back : word ≡ next ++ 47 ∷ [] → ((rest : List ℕ) → word ≡ 46 ∷ 47 ∷ rest → after_slashes rest ≡ []) → (next ≡ [] → ⊥) → is_folder word ≡ true → Way word next

  way : (old new : Unit {0}) (word next : List ℕ) → Shortens IsFolder old new word next → Way word next
  way _ _ _ _ (front files rest some) = at_front rest refl refl some
  way _ _ _ _ (back old new shorter none some leads) = at_back refl none some leads

  rests_same : (word one other : List ℕ) → word ≡ 46 ∷ 47 ∷ one → word ≡ 46 ∷ 47 ∷ other → one ≡ other
  rests_same word one other is also = tails_same 47 47 one other (tails_same 46 46 (47 ∷ one) (47 ∷ other) (sym is ∙ also))

  same_next : (word one other : List ℕ) → Way word one → Way word other → one ≡ other
  same_next word one other (at_front rest is next some) (at_front rest' is' next' some') =
      next ∙ ap after_slashes (rests_same word rest rest' is is') ∙ sym next'
  same_next word one other (at_front rest is next some) (at_back is' none some' leads) = absurd (some (next ∙ none rest is))
  same_next word one other (at_back is none some leads) (at_front rest is' next some') = absurd (some' (next ∙ none rest is'))
  same_next word one other (at_back is none some leads) (at_back is' none' some' leads') = fronts_same one other 47 (sym is ∙ is')

  no_way : (old new : Unit {0}) (word next : List ℕ) → IsShort IsFolder old new word → Way word next → ⊥
  no_way old new word next ends (at_front rest is next_is some) = some (next_is ∙ no_front old new word ends rest is)
  no_way old new word next ends (at_back is none some leads) = true≢false (sym leads ∙ no_back old new word ends next is some)

  same_trim : (old new old' new' : Unit {0}) (word one other : List ℕ) → Trims IsFolder old new word one → Trims IsFolder old' new' word other → one ≡ other
  same_trim _ _ _ _ _ _ other (short old new word is) (short old' new' _ is') = refl
  same_trim _ _ _ _ _ _ other (short old new word is) (shortened old' between' new' _ next _ step rest) =
      absurd (no_way old new word next is (way old' between' word next step))
  same_trim _ _ _ _ _ one _ (shortened old between new word next _ step rest) (short old' new' _ is) =
      absurd (no_way old' new' word next is (way old between word next step))
  same_trim _ _ _ _ _ one other (shortened old between new word next _ step rest) (shortened old' between' new' _ next' _ step' rest') =
      same_trim between new between' new' next one other rest
      (subst (λ n. Trims IsFolder between' new' n other)
      (sym (same_next word next next' (way old between word next step) (way old' between' word next' step'))) rest')

  -- nothing more can be taken from a trimmed word
  abbrev Ended : List ℕ → Type 0
  Ended trimmed = HasNoFront trimmed × ((shorter : List ℕ) → trimmed ≡ shorter ++ 47 ∷ [] → (shorter ≡ [] → ⊥) → is_folder trimmed ≡ false)

  end_is_short : (old new : Unit {0}) (word trimmed : List ℕ) → Trims IsFolder old new word trimmed → Ended trimmed
  end_is_short _ _ _ _ (short old new word is) = (no_front old new word is, no_back old new word is)
  end_is_short _ _ _ trimmed (shortened old between new word next _ step rest) = end_is_short between new next trimmed rest

  -- where nothing but slashes is after a `./`, a slash is at the end
  slash_last : (rest : List ℕ) → after_slashes rest ≡ [] → (before : List ℕ) × (47 ∷ rest ≡ before ++ 47 ∷ [])
  slash_last [] none = ([], refl)
  slash_last (byte ∷ rest) none =
      ⊎_elim
      (λ slash.
      let (before, is) = slash_last rest (sym (cond-true (eqb byte 47) (after_slashes rest) (byte ∷ rest) slash) ∙ none) in
      (47 ∷ before, ap (λ l. 47 ∷ l) (ap (λ b. b ∷ rest) (eqb-true byte 47 slash) ∙ is)))
      (λ other. absurd (no_nil byte rest (sym (cond-false (eqb byte 47) (after_slashes rest) (byte ∷ rest) other) ∙ none)))
      (cases_Bool (eqb byte 47))

  no_dot : (old new : Unit {0}) (word trimmed rest : List ℕ) → Trims IsFolder old new word trimmed → is_folder trimmed ≡ true
      → trimmed ≡ 46 ∷ 47 ∷ rest → ⊥
  no_dot old new word trimmed rest trims leads is =
      let ends = end_is_short old new word trimmed trims in
      let (before, slash) = slash_last rest (ends.0 rest is) in
      true≢false (sym leads ∙ ends.1 (46 ∷ before) (is ∙ ap (λ l. 46 ∷ l) slash) (no_nil 46 before))

pub no_dot_in_folders : NoDotInFolders
no_dot_in_folders is_folder old new word trimmed rest trims leads is = no_dot is_folder old new word trimmed rest trims leads is

pub one_trim : OneTrim
one_trim is_folder old new old' new' word one other = same_trim is_folder old new old' new' word one other

pub input_is_no_file : InputIsNoFile
input_is_no_file name =
    ⊎_elim
    (λ input. ap is_input (cond-true (is_input name) (codes "./-") name input))
    (λ other. ap is_input (cond-false (is_input name) (codes "./-") name other) ∙ other)
    (cases_Bool (is_input name))

firsts_same : (a b : ℕ) (xs ys : List ℕ) → a ∷ xs ≡ b ∷ ys → a ≡ b
firsts_same a b xs ys is = cc

begins_as_folder : (a : ℕ) (name rest : List ℕ) (slash : Bool) → (if slash then a ∷ [] else (a ∷ []) ++ 47 ∷ []) ++ name ≡ 46 ∷ rest → a ≡ 46
begins_as_folder a name rest true is = cc
begins_as_folder a name rest false is = cc

begins_as_long_folder : (a b : ℕ) (more name rest : List ℕ) (slash : Bool)
    → (if slash then a ∷ b ∷ more else (a ∷ b ∷ more) ++ 47 ∷ []) ++ name ≡ 46 ∷ 47 ∷ rest → (a ≡ 46) × (b ≡ 47)
begins_as_long_folder a b more name rest true is = (cc, cc)
begins_as_long_folder a b more name rest false is = (cc, cc)

-- the whole name of what is in a folder begins as the folder does, or, in `.`, as the name there
pub no_dot_in_paths : NoDotInPaths
no_dot_in_paths [] name rest folder_has_none name_has_none is = true≢false (sym (ap (λ n. eqb n 46) (firsts_same 47 46 name (47 ∷ rest) is)))
no_dot_in_paths (a ∷ []) name rest folder_has_none name_has_none is =
    let joined : List ℕ = (if ends_with eqb (a ∷ []) (codes "/") then a ∷ [] else (a ∷ []) ++ 47 ∷ []) ++ name in
    ⊎_elim
    (λ dot. name_has_none rest (sym (cond-true (bytes_eq (a ∷ []) (codes ".")) name joined dot) ∙ is))
    (λ other.
    let first : a ≡ 46 =
    begins_as_folder a name (47 ∷ rest) (ends_with eqb (a ∷ []) (codes "/")) (sym (cond-false (bytes_eq (a ∷ []) (codes ".")) name joined other) ∙ is) in
    true≢false (sym (ap (λ n. bytes_eq (n ∷ []) (codes ".")) first) ∙ other))
    (cases_Bool (bytes_eq (a ∷ []) (codes ".")))
no_dot_in_paths (a ∷ b ∷ more) name rest folder_has_none name_has_none is =
    let joined : List ℕ = (if ends_with eqb (a ∷ b ∷ more) (codes "/") then a ∷ b ∷ more else (a ∷ b ∷ more) ++ 47 ∷ []) ++ name in
    let longer : bytes_eq (a ∷ b ∷ more) (codes ".") ≡ false = and_right (eqb a 46) false refl in
    let begins : (a ≡ 46) × (b ≡ 47) =
    begins_as_long_folder a b more name rest (ends_with eqb (a ∷ b ∷ more) (codes "/"))
    (sym (cond-false (bytes_eq (a ∷ b ∷ more) (codes ".")) name joined longer) ∙ is) in
    folder_has_none more (ap (λ n. n ∷ b ∷ more) begins.0 ∙ ap (λ n. 46 ∷ n ∷ more) begins.1)
