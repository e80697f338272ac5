-- Words that get shorter.
use Rattle.std.proofs.Common.{◌≡◌, ℕ, ◌<◌, ◌≤◌, Bool, true, false, List, [], ◌∷◌, ◌++◌, length, arith, eqb, refl, sym, ap, subst, ◌∙◌, length-append}
use Rattle.std.proofs.lemmas.Bool.{cond-false, cond_both, ne_eqb}
use Rattle.t1_names.specs.Words.{HasNoFront, IsShort, Shortens, Trims, after_slashes}
use Rattle.t1_names.specs.Words.IsShort.{no_end as endless, no_folder as no_leading}
use Rattle.t1_names.specs.Words.Shortens.{back, front}

pub after_slashes-same : (text : List ℕ) → ((rest : List ℕ) → text ≡ 47 ∷ rest → ⊥) → after_slashes text ≡ text
after_slashes-same [] none = refl
after_slashes-same (byte ∷ bytes) none =
    cond-false (eqb byte 47) (after_slashes bytes) (byte ∷ bytes) (ne_eqb byte 47 (λ is. none bytes (ap (λ b. b ∷ bytes) is)))

length-after_slashes : (text : List ℕ) → length (after_slashes text) ≤ length text
length-after_slashes [] = omega arith
length-after_slashes (byte ∷ bytes) =
    cond_both (eqb byte 47) (after_slashes bytes) (byte ∷ bytes) (λ l. length l ≤ length (byte ∷ bytes))
    (λ e. omega (arith, length-after_slashes bytes)) (λ e. omega arith)

pub tails_same : (byte other : ℕ) (bytes others : List ℕ) → byte ∷ bytes ≡ other ∷ others → bytes ≡ others
tails_same byte other bytes others is = cc

pub fronts_same : (xs ys : List ℕ) (last : ℕ) → xs ++ last ∷ [] ≡ ys ++ last ∷ [] → xs ≡ ys
fronts_same [] [] last is = refl
fronts_same [] (y ∷ ys) last is = absurd (omega (arith, ap length is, length-append ys (last ∷ [])))
fronts_same (x ∷ xs) [] last is = absurd (omega (arith, ap length is, length-append xs (last ∷ [])))
fronts_same (x ∷ xs) (y ∷ ys) last is =
    let rest : xs ++ last ∷ [] ≡ ys ++ last ∷ [] = cc in
    let first : x ≡ y = cc in
    let same : xs ≡ ys = fronts_same xs ys last rest in cc

-- What trims a shorter word trims the whole one.
abbrev pub GoesOn : {F : Type 0} → (F → F → List ℕ → Bool → Type 0) → F → F → List ℕ → List ℕ → Type 0
GoesOn {F} IsFolder start files word shorter =
    (new : F) → (trimmed : List ℕ) → Trims IsFolder files new shorter trimmed → Trims IsFolder start new word trimmed

module _ {F : Type 0} (IsFolder : F → F → List ℕ → Bool → Type 0) where
  pub at_front : (files : F) (word next rest : List ℕ) → word ≡ 46 ∷ 47 ∷ rest → next ≡ after_slashes rest → (next ≡ [] → ⊥)
      → Shortens IsFolder files files word next × (length next < length word)
  at_front files word next rest word_is next_is some = (
    subst (λ w. Shortens IsFolder files files w next) (sym word_is)
        (subst (λ n. Shortens IsFolder files files (46 ∷ 47 ∷ rest) n) (sym next_is) (front files rest (λ none. some (next_is ∙ none)))),
    omega (arith, ap length word_is, ap length next_is, length-after_slashes rest),
  )

  pub at_back : (old new : F) (word shorter : List ℕ) → HasNoFront word → word ≡ shorter ++ 47 ∷ [] → (shorter ≡ [] → ⊥) → IsFolder old new word true
      → Shortens IsFolder old new word shorter × (length shorter < length word)
  at_back old new word shorter none word_is some leads = (
    subst (λ w. Shortens IsFolder old new w shorter) (sym word_is)
        (back old new shorter (λ rest is. none rest (word_is ∙ is)) some (subst (λ w. IsFolder old new w true) word_is leads)),
    omega (arith, ap length word_is, length-append shorter (47 ∷ [])),
  )

  pub no_end : (files : F) (word : List ℕ) → HasNoFront word → ((shorter : List ℕ) → word ≡ shorter ++ 47 ∷ [] → ⊥)
      → IsShort IsFolder files files word
  no_end files word none bare = endless none (λ shorter is. absurd (bare shorter is)) refl

  pub slash_alone : (files : F) (word shorter : List ℕ) → HasNoFront word → word ≡ shorter ++ 47 ∷ [] → shorter ≡ []
      → IsShort IsFolder files files word
  slash_alone files word shorter none word_is empty = endless none (λ other is. fronts_same other shorter 47 (sym is ∙ word_is) ∙ empty) refl

  pub no_folder : (old new : F) (word shorter : List ℕ) → HasNoFront word → word ≡ shorter ++ 47 ∷ [] → (shorter ≡ [] → ⊥)
      → IsFolder old new word false → IsShort IsFolder old new word
  no_folder old new word shorter none word_is some leads = no_leading none shorter word_is some leads
