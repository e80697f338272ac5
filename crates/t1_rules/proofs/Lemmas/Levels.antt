-- Levels and words are one to one.
use Rattle.std.proofs.Common.{◌≡◌, ℕ, Some, None, List, true, inl, inr, refl, subst}
use Rattle.std.proofs.lemmas.Bool.{cases_Bool}
use Rattle.t1_font.specs.Keys.{same_name}
use Rattle.t1_font.proofs.Tables.{name_exact}
use Rattle.t1_rules.specs.declared.level.Level.{Level}
use Rattle.t1_rules.specs.declared.level.Level.TheVariants.{Must, Should, Tidy}
use Rattle.t1_rules.specs.Levels.{level_named, level_text}
use Rattle.t1_rules.specs.Laws.Levels.{LevelsHaveTheirWords}

level_is_found : (level : Level) → level_named (level_text level) ≡ Some level
level_is_found Must = refl
level_is_found Should = refl
level_is_found Tidy = refl

word_of : (word : List ℕ) (here level : Level) → same_name (level_text here) word ≡ true → Some here ≡ Some level → level_text level ≡ word
word_of word here level same found =
    let it : here ≡ level = cc in
    subst (λ x. level_text x ≡ word) it (name_exact.exact (level_text here) word same)

word_is_its : (word : List ℕ) (level : Level) → level_named word ≡ Some level → level_text level ≡ word
word_is_its word level found =
    elim (cases_Bool (same_name (level_text Must) word)) [
      | inl must ↦ word_of word Must level must (rw must at found)
      | inr no_must ↦ (elim (cases_Bool (same_name (level_text Should) word)) [
        | inl should ↦ word_of word Should level should (rw (no_must, should) at found)
        | inr no_should ↦ (elim (cases_Bool (same_name (level_text Tidy) word)) [
          | inl tidy ↦ word_of word Tidy level tidy (rw (no_must, no_should, tidy) at found)
          | inr no_tidy ↦ (let none : None ≡ Some level = rw (no_must, no_should, no_tidy) at found in cc)
        ])
      ])
    ]

pub levels_have_their_words : LevelsHaveTheirWords
levels_have_their_words word level =
    (word_is_its word level, λ its. subst (λ (w : List ℕ). level_named w ≡ Some level) its (level_is_found level))
