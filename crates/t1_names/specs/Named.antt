-- The fonts that words name.
use Rattle.std.specs.Prelude.{◌≡◌, ◌||◌, ℕ, Bool, true, false, not, List, [], ◌∷◌, ◌++◌, Result, filter}
use Rattle.std.specs.List.{flat_map}
use Rattle.t1_names.specs.Folders.{IsBelow}
use Rattle.t1_names.specs.Globs.{Glob, is_excluded}
use Rattle.t1_names.specs.Once.{each_once}
use Rattle.t1_names.specs.Words.{Trims, file_name, is_input}
use Rattle.t1_names.specs.declared.folders.Listing.{Listing}

-- What a word names: fonts, and the folders that weren't searched whole.
pub record Found : Type 0 where
  pub fonts : List (List ℕ)
  pub unsearched : List (List ℕ)

-- A name alone.
abbrev pub alone : List ℕ → Found
alone name = record { fonts = name ∷ []; unsearched = [] }

-- A word that leads to a folder names the fonts below it, another one names a file. Standard input names itself.
pub data StandsFor {F E : Type 0} (IsFolder : F → F → List ℕ → Bool → Type 0) (Lists : F → F → List ℕ → Result Listing E → Type 0) (old new : F)
    (word : List ℕ) (found : Found) : Type 0 where
  itself : is_input word ≡ true → new ≡ old → found ≡ alone word → StandsFor IsFolder Lists old new word found
  a_font :
      (trimmed : List ℕ) → is_input word ≡ false → (after : F) → Trims IsFolder old after word trimmed → IsFolder after new trimmed false
      → found ≡ alone (file_name trimmed) → StandsFor IsFolder Lists old new word found
  a_folder :
      (trimmed : List ℕ) → is_input word ≡ false → (after asked : F) → Trims IsFolder old after word trimmed → IsFolder after asked trimmed true
      → IsBelow Lists asked new trimmed found.fonts found.unsearched → StandsFor IsFolder Lists old new word found

-- What words name, one after another.
pub data EachStandsFor {F E : Type 0} (IsFolder : F → F → List ℕ → Bool → Type 0) (Lists : F → F → List ℕ → Result Listing E → Type 0)
    : F → F → List (List ℕ) → List Found → Type 0 where
  none : (files : F) → EachStandsFor IsFolder Lists files files [] []
  one_more :
      (old between new : F) → (words : List (List ℕ)) → (founds : List Found) → (word : List ℕ) → (found : Found)
      → EachStandsFor IsFolder Lists old between words founds → StandsFor IsFolder Lists between new word found
      → EachStandsFor IsFolder Lists old new (words ++ word ∷ []) (founds ++ found ∷ [])

-- What all words name, one after another.
abbrev pub all_fonts : List Found → List (List ℕ)
all_fonts founds = flat_map (λ found. found.fonts) founds

abbrev pub all_unsearched : List Found → List (List ℕ)
all_unsearched founds = flat_map (λ found. found.unsearched) founds

-- No glob excludes the name. None excludes standard input.
abbrev pub is_included : List Glob → List ℕ → Bool
is_included globs name = is_input name || not (is_excluded globs name)

-- The names that no glob excludes.
abbrev pub included : List Glob → List (List ℕ) → List (List ℕ)
included globs names = filter (is_included globs) names

-- The list that words make: each font once, without those that a glob excludes, and each folder once that wasn't
-- searched whole.
pub record AreNamed {F E : Type 0} (IsFolder : F → F → List ℕ → Bool → Type 0) (Lists : F → F → List ℕ → Result Listing E → Type 0) (old new : F)
    (words : List (List ℕ)) (globs : List Glob) (names unsearched : List (List ℕ)) : Type 0 where
  pub founds : List Found
  pub stand : EachStandsFor IsFolder Lists old new words founds
  pub names_are : names ≡ each_once (included globs (all_fonts founds))
  pub unsearched_are : unsearched ≡ each_once (all_unsearched founds)
