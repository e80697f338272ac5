-- Words that name a font or a folder.
use Rattle.std.specs.Prelude.{◌≡◌, ◌≢◌, ◌==◌, ℕ, Bool, true, false, List, [], ◌∷◌, ◌++◌, if◌then◌else◌, codes}
use Rattle.std.specs.Str.{bytes_eq}

-- The word `-` is standard input.
abbrev pub is_input : List ℕ → Bool
is_input word = bytes_eq word (codes "-")

-- The name of a file in lines. One that is called `-` is `./-`, as `-` is standard input.
abbrev pub file_name : List ℕ → List ℕ
file_name name = if is_input name then codes "./-" else name

-- What is after the leading slashes of a text.
abbrev pub after_slashes : List ℕ → List ℕ
after_slashes [] = []
after_slashes (byte ∷ bytes) = if byte == 47 then after_slashes bytes else byte ∷ bytes

-- Nothing but slashes is after a leading `./`, if there is one.
abbrev pub HasNoFront : List ℕ → Type 0
HasNoFront word = (rest : List ℕ) → word ≡ 46 ∷ 47 ∷ rest → after_slashes rest ≡ []

-- A word that is shortened once, where a system that is asked says which words lead to folders.
pub data Shortens {F : Type 0} (IsFolder : F → F → List ℕ → Bool → Type 0) : F → F → List ℕ → List ℕ → Type 0 where
  -- a leading `./`, and slashes after it, go where something else is after them
  front : (files : F) → (rest : List ℕ) → after_slashes rest ≢ [] → Shortens IsFolder files files (46 ∷ 47 ∷ rest) (after_slashes rest)
  -- else `/` goes from the end, where something is before it and the word leads to a folder
  back :
      (old new : F) → (front : List ℕ) → HasNoFront (front ++ 47 ∷ []) → front ≢ [] → IsFolder old new (front ++ 47 ∷ []) true
      → Shortens IsFolder old new (front ++ 47 ∷ []) front

-- Neither fits. Only of a word with a `/` at its end, and something before it, the system is asked.
pub data IsShort {F : Type 0} (IsFolder : F → F → List ℕ → Bool → Type 0) (old new : F) (word : List ℕ) : Type 0 where
  no_end : HasNoFront word → ((front : List ℕ) → word ≡ front ++ 47 ∷ [] → front ≡ []) → new ≡ old → IsShort IsFolder old new word
  no_folder :
      HasNoFront word → (front : List ℕ) → word ≡ front ++ 47 ∷ [] → front ≢ [] → IsFolder old new word false → IsShort IsFolder old new word

-- A word is shortened until neither fits.
pub data Trims {F : Type 0} (IsFolder : F → F → List ℕ → Bool → Type 0) : F → F → List ℕ → List ℕ → Type 0 where
  short : (old new : F) → (word : List ℕ) → IsShort IsFolder old new word → Trims IsFolder old new word word
  shortened :
      (old between new : F) → (word next trimmed : List ℕ) → Shortens IsFolder old between word next → Trims IsFolder between new next trimmed
      → Trims IsFolder old new word trimmed
