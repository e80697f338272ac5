-- The fonts below folders.
use Rattle.std.specs.Prelude.{ℕ, ◌+◌, ◌-◌, ◌<◌, ◌^◌, ◌||◌, Bool, List, [], ◌∷◌, ◌++◌, Ok, Result, if◌then◌else◌, codes, drop, length, map, nat_eq, string_bytes}
use Rattle.std.specs.Char.{to_ascii_lowercase}
use Rattle.std.specs.Cmp.Lexicographic.{slice_cmp}
use Rattle.std.specs.List.{ends_with}
use Rattle.std.specs.List.Sorted.{IsPermutation, IsSorted}
use Rattle.std.specs.Ordering.{nat_cmp}
use Rattle.std.specs.Str.{bytes_eq}
use Rattle.t1_names.specs.declared.folders.FolderEntry.{FolderEntry}
use Rattle.t1_names.specs.declared.folders.FolderEntry.TheVariants.{Folder, Font}
use Rattle.t1_names.specs.declared.folders.Listing.{Listing}

-- The name of a file ends so, in letters of either case.
abbrev pub ends_so : List ℕ → List ℕ → Bool
ends_so name end = bytes_eq (map to_ascii_lowercase (drop (length name - length end) name)) end

-- A file of this name is taken for a font.
abbrev pub is_font_name : List ℕ → Bool
is_font_name name = ends_so name (codes ".pfa") || ends_so name (codes ".pfb") || ends_so name (codes ".t1")

-- The name, from where the search begins, of what has this name in a folder: `.` isn't written, and one slash is
-- between the two.
abbrev pub path_of : List ℕ → List ℕ → List ℕ
path_of folder name =
    if bytes_eq folder (codes ".") then name
    else (if ends_with nat_eq folder (codes "/") then folder else folder ++ 47 ∷ []) ++ name

-- The folders in a folder, and the fonts in it.
abbrev pub folders_in : List ℕ → List FolderEntry → List (List ℕ)
folders_in folder [] = []
folders_in folder (Folder name ∷ entries) = path_of folder (string_bytes name) ∷ folders_in folder entries
folders_in folder (Font name ∷ entries) = folders_in folder entries

abbrev pub fonts_in : List ℕ → List FolderEntry → List (List ℕ)
fonts_in folder [] = []
fonts_in folder (Folder name ∷ entries) = fonts_in folder entries
fonts_in folder (Font name ∷ entries) = path_of folder (string_bytes name) ∷ fonts_in folder entries

-- A folder that wasn't listed whole.
abbrev pub unsearched_at : List ℕ → Bool → List (List ℕ)
unsearched_at folder whole = if whole then [] else folder ∷ []

-- The fonts below these folders, which are searched from the last to the first, each listed once by a system; and the
-- folders that weren't listed whole. n folders were listed before; once 2^64 - 1 were, none is listed any more.
pub data AreBelow {F E : Type 0} (Lists : F → F → List ℕ → Result Listing E → Type 0)
    : F → F → ℕ → List (List ℕ) → List (List ℕ) → List (List ℕ) → Type 0 where
  none : (files : F) → (n : ℕ) → AreBelow Lists files files n [] [] []
  listed :
      (old between new : F) → (n : ℕ) → n < 2 ^ 64 - 1 → (folders : List (List ℕ)) → (folder : List ℕ) → (listing : Listing)
      → (fonts unsearched : List (List ℕ)) → Lists old between folder (Ok listing)
      → AreBelow Lists between new (n + 1) (folders ++ folders_in folder listing.entries.items) fonts unsearched
      → AreBelow Lists old new n (folders ++ folder ∷ []) (fonts_in folder listing.entries.items ++ fonts) (unsearched_at folder listing.whole ++ unsearched)
  too_many : (files : F) → (folders : List (List ℕ)) → AreBelow Lists files files (2 ^ 64 - 1) folders [] folders

-- These names in the order of their bytes.
pub record AreInOrder (names sorted : List (List ℕ)) : Type 0 where
  pub same : IsPermutation names sorted
  pub ascend : IsSorted (slice_cmp nat_cmp) sorted

-- The fonts below a folder, and the folders that weren't listed whole, in the order of their names.
pub record IsBelow {F E : Type 0} (Lists : F → F → List ℕ → Result Listing E → Type 0) (old new : F) (folder : List ℕ)
    (fonts unsearched : List (List ℕ)) : Type 0 where
  pub found : List (List ℕ)
  pub missed : List (List ℕ)
  pub are : AreBelow Lists old new 0 (folder ∷ []) found missed
  pub fonts_sorted : AreInOrder found fonts
  pub unsearched_sorted : AreInOrder missed unsearched
