-- What holds of each list, word and glob.
use Rattle.std.specs.Prelude.{◌≡◌, ◌≢◌, ◌↔◌, ◌==◌, ◌||◌, ℕ, Bool, false, true, not, Contains, List, codes, ◌∷◌, Result, Ok}
use Rattle.std.specs.List.{IsDistinct, list_any}
use Rattle.std.specs.Str.{bytes_eq}
use Rattle.std.specs.declared.alloc.AllocError.{AllocError}
use Rattle.t1_names.specs.Folders.{AreBelow, path_of}
use Rattle.t1_names.specs.Globs.{Glob, IsRead, does_match, is_excluded, is_slash, matches}
use Rattle.t1_names.specs.Named.{AreNamed, included}
use Rattle.t1_names.specs.Once.{each_once}
use Rattle.t1_names.specs.declared.folders.Listing.{Listing}
use Rattle.t1_names.specs.Words.{Trims, file_name, is_input}

-- A folder's listing, where memory doesn't run out.
abbrev pub as_listed : Listing → Result Listing AllocError
as_listed listing = Ok listing

-- A system whose answers are always the same: which names lead to folders, and what a folder lists.
abbrev pub leads_by : (List ℕ → Bool) → Unit {0} → Unit {0} → List ℕ → Bool → Type 0
leads_by is_folder old new name leads = is_folder name ≡ leads

abbrev pub lists_by : (List ℕ → Listing) → Unit {0} → Unit {0} → List ℕ → Result Listing AllocError → Type 0
lists_by listing_of old new folder result = result ≡ as_listed (listing_of folder)

-- Keeping each name once loses no name and adds none.
abbrev pub EachIsKept : Type 0
EachIsKept = (names : List (List ℕ)) → (name : List ℕ) → Contains names name ↔ Contains (each_once names) name

-- It leaves none twice.
abbrev pub NoneIsTwice : Type 0
NoneIsTwice = (names : List (List ℕ)) → IsDistinct bytes_eq (each_once names)

-- No glob matches a name in a list of fonts, unless it is standard input.
abbrev pub EachIsIncluded : Type 0
EachIsIncluded =
    (globs : List Glob) → (names : List (List ℕ)) → (name : List ℕ) → Contains (each_once (included globs names)) name
    → is_input name ≡ false → is_excluded globs name ≡ false

-- A word is trimmed in one way, where each word leads to a folder or doesn't.
abbrev pub OneTrim : Type 0
OneTrim =
    (is_folder : List ℕ → Bool) → (old new old' new' : Unit {0}) → (word one other : List ℕ) → Trims (leads_by is_folder) old new word one
    → Trims (leads_by is_folder) old' new' word other → one ≡ other

-- What is below folders is one thing, where each folder lists one thing.
abbrev pub OneSearch : Type 0
OneSearch =
    (listing_of : List ℕ → Listing) → (old new old' new' : Unit {0}) → (n : ℕ) → (folders fonts unsearched fonts' unsearched' : List (List ℕ))
    → AreBelow (lists_by listing_of) old new n folders fonts unsearched
    → AreBelow (lists_by listing_of) old' new' n folders fonts' unsearched' → (fonts ≡ fonts') × (unsearched ≡ unsearched')

-- Words make one list, where each word leads to a folder or doesn't, and each folder lists one thing.
abbrev pub OneList : Type 0
OneList =
    (is_folder : List ℕ → Bool) → (listing_of : List ℕ → Listing) → (old new old' new' : Unit {0}) → (words : List (List ℕ)) → (globs : List Glob)
    → (names unsearched names' unsearched' : List (List ℕ))
    → AreNamed (leads_by is_folder) (lists_by listing_of) old new words globs names unsearched
    → AreNamed (leads_by is_folder) (lists_by listing_of) old' new' words globs names' unsearched'
    → (names ≡ names') × (unsearched ≡ unsearched')

-- No file has the name of standard input.
abbrev pub InputIsNoFile : Type 0
InputIsNoFile = (name : List ℕ) → is_input (file_name name) ≡ false

-- No glob excludes standard input.
abbrev pub InputIsIncluded : Type 0
InputIsIncluded = (globs : List Glob) → (names : List (List ℕ)) → Contains names (codes "-") → Contains (included globs names) (codes "-")

-- A word that leads to a folder keeps no leading `./`.
abbrev pub NoDotInFolders : Type 0
NoDotInFolders =
    (is_folder : List ℕ → Bool) → (old new : Unit {0}) → (word trimmed rest : List ℕ) → Trims (leads_by is_folder) old new word trimmed
    → is_folder trimmed ≡ true → trimmed ≢ 46 ∷ 47 ∷ rest

-- Neither has the whole name of anything in a folder, where the folder has none and the name there neither.
abbrev pub NoDotInPaths : Type 0
NoDotInPaths =
    (folder name rest : List ℕ) → ((rest : List ℕ) → folder ≢ 46 ∷ 47 ∷ rest) → ((rest : List ℕ) → name ≢ 46 ∷ 47 ∷ rest)
    → path_of folder name ≢ 46 ∷ 47 ∷ rest

-- A text is one glob.
abbrev pub OneReading : Type 0
OneReading = (text : List ℕ) → (one other : Glob) → IsRead text one → IsRead text other → one ≡ other

-- `**` matches each name.
abbrev pub DoubleStarMatchesAll : Type 0
DoubleStarMatchesAll = (glob : Glob) → (name : List ℕ) → IsRead (codes "**") glob → does_match glob name ≡ true

-- `*` matches what has no slash, and nothing else.
abbrev pub StarStopsAtSlashes : Type 0
StarStopsAtSlashes = (glob : Glob) → (name : List ℕ) → IsRead (codes "*") glob → matches glob.pieces name ≡ not (list_any is_slash name)

-- The characters of a glob that aren't just themselves.
abbrev pub is_sign : ℕ → Bool
is_sign c = c == 42 || (c == 63 || c == 91)

-- A glob without them matches just itself.
abbrev pub PlainIsItself : Type 0
PlainIsItself =
    (text : List ℕ) → (glob : Glob) → (name : List ℕ) → list_any is_sign text ≡ false → IsRead text glob → matches glob.pieces name ≡ bytes_eq name text
