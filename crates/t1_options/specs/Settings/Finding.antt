-- Where a settings file is looked for.
use Rattle.std.specs.Prelude.{◌≡◌, ◌++◌, ℕ, true, false, List, [], Option, None, Some, Ok, Err, if◌then◌else◌, codes, is_some}
use Rattle.std.specs.Path.{path_file_name, path_parent}
use Rattle.std.specs.Str.{bytes_eq}
use Rattle.t1_names.specs.Causes.{cause_text}
use Rattle.t1_names.specs.Questions.{Questions}
use Rattle.t1_names.specs.Words.{Trims, is_input}
use Rattle.t1_names.specs.declared.causes.Cause.{Cause}
use Rattle.t1_options.specs.Settings.Reading.{HasSettings, IsWrongIn, SettingsValue, file_in}

-- A system that is asked of files, before the questions and after them.
pub record System : Type 1 where
  pub State : Type 0
  pub asks : Questions State
  pub old : State
  pub new : State

abbrev pub system_by : {F : Type 0} → Questions F → F → F → System
system_by {F} asks old new = record { State = F; asks = asks; old = old; new = new }

-- Nothing was asked.
abbrev pub IsUnasked : System → Type 0
IsUnasked system = system.new ≡ system.old

-- Its first questions, and the others.
abbrev pub until : (system : System) → system.State → System
until system between = system_by system.asks system.old between

abbrev pub since : (system : System) → system.State → System
since system between = system_by system.asks between system.new

-- The folder above a folder, by its name. The working folder, whose name is empty, has none, nor has a name that ends
-- in `.` or `..`, nor `/`.
abbrev pub above : List ℕ → Option (List ℕ)
above folder = if is_some (path_file_name folder) then path_parent folder else None

-- The settings of the nearest file, in a folder or above it, if there is one. Each folder is looked in once.
pub data AreNearest {F : Type 0} (asks : Questions F) : F → F → List ℕ → Option SettingsValue → Type 0 where
  here :
      (old new : F) → (folder text : List ℕ) → (settings : SettingsValue) → asks.ReadsText old new (file_in folder) (Some (Ok text))
      → HasSettings folder text (Ok settings) → AreNearest asks old new folder (Some settings)
  nowhere :
      (old new : F) → (folder : List ℕ) → asks.ReadsText old new (file_in folder) None → above folder ≡ None → AreNearest asks old new folder None
  higher :
      (old between new : F) → (folder next : List ℕ) → (settings : Option SettingsValue) → asks.ReadsText old between (file_in folder) None
      → above folder ≡ Some next → AreNearest asks between new next settings → AreNearest asks old new folder settings

abbrev pub unread_text : List ℕ → Cause → List ℕ
unread_text file cause = codes "t1check-all: " ++ file ++ codes " can't be read" ++ cause_text cause ++ codes "\n"

-- The nearest file can't be read, or its text is wrong, and this is printed.
pub data IsWrongAt {F : Type 0} (asks : Questions F) : F → F → List ℕ → List ℕ → Type 0 where
  unread :
      (old new : F) → (folder : List ℕ) → (cause : Cause) → asks.ReadsText old new (file_in folder) (Some (Err cause))
      → IsWrongAt asks old new folder (unread_text (file_in folder) cause)
  wrong :
      (old new : F) → (folder text told : List ℕ) → asks.ReadsText old new (file_in folder) (Some (Ok text)) → IsWrongIn folder text told
      → IsWrongAt asks old new folder told
  higher :
      (old between new : F) → (folder next told : List ℕ) → asks.ReadsText old between (file_in folder) None → above folder ≡ Some next
      → IsWrongAt asks between new next told → IsWrongAt asks old new folder told

abbrev pub dot_is_empty : List ℕ → List ℕ
dot_is_empty folder = if bytes_eq folder (codes ".") then [] else folder

-- The search begins at the first path, as the names of fonts begin in lines: without `./` and the last slash. Without a
-- path, and at standard input, it begins at the working folder.
pub data BeginsAt {F : Type 0} (asks : Questions F) (old new : F) (path : Option (List ℕ)) (start : List ℕ) : Type 0 where
  no_path : path ≡ None → new ≡ old → start ≡ [] → BeginsAt asks old new path start
  input : (word : List ℕ) → path ≡ Some word → is_input word ≡ true → new ≡ old → start ≡ [] → BeginsAt asks old new path start
  at_path :
      (word trimmed : List ℕ) → path ≡ Some word → is_input word ≡ false → Trims asks.Leads old new word trimmed → start ≡ dot_is_empty trimmed
      → BeginsAt asks old new path start

-- The settings for a command line whose first path is this: those of the nearest file, if there is one.
pub record AreSettled (system : System) (path : Option (List ℕ)) (settings : Option SettingsValue) : Type 0 where
  pub start : List ℕ
  pub between : system.State
  pub begins : BeginsAt system.asks system.old between path start
  pub nearest : AreNearest system.asks between system.new start settings

-- The nearest file can't be read, or its text is wrong, and this is printed.
pub record AreUnsettled (system : System) (path : Option (List ℕ)) (told : List ℕ) : Type 0 where
  pub start : List ℕ
  pub between : system.State
  pub begins : BeginsAt system.asks system.old between path start
  pub wrong : IsWrongAt system.asks between system.new start told
