-- A settings file that is looked for upwards.
use Rattle.std.proofs.Common.{List, Option, ℕ}
use Rattle.t1_names.specs.Questions.{Questions}
use Rattle.t1_options.specs.Settings.Finding.{AreNearest, IsWrongAt}
use Rattle.t1_options.specs.Settings.Reading.{SettingsValue}

-- What is the nearest from a folder on is the nearest from where the search began; so is what is wrong.
abbrev pub FindsAbove : {F : Type 0} → Questions F → F → F → List ℕ → List ℕ → Type 0
FindsAbove {F} asks begun files start folder =
    (new : F) → (settings : Option SettingsValue) → AreNearest asks files new folder settings → AreNearest asks begun new start settings

abbrev pub IsWrongAbove : {F : Type 0} → Questions F → F → F → List ℕ → List ℕ → Type 0
IsWrongAbove {F} asks begun files start folder =
    (new : F) → (told : List ℕ) → IsWrongAt asks files new folder told → IsWrongAt asks begun new start told
