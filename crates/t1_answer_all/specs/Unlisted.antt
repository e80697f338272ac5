-- What is given to a formatter of what couldn't be listed.
use Rattle.std.specs.Prelude.{◌≡◌, ◌⊎◌, ◌++◌, ℕ, Bool, true, false, List, [], ◌∷◌, codes, map, replicate, Option, None, Some, string_bytes}
use Rattle.t1_forms.specs.Tellings.{ToldValue, of_unchecked}
use Rattle.t1_answer_all.specs.declared.unlisted.Unlisted.{Unlisted}
use Rattle.t1_many.specs.declared.policy.Lost.{Lost}
use Rattle.t1_printers.specs.Formatting.{Output}

-- These were given one after another; or it stopped at one of them, and no later one was.
abbrev pub GivesEach : {T : Type 0} → (Output T → Output T → ToldValue → Option Lost → Type 0) → Output T → Output T → List ToldValue
    → Option Lost → Type 0
GivesEach writes old new [] lost = (new ≡ old) × (lost ≡ None)
GivesEach {T} writes old new (told ∷ more) lost =
    ((next : Output T) × writes old next told None × GivesEach writes next new more lost)
    ⊎ ((reason : Lost) × writes old new told (Some reason) × (lost ≡ Some reason))

-- A name that isn't UTF-8 can't be given to the system, so none is given.
abbrev pub undecoded : ToldValue
undecoded = record { font = None; what = of_unchecked (codes "a name that is not UTF-8 is passed over"); reason = None }

-- A folder that wasn't searched whole.
abbrev pub unsearched : List ℕ → ToldValue
unsearched folder = record { font = Some folder; what = of_unchecked (codes "search failed"); reason = None }

-- Names that aren't UTF-8, and the folders.
abbrev pub unlisted_told : ℕ → List (List ℕ) → List ToldValue
unlisted_told nameless folders = replicate nameless undecoded ++ map unsearched folders

-- The same of a value of the program.
abbrev pub unlisted_in : Unlisted → List ToldValue
unlisted_in unlisted = unlisted_told unlisted.undecoded (map string_bytes unlisted.unsearched.now)

-- All could be listed.
abbrev pub is_whole : List ToldValue → Bool
is_whole [] = true
is_whole (told ∷ more) = false
