-- Files that are replaced once all was printed.
use Rattle.std.specs.Prelude.{◌≡◌, ◌⊎◌, ◌++◌, ◌&&◌, ℕ, Bool, true, false, List, [], ◌∷◌, codes, Option, None, Some, string_bytes, if◌then◌else◌}
use Rattle.std.specs.List.{concat}
use Rattle.t1_answer_all.specs.Endings.{LeftValue}
use Rattle.t1_answer_all.specs.Runs.{program}
use Rattle.t1_answer_all.specs.Stores.{IsNothing, Putting, Replacing}
use Rattle.t1_io.specs.Devices.{SinkState}
use Rattle.t1_options.specs.declared.asked.Baseline.{Baseline}
use Rattle.t1_options.specs.declared.asked.Baseline.TheVariants.{Compared, Unnamed, Updated}
use Rattle.t1_options.specs.declared.asked.Options.{Options}
use Rattle.t1_options.specs.declared.asked.Waivers.{Waivers}
use Rattle.t1_options.specs.declared.asked.Waivers.TheVariants as waivers
use Rattle.t1_run.specs.Failures.{out_of_memory_line}
use Rattle.t1_run.specs.Telling.{Tells}
use Rattle.t1_run.specs.declared.status.Status.{Status}
use Rattle.t1_run.specs.declared.status.Status.TheVariants.{Failed}
use Rattle.t1_waiving.specs.FontTexts.{FontText}
use Rattle.t1_names.specs.Causes.{cause_text}
use Rattle.t1_names.specs.declared.causes.Cause.{Cause}

-- ---- what is printed

abbrev pub unwritten_text : List ℕ → List ℕ → List ℕ
unwritten_text name cause = concat (program ∷ codes ": " ∷ name ∷ codes " can't be written" ∷ cause ∷ codes "\n" ∷ [])

abbrev pub unwritten_line : List ℕ → Cause → List ℕ
unwritten_line name cause = unwritten_text name (cause_text cause)

abbrev pub there_line : List ℕ → List ℕ
there_line font = concat (font ∷ codes ": waivers are there already; --force overwrites them\n" ∷ [])

-- That something failed is printed, as far as the device takes it.
abbrev pub TellsFailure : List ℕ → SinkState → SinkState → Type 0
TellsFailure text errors errors' = (status : Status) × Tells text Failed errors errors' status

-- ---- one file

-- A text was put in the place of a file; or that failed, which is printed with the cause.
pub data PutsFile {F : Type 0} (store : Replacing F) (name text : List ℕ) (p : Putting F) (done : Bool) : Type 0 where
  put : store.Puts p.files p.files' name text None → p.errors' ≡ p.errors → done ≡ true → PutsFile store name text p done
  unwritten :
      (cause : Cause) → store.Puts p.files p.files' name text (Some cause) → TellsFailure (unwritten_line name cause) p.errors p.errors' → done ≡ false
      → PutsFile store name text p done

-- A text is put so, if there is one.
abbrev pub PutsIfAny : {F : Type 0} → (List ℕ → Putting F → Bool → Type 0) → Option (List ℕ) → Putting F → Bool → Type 0
PutsIfAny Puts None p done = IsNothing p × (done ≡ true)
PutsIfAny Puts (Some text) p done = Puts text p done

-- The file of known faults, if it is made anew and there is a text for it.
abbrev pub PutsKnownFaults : {F : Type 0} → Replacing F → Baseline → Option (List ℕ) → Putting F → Bool → Type 0
PutsKnownFaults store (Updated file) text p done = PutsIfAny (PutsFile store (string_bytes file)) text p done
PutsKnownFaults store (Compared file) text p done = IsNothing p × (done ≡ true)
PutsKnownFaults store Unnamed text p done = IsNothing p × (done ≡ true)

-- ---- waivers

-- The file of the waivers of a font.
abbrev pub waivers_name : List ℕ → List ℕ
waivers_name font = font ++ codes ".waivers"

-- Waivers are written over those that are there.
abbrev pub overwrites : Waivers → Bool
overwrites waivers.Read = false
overwrites waivers.LeftAside = false
overwrites waivers.Written = false
overwrites waivers.Overwritten = true

-- They are kept back where there is such a file already, unless it is overwritten. Then nothing is asked.
abbrev pub IsKeptBack : {F : Type 0} → (F → F → List ℕ → Bool → Type 0) → Bool → F → F → List ℕ → Bool → Type 0
IsKeptBack Has overwrites old new name true = (overwrites ≡ false) × Has old new name true
IsKeptBack Has overwrites old new name false = ((overwrites ≡ true) × (new ≡ old)) ⊎ ((overwrites ≡ false) × Has old new name false)

-- The waivers of a font are put into their file; or they are kept back, or memory runs out, and that is printed.
pub data TriesToPut {F : Type 0} (store : Replacing F) (overwrites : Bool) (font text : List ℕ) (p : Putting F) (done : Bool) : Type 0 where
  tried :
      (asked : F) → IsKeptBack store.Has overwrites p.files asked (waivers_name font) false
      → PutsFile store (waivers_name font) text (record p { files = asked }) done → TriesToPut store overwrites font text p done
  there_already :
      IsKeptBack store.Has overwrites p.files p.files' (waivers_name font) true → TellsFailure (there_line font) p.errors p.errors' → done ≡ false
      → TriesToPut store overwrites font text p done
  no_memory :
      p.files' ≡ p.files → TellsFailure (out_of_memory_line program) p.errors p.errors' → done ≡ false
      → TriesToPut store overwrites font text p done

-- Of a font with too many waivers none is written.
abbrev pub PutsWaiversOf : {F : Type 0} → Replacing F → Bool → FontText → Putting F → Bool → Type 0
PutsWaiversOf store overwrites font p done = PutsIfAny (TriesToPut store overwrites font.name) font.text p done

-- Those of fonts, one after another, whatever failed before.
abbrev pub PutsEach : {F : Type 0} → Replacing F → Bool → List FontText → Putting F → Bool → Type 0
PutsEach store overwrites [] p done = IsNothing p × (done ≡ true)
PutsEach {F} store overwrites (font ∷ fonts) p done =
    (next : F) × (behind : SinkState) × (one others : Bool)
    × PutsWaiversOf store overwrites font (record { files = p.files; files' = next; errors = p.errors; errors' = behind }) one
    × PutsEach store overwrites fonts (record { files = next; files' = p.files'; errors = behind; errors' = p.errors' }) others
    × (done ≡ (one && others))

abbrev pub PutsWaivers : {F : Type 0} → Replacing F → Bool → Option (List FontText) → Putting F → Bool → Type 0
PutsWaivers store overwrites None p done = IsNothing p × (done ≡ true)
PutsWaivers store overwrites (Some fonts) p done = PutsEach store overwrites fonts p done

-- ---- all files

abbrev pub status_if : Bool → Status → Status
status_if done status = if done then status else Failed

-- The file of known faults is replaced, if it is left to be, and the waivers are written that are left to be: no other file is touched. Where
-- something failed, that is printed, and the status is that of a failure.
pub record Replaces {F : Type 0} (store : Replacing F) (options : Options) (left : LeftValue) (p : Putting F) (status : Status) : Type 0 where
  pub between : F
  pub behind : SinkState
  pub known : Bool
  pub waivers : Bool
  pub known_faults :
      PutsKnownFaults store options.known_faults left.known_faults
      (record { files = p.files; files' = between; errors = p.errors; errors' = behind }) known
  pub waivers_are :
      PutsWaivers store (overwrites options.waivers) left.waivers
      (record { files = between; files' = p.files'; errors = behind; errors' = p.errors' }) waivers
  pub status_is : status ≡ status_if (known && waivers) left.status
