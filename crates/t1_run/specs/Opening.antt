-- Files that are opened by their names, and the devices of a run.
use Rattle.std.specs.Prelude.{◌≡◌, ℕ, List, Option, None, Result, Ok, Err}
use Rattle.clap.specs.Words.{Text}
use Rattle.t1_io.specs.Devices.{SinkState, SourceState}
use Rattle.t1_run.specs.declared.streams.Streams.{Streams}

-- A way to open files by their names: one of the name is opened and these bytes are left in it, where they are known,
-- or it can't be opened.
pub record Opening : Type 1 where
  pub Opens : Text → Option (List ℕ) → Type 0
  pub CannotOpen : Text → Type 0

-- That of a function, by what it returns for a name and by what is left in a file.
abbrev pub opening_by : {File Error : Type 0} → (Text → Result File Error → Type 0) → (File → Option (List ℕ)) → Opening
opening_by Returns left = record {
  Opens = λ name bytes. (file : _) × (Returns name (Ok file) × (left file ≡ bytes));
  CannotOpen = λ name. (error : _) × Returns name (Err error);
}

-- A file that words may name: the way to open it, and the file as it is left, if it was opened.
pub record NamedFile : Type 1 where
  pub opening : Opening
  pub left : Option SourceState

-- That of a font, and that of waivers.
pub record Files : Type 1 where
  pub font : NamedFile
  pub waivers : NamedFile

abbrev pub NoneIsOpened : Files → Type 0
NoneIsOpened files = (files.font.left ≡ None) × (files.waivers.left ≡ None)

-- The output and standard error.
pub record Sinks : Type 0 where
  pub out : SinkState
  pub errors : SinkState

-- Those of a program, by what is known of a device.
abbrev pub sinks_by : {Out Errors : Type 0} → (Out → SinkState) → (Errors → SinkState) → Streams Out Errors → Sinks
sinks_by out errors streams = record { out = out streams.out; errors = errors streams.errors }

-- A state before a run and after it.
pub record Transition (State : Type 0) : Type 0 where
  pub old : State
  pub new : State
