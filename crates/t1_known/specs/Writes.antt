-- What becomes of a sink by a text that is written.
use Rattle.std.specs.Prelude.{◌≡◌, ℕ, List, Result, Ok, Err}
use Rattle.t1_io.specs.Devices.{PutFailed, SinkState, Wrote}
use Rattle.t1_many.specs.declared.policy.Lost.{Lost}
use Rattle.t1_many.specs.declared.policy.Lost.TheVariants.{Device, Memory}

-- All of it was written; or a write failed after a prefix of it; or memory ran out, and nothing was.
abbrev pub WritesAll : SinkState → SinkState → List ℕ → Result (Unit {0}) Lost → Type 0
WritesAll old new text (Ok done) = Wrote old new text
WritesAll old new text (Err Device) = PutFailed old new text
WritesAll old new text (Err Memory) = new ≡ old
