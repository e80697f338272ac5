-- What a command shows of a line and its reason.
use Rattle.std.proofs.Common.{◌≡◌, ℕ, List, ◌++◌, codes, flat_map, Option, Some, None, subst, sym}
use Rattle.std.proofs.lemmas.List.Concat.{flat_map-append}
use Rattle.t1_forms.specs.Commands.{message_byte, with_reason}
use Rattle.t1_forms.specs.Tellings.{ReasonValue}
use Rattle.t1_io.proofs.SinkLemmas.{PutFailed-first}
use Rattle.t1_io.specs.Devices.{PutFailed, SinkState}

pub message_parts : (line : List ℕ) (r : ReasonValue)
    → flat_map message_byte (with_reason line (Some r)) ≡ flat_map message_byte line ++ (codes ": " ++ flat_map message_byte r.text)
message_parts line r = flat_map-append message_byte line (codes ": " ++ r.text)

pub message_failed : (a b : SinkState) (line : List ℕ) (reason : Option ReasonValue) → PutFailed a b (flat_map message_byte line)
    → PutFailed a b (flat_map message_byte (with_reason line reason))
message_failed a b line None broke = broke
message_failed a b line (Some r) broke =
    subst (PutFailed a b) (sym (message_parts line r)) (PutFailed-first a b (flat_map message_byte line) (codes ": " ++ flat_map message_byte r.text) broke)
