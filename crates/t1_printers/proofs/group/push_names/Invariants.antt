use Rattle.std.proofs.Common.{◌≡◌, ◌++◌, map, take}
use Rattle.std.specs.String.{string_bytes}
use Rattle.t1_printers.proofs.group.push_names.Given as goal
use Rattle.t1_printers.specs.Tails.{names_text, separator}

abbrev pub invariant-loop-name : goal.invariant-loop-name
invariant-loop-name l = record {
  text : l.text.items ≡ l.fn.text.items ++ names_text (map string_bytes (take l.name-index l.names));
  separator : l.separator ≡ separator l.name-index;
}
