use Rattle.std.proofs.Common.{◌≡◌, ◌++◌, map, string_bytes}
use Rattle.t1_names.specs.Folders.{folders_in, fonts_in}
use Rattle.t1_names.proofs.folders.take_entries.Given as goal

abbrev pub invariant-loop-entry : goal.invariant-loop-entry
invariant-loop-entry l = record {
  folders : map string_bytes l.folders.items ++ folders_in l.folder l.entry-iterator.rest.items ≡ map string_bytes l.fn.folders.items ++ folders_in l.folder l.fn.entries.items;
  fonts : map string_bytes l.fonts.items ++ fonts_in l.folder l.entry-iterator.rest.items ≡ map string_bytes l.fn.fonts.items ++ fonts_in l.folder l.fn.entries.items;
}
