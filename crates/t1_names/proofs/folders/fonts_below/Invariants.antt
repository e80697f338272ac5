use Rattle.std.proofs.Common.{map, string_bytes}
use Rattle.t1_names.proofs.FolderLemmas.{GoesOn}
use Rattle.t1_names.proofs.folders.fonts_below.Given as goal

abbrev pub invariant-loop-listed : goal.invariant-loop-listed
invariant-loop-listed g l =
    GoesOn g.F.FileSystem.asks.Lists l.fn.files l.folder l.files l._listed (map string_bytes l.pending.items) (map string_bytes l.fonts.items)
    (map string_bytes l.unsearched.items)
