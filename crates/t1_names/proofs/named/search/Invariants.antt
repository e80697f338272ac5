use Rattle.std.proofs.Common.{◌≡◌, List, map, string_bytes, take}
use Rattle.t1_names.proofs.named.search.Given as goal
use Rattle.t1_names.specs.Named.{EachStandsFor, Found, all_fonts, all_unsearched}

abbrev pub invariant-loop-word : goal.invariant-loop-word
invariant-loop-word g l =
    (founds : List Found)
    × EachStandsFor g.F.FileSystem.asks.Leads g.F.FileSystem.asks.Lists l.fn.files l.files (map string_bytes (take l.word-index l.words)) founds
    × (map string_bytes l.fonts.items ≡ all_fonts founds) × (map string_bytes l.unsearched.items ≡ all_unsearched founds)
