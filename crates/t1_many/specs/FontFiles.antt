-- Which fonts have files of waivers that are asked for.
use Rattle.std.specs.Prelude.{ℕ, Bool, false, not, List}
use Rattle.t1_many.specs.declared.font_files.WaiverFiles.{WaiverFiles}
use Rattle.t1_many.specs.declared.font_files.WaiverFiles.TheVariants.{LeftAside, Read}
use Rattle.t1_names.specs.Words.{is_input}

-- The file of the waivers of this font is asked for: not where waivers are left aside, nor for standard input, which has none.
abbrev pub asks : WaiverFiles → List ℕ → Bool
asks Read name = not (is_input name)
asks LeftAside name = false
