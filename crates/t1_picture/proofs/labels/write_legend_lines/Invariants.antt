use Rattle.std.proofs.Common.{◌≡◌, ◌++◌, string_bytes, drop}
use Rattle.t1_picture.specs.Drawings.{texts_of}
use Rattle.t1_picture.specs.Pictures.{legend_lines}
use Rattle.t1_picture.proofs.labels.write_legend_lines.Given as goal

abbrev pub invariant-loop-place : goal.invariant-loop-place
invariant-loop-place l =
    string_bytes l.svg ++ legend_lines l.frame l.place (texts_of (drop l.place l.lines))
    ≡ string_bytes l.fn.svg ++ legend_lines l.frame 0 (texts_of l.lines)
