use Rattle.std.proofs.Common.{length}
use denote.Text.{Utf8}
use denote.Shadow.{shadow}
use Rattle.t1_options.proofs.Upwards.{FindsAbove, IsWrongAbove}
use Rattle.t1_options.proofs.settings.finding.nearest.Given as goal

abbrev pub invariant-loop-file : goal.invariant-loop-file
invariant-loop-file g l =
    shadow (Utf8 l.folder)
    × FindsAbove g.F.FileSystem.asks l.fn.files l.files l.fn.start l.folder
    × IsWrongAbove g.F.FileSystem.asks l.fn.files l.files l.fn.start l.folder

abbrev pub decreases-loop-file : goal.decreases-loop-file
decreases-loop-file g l = length l.folder
