use Rattle.std.proofs.Common.{◌≡◌, ◌++◌, ℕ, List, length, string_bytes}
use Rattle.t1_report.specs.Faults.{faults_of}
use Rattle.t1draw.specs.Folders.{faulty_glyphs, glyphs_after}
use Rattle.t1draw.specs.Private.Sheets.{AddsPictures}
use Rattle.t1draw.proofs.folder.push_pictures.Given as goal

abbrev pub invariant-loop-rest : goal.invariant-loop-rest
invariant-loop-rest l =
    (done : List ℕ) × AddsPictures l.fn.sheet done (string_bytes l.fn.text) (string_bytes l.text)
    × (done ++ glyphs_after l.fn.sheet.font.now l.unit (faults_of l.rest) ≡ faulty_glyphs l.fn.sheet.font.now (faults_of l.faults))

abbrev pub decreases-loop-rest : goal.decreases-loop-rest
decreases-loop-rest l = length l.rest
