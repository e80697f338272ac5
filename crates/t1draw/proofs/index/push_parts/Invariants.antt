use Rattle.std.proofs.Common.{◌≡◌, ◌++◌, None, length, string_bytes}
use Rattle.std.specs.List.{All}
use Rattle.t1_report.specs.Faults.{fault_value, faults_of}
use Rattle.t1_report.specs.Lines.{IsInFont}
use Rattle.t1draw.specs.Folders.{parts_from}
use Rattle.t1draw.proofs.index.push_parts.Given as goal

abbrev pub invariant-loop-rest : goal.invariant-loop-rest
invariant-loop-rest l = record {
  in_font : All (λ fault. IsInFont l.fn.sheet.font.now l.fn.sheet.waivers.now (fault_value fault)) l.rest;
  written : string_bytes l.html ++ parts_from l.fn.sheet.font.now l.fn.sheet.waivers.now l.begun (faults_of l.rest)
      ≡ string_bytes l.fn.html ++ parts_from l.fn.sheet.font.now l.fn.sheet.waivers.now None (faults_of l.faults);
}

abbrev pub decreases-loop-rest : goal.decreases-loop-rest
decreases-loop-rest l = length l.rest
