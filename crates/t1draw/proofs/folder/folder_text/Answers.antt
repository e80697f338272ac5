use Rattle.std.proofs.Common.{◌∙◌}
use Rattle.t1_report.specs.Faults.{faults_of}
use Rattle.t1draw.proofs.Pictures.{all_filed}
use Rattle.t1draw.proofs.folder.folder_text.Goals as goal

pub returns : goal.returns
returns c =
    all_filed c.args.sheet.now (faults_of c.in_ok-faults.faults.items) _ _ _ _ c.in_ok-faults.ensures.exact c.new-text.ensures.bytes
    (rw c.as_slice-2.ensures.value at c.in_ok-push_pictures.ensures)
    (c.as_str.ensures.value ∙ (rw c.as_slice.ensures.value at c.in_ok-index.ensures)) c.in_ok-push_file.ensures
