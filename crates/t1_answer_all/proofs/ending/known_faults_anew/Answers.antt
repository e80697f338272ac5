use Rattle.std.proofs.Common.{ap, Some}
use Rattle.t1_answer_all.proofs.WrittenTexts.{all_of_text}
use Rattle.t1_answer_all.proofs.ending.known_faults_anew.Goals as goal
use Rattle.t1_io.specs.Devices.{SinkState}
use Rattle.t1_known.specs.Readings.{AreReadingsOf}

pub returns-in-Ok : goal.returns-in-Ok
returns-in-Ok c = λ all found.
    let are : AreReadingsOf c.args.readings.now all = rw c.in-UpdateBaseline.is at found in
    rw c.in-UpdateBaseline.is
    (ap Some (all_of_text _ _ _ _ (ap (λ (s : SinkState). s.written) c.new-text.ensures) (c.in-Ok.ensures all are).bytes c.into_bytes.ensures))
