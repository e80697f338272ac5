use Rattle.std.proofs.Common.{refl}
use Rattle.t1_answer_all.proofs.checking.check_known.Goals as goal
use Rattle.t1_answer_all.specs.Checking.ChecksKnown.{checked, no_fonts, no_rows}
use Rattle.t1_answer_all.specs.Listing.{fonts_value}

pub returns-in-Ok-fonts_of : goal.returns-in-Ok-fonts_of
returns-in-Ok-fonts_of g c =
    checked _ c.in-Ok.ensures.rows (fonts_value c.in-Ok-fonts_of.fonts) c.in-Ok-fonts_of.ensures.fonts c.tell_and_check.ensures

pub returns-in-Ok : goal.returns-in-Ok
returns-in-Ok g c = no_fonts _ c.in-Ok.ensures.rows c.in-Err-fonts_of.error c.in-Err-fonts_of.ensures.none c.stopped.ensures refl

pub returns : goal.returns
returns g c = no_rows c.in-Err.error (rw c.file_of.ensures at c.in-Err.ensures.wrong) c.stopped-in-Err.ensures refl refl
