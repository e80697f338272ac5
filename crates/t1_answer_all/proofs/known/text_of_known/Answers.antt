use Rattle.std.proofs.Common.{inr, refl, string_bytes}
use Rattle.t1_names.specs.declared.causes.Cause.TheVariants.{NoFile}
use Rattle.t1_answer_all.proofs.Told.{told_so}
use Rattle.t1_answer_all.proofs.known.text_of_known.Goals as goal
use Rattle.t1_answer_all.specs.Known.{IsNotKnownText}
use Rattle.t1_answer_all.specs.Usage.{unreadable_text}
use Rattle.t1_options.specs.Settings.Finding.{system_by}
use Rattle.t1_options.specs.declared.asked.Baseline.TheVariants.{Compared}

pub returns-in-None-clause-none : goal.returns-in-None-clause-none
returns-in-None-clause-none g c =
    rw c.in-Compared.is
    (told_so (IsNotKnownText (system_by g.F.FileSystem.asks c.args.system.now c.text.new.self) (Compared c.in-Compared.name))
    (unreadable_text (string_bytes c.in-Compared.name) NoFile) c.unreadable-in-None.result
    (rw c.as_str-in-None.ensures.value at c.unreadable-in-None.ensures)
    (NoFile, inr (rw c.as_str.ensures.value at c.in-None.ensures, refl), refl))
