use Rattle.std.proofs.Common.{refl}
use Rattle.t1_answer_all.proofs.Told.{told_so}
use Rattle.t1_answer_all.proofs.words.text_of.Goals as goal
use Rattle.t1_answer_all.specs.Private.Words.{IsNoText}
use Rattle.t1_answer_all.specs.Usage.{unreadable_text}
use Rattle.t1_options.specs.Settings.Finding.{system_by}

pub returns-in-Err-clause-none : goal.returns-in-Err-clause-none
returns-in-Err-clause-none g c =
    told_so (IsNoText (system_by g.F.FileSystem.asks c.args.system.now c.list_text.new.self) c.args.list.now) (unreadable_text c.args.list.now c.of.result)
    c.unreadable.result c.unreadable.ensures (c.of.result, rw c.of.ensures c.in-Err.ensures, refl)
