use Rattle.std.proofs.Common.{refl, sym, subst, ◌∙◌}
use Rattle.t1_font.specs.FontFiles.{IsUnread}
use Rattle.t1_run.proofs.FilesRead.{are_read}
use Rattle.t1_run.proofs.RunLemmas.{unread_ends}
use Rattle.t1_run.specs.Programs.Ends.{font_read}
use Rattle.t1_run.proofs.running.show_file.Goals as goal

pub returns-in-Err-clause-ends : goal.returns-in-Err-clause-ends
returns-in-Err-clause-ends g c font sound all =
    unread_ends g.P.Program.meaning c.args.options.now font _ _ _ sound refl c.args.bytes.items c.in-Err.unread all
    (rw c.as_slice.ensures.value at c.in-Err.ensures) (rw (c.name.ensures, c.from.ensures) at c.tell_failure.ensures)

pub returns-in-Err-font-clause-ends : goal.returns-in-Err-font-clause-ends
returns-in-Err-font-clause-ends g c font sound all =
    unread_ends g.P.Program.meaning c.args.options.now font _ _ _ sound refl c.args.bytes.items c.in-Err-font.unread all
    (subst (IsUnread c.in-Err-font.unread) (rw c.as_slice.ensures.value at c.in-Ok.ensures) c.in-Err-font.ensures.gives)
    (rw (c.name-in-Err-font.ensures, c.from-in-Err-font.ensures) at c.tell_failure-in-Err-font.ensures)

pub returns-clause-ends : goal.returns-clause-ends
returns-clause-ends g c font sound all =
    font_read c.in-Ok-font.font
    (are_read _ _ c.args.bytes.items _ all.consumed all.end all.few (sym (rw c.as_slice.ensures.value at c.in-Ok.ensures) ∙ c.in-Ok-font.ensures.gives))
    (all.kept ∙ sound) c.show_font-status.ensures.ends
