use Rattle.std.proofs.Common.{refl, subst, sym, ◌∙◌}
use Rattle.t1_font.specs.FontFiles.{IsUnread}
use Rattle.t1_many.proofs.Endings.{bytes_unread, checks_by, font_of_bytes, not_found}
use Rattle.t1_many.proofs.one_font.check_bytes.Goals as goal

pub returns-in_err-file-clause-checks : goal.returns-in_err-file-clause-checks
returns-in_err-file-clause-checks g c =
    not_found g.T.Policy.takes _ _ _ _ _ c.from_residual.result _ c.from_residual.ensures.1 refl
    (bytes_unread _ c.args.bytes.items c.args.has_waivers _ _ c.in_err-file.field-0.0 (rw c.as_slice.ensures.value at c.in_err-file.ensures))

pub returns-in_err-font-clause-checks : goal.returns-in_err-font-clause-checks
returns-in_err-font-clause-checks g c =
    not_found g.T.Policy.takes _ _ _ _ _ c.from_residual-in_err-font.result _ c.from_residual-in_err-font.ensures.1 refl
    (bytes_unread _ c.args.bytes.items c.args.has_waivers _ _ c.in_err-font.field-0.0
    (subst (IsUnread c.in_err-font.field-0.0) (rw c.as_slice.ensures.value at c.in_ok-file.ensures) c.in_err-font.ensures.gives))

pub returns-clause-checks : goal.returns-clause-checks
returns-clause-checks g c =
    checks_by g.T.Policy.takes _ _ _ _ _ _ c.check_font-taken.result
    (font_of_bytes _ c.in_ok-font.font c.args.bytes.items c.args.has_waivers _ _
    (sym (rw c.as_slice.ensures.value at c.in_ok-file.ensures) ∙ c.in_ok-font.ensures.gives))
    c.check_font-taken.ensures.checks

pub check_font-taken-requires-clause-read : goal.check_font-taken-requires-clause-read
check_font-taken-requires-clause-read g c =
    (c.args.bytes.items, sym (rw c.as_slice.ensures.value at c.in_ok-file.ensures) ∙ c.in_ok-font.ensures.gives)
