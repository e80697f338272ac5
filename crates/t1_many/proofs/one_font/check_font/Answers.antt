use Rattle.std.proofs.Common.{refl}
use Rattle.t1_many.proofs.Endings.{checks_by, file_unread, not_found, text_of_file}
use Rattle.t1_many.proofs.one_font.check_font.Goals as goal

pub returns-in_err-text-clause-checks : goal.returns-in_err-text-clause-checks
returns-in_err-text-clause-checks g c =
    not_found g.T.Policy.takes _ _ _ _ _ c.from_residual.result _ c.from_residual.ensures.1 refl
    (file_unread _ c.args.font.now c.args.has_waivers _ _ c.in_err-text.field-0.0 c.in_err-text.ensures.text)

pub returns-clause-checks : goal.returns-clause-checks
returns-clause-checks g c =
    checks_by g.T.Policy.takes _ _ _ _ _ _ c.check_waived.result
    (text_of_file _ c.args.font.now c.args.has_waivers _ _ c.in_ok-text.text.items c.in_ok-text.ensures.text)
    (rw c.as_slice.ensures.value at c.check_waived.ensures)
