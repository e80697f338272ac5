use Rattle.std.proofs.Common.{refl, List}
use Rattle.t1_many.proofs.Endings.{not_found, text_taken, text_unread}
use Rattle.t1_many.proofs.one_font.check_waived.Goals as goal
use Rattle.t1_many.specs.Files.IsFound.{no_memory}
use Rattle.t1_report.specs.Waivers.{Waiver}

pub returns-in_err-waivers : goal.returns-in_err-waivers
returns-in_err-waivers g c =
    not_found g.T.Policy.takes _ _ _ _ _ c.from_residual.result _ c.from_residual.ensures.1 refl
    (text_unread (λ (w : List Waiver). w) _ c.args.font.now c.args.text.now c.in_err-waivers.field-0.0 c.in_err-waivers.ensures)

pub returns-in_err-sidebearings : goal.returns-in_err-sidebearings
returns-in_err-sidebearings g c =
    not_found g.T.Policy.takes _ _ _ _ _ c.from_residual-in_err-sidebearings.result _ c.from_residual-in_err-sidebearings.ensures.1 refl
    (no_memory refl)

pub returns-in_err-taken : goal.returns-in_err-taken
returns-in_err-taken g c =
    not_found g.T.Policy.takes _ _ _ _ _ c.from_residual-in_err-taken.result _ c.from_residual-in_err-taken.ensures.1 c.in_err-taken.ensures
    (no_memory refl)

pub returns : goal.returns
returns g c =
    text_taken g.T.Policy.takes c.args.edition c.args.name.now c.args.font.now c.args.text.now c.in_ok-waivers.waivers _ _ _ c.in_ok-taken.taken
    c.in_ok-sidebearings.ensures.edition c.in_ok-waivers.ensures c.in_ok-taken.ensures
