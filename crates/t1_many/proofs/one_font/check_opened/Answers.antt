use Rattle.std.proofs.Common.{refl}
use Rattle.t1_many.proofs.Endings.{bytes_of_file, checks_by, font_unread, not_failed, not_found}
use Rattle.t1_many.proofs.one_font.check_opened.Goals as goal

pub returns-in_err-bytes-clause-checks : goal.returns-in_err-bytes-clause-checks
returns-in_err-bytes-clause-checks g c =
    not_found g.T.Policy.takes _ _ _ _ _ c.from_residual.result _ c.from_residual.ensures.1 refl
    (font_unread _ _ _ c.args.has_waivers _ _ c.in_err-bytes.field-0.0 (not_failed (g.R.Source.state c.args.source.now) c.requires.font) c.in_err-bytes.ensures.gathers)

pub returns-clause-checks : goal.returns-clause-checks
returns-clause-checks g c =
    checks_by g.T.Policy.takes _ _ _ _ _ _ c.check_bytes.result
    (bytes_of_file _ _ _ c.in_ok-bytes.bytes.items c.args.has_waivers _ _ (not_failed (g.R.Source.state c.args.source.now) c.requires.font) c.in_ok-bytes.ensures.gathers)
    c.check_bytes.ensures.checks
