use Rattle.std.proofs.Common.{List, arith, refl}
use Rattle.t1_font.specs.declared.unread.RefusalCode.TheVariants.{E15}
use Rattle.t1_report.specs.Refusals.Refusal.{Waivers, WaiversTooLarge}
use Rattle.t1_pieces.proofs.Readings.{failed_so, fails_for, waivers_fail, waivers_in-large, waivers_read}
use Rattle.t1_pieces.proofs.reading.read_waivers.Goals as goal
use Rattle.t1_pieces.specs.Reading.{IsFailureOf}
use Rattle.t1_report.specs.Waivers.{Waiver}
use Rattle.t1_run.specs.Failures.{failure_of}
use Rattle.t1_run.specs.declared.failure.Failure.TheVariants.{Refused}
use Rattle.t1_run.specs.WaiverFiles.{waivers_in}

pub returns-then-text-gt-LARGEST_WAIVERS-clause-failed : goal.returns-then-text-gt-LARGEST_WAIVERS-clause-failed
returns-then-text-gt-LARGEST_WAIVERS-clause-failed c =
    fails_for (waivers_in c.args.edition c.args.text.now) WaiversTooLarge (Refused E15)
    (waivers_in-large c.args.edition c.args.text.now (omega (arith, c.if-text-gt-LARGEST_WAIVERS.true))) refl

pub returns-in_err-read-clause-failed : goal.returns-in_err-read-clause-failed
returns-in_err-read-clause-failed c =
    failed_so c.from_residual.result (failure_of (Waivers c.in_err-read.field-0.0)) (IsFailureOf (waivers_in c.args.edition c.args.text.now))
    c.from_residual.ensures.1
    (waivers_fail c.args.edition (λ (w : List Waiver). w) c.args.text.now c.in_err-read.field-0.0 (omega (arith, c.if-text-gt-LARGEST_WAIVERS.false))
    c.in_err-read.ensures)

pub returns-clause-read : goal.returns-clause-read
returns-clause-read c =
    waivers_read c.args.edition c.args.text.now c.in_ok-read.field-0 (omega (arith, c.if-text-gt-LARGEST_WAIVERS.false)) c.in_ok-read.ensures
