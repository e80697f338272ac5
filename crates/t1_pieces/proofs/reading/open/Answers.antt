use Rattle.std.proofs.Common.{◌∙◌, ap, arith, sym, refl}
use Rattle.t1_font.specs.declared.unread.RefusalCode.TheVariants.{E05}
use Rattle.t1_report.specs.Refusals.Refusal.{Font, FontTooLarge}
use Rattle.t1_pieces.proofs.Readings.{failed_so, fails_for, font_fails}
use Rattle.t1_pieces.proofs.reading.open.Goals as goal
use Rattle.t1_pieces.specs.Reading.{IsFailureOf}
use Rattle.t1_run.proofs.FilesRead.{font_of-large, font_of-small}
use Rattle.t1_run.specs.Failures.{failure_of}
use Rattle.t1_run.specs.declared.failure.Failure.TheVariants.{Refused}
use Rattle.t1_run.specs.FontFiles.{font_of, with_reason}

pub returns-then-bytes-gt-LARGEST_FILE-clause-failed : goal.returns-then-bytes-gt-LARGEST_FILE-clause-failed
returns-then-bytes-gt-LARGEST_FILE-clause-failed c =
    fails_for (font_of c.args.bytes.now) FontTooLarge (Refused E05)
    (font_of-large c.args.bytes.now (omega (arith, c.if-bytes-gt-LARGEST_FILE.true))) refl

pub returns-in_err-open-clause-failed : goal.returns-in_err-open-clause-failed
returns-in_err-open-clause-failed c =
    failed_so c.from_residual.result (failure_of (Font c.in_err-open.field-0.0)) (IsFailureOf (font_of c.args.bytes.now)) c.from_residual.ensures.1
    (font_fails c.args.bytes.now c.in_err-open.field-0.0 (omega (arith, c.if-bytes-gt-LARGEST_FILE.false)) c.in_err-open.ensures)

pub returns-clause-opened : goal.returns-clause-opened
returns-clause-opened c =
    ap with_reason c.in_ok-open.ensures ∙ sym (font_of-small c.args.bytes.now (omega (arith, c.if-bytes-gt-LARGEST_FILE.false)))
