use Rattle.std.proofs.Common.{◌∙◌}
use Rattle.t1_io.proofs.SinkLemmas.{PutFailed-first, PutFailed-second, Writes-failed, Writes-then}
use Rattle.t1_report.proofs.lines.write_glyph_place.Goals as goal

pub returns-in_err-put_parts : goal.returns-in_err-put_parts
returns-in_err-put_parts g c =
    Writes-failed _ _ _ _ _ c.from_residual.ensures.1 (PutFailed-first _ _ _ _ c.in_err-put_parts.ensures)

pub returns-in_err-write_path : goal.returns-in_err-write_path
returns-in_err-write_path g c =
    Writes-failed _ _ _ _ _ c.from_residual-in_err-write_path.ensures.1
    (PutFailed-second _ _ _ _ _ c.in_ok-put_parts.ensures
    (PutFailed-first _ _ _ _ (rw c.as_slice.ensures.value at c.in_err-write_path.ensures)))

pub returns : goal.returns
returns g c =
    Writes-then _ _ _ _ _ _ c.in_ok-put_parts.ensures
    (Writes-then _ _ _ _ _ _ (rw c.as_slice.ensures.value at c.in_ok-write_path.ensures)
    (rw (c.as_bytes.ensures.value ∙ c.format.ensures.text) at c.put_parts-2.ensures))
