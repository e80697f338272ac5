use Rattle.std.proofs.Common.{arith}
use Rattle.std.proofs.lemmas.Result.{err_from_is_err_and}
use Rattle.t1_seal.proofs.Rows.{payload_read, row_ended, row_over, row_refused, segment_of-shorter}
use Rattle.t1_seal.proofs.segments.join_row.Goals as goal

pub returns-in_err-first_segment : goal.returns-in_err-first_segment
returns-in_err-first_segment c =
    let p = err_from_is_err_and c.from_residual-in_err-first_segment.result c.from_residual-in_err-first_segment.ensures.1 in
    rw (p.1, p.2) (row_refused _ _ _ _ c.loop-bytes.invariant.read c.in_err-first_segment.ensures)

pub returns-in-Nothing : goal.returns-in-Nothing
returns-in-Nothing c = row_over _ _ _ c.loop-bytes.invariant.read (rw c.in-Nothing.is at c.in_ok-first_segment.ensures)

pub returns-in-End : goal.returns-in-End
returns-in-End c =
    rw c.is_empty-trailing.ensures
    (row_ended _ _ _ _ c.loop-bytes.invariant.read (rw c.in-End.is at c.in_ok-first_segment.ensures))

pub unwrap-requires : goal.unwrap-requires
unwrap-requires c =
    let part = rw c.in-Payload.is at c.in_ok-first_segment.ensures in
    let shorter = segment_of-shorter _ _ _ part in
    c.extend_from_slice.ensures.succeeds (omega (arith, c.loop-bytes.invariant.room, shorter))

pub loop-bytes-smaller : goal.loop-bytes-smaller
loop-bytes-smaller c =
    let part = rw c.in-Payload.is at c.in_ok-first_segment.ensures in
    let shorter = segment_of-shorter _ _ _ part in
    omega (arith, shorter)

pub loop-bytes-preserved : goal.loop-bytes-preserved
loop-bytes-preserved c =
    let part = rw c.in-Payload.is at c.in_ok-first_segment.ensures in
    let shorter = segment_of-shorter _ _ _ part in
    let items = rw c.unwrap.ensures at c.extend_from_slice.ensures.items in
    let len = rw c.unwrap.ensures at c.extend_from_slice.ensures.len in
    record {
      read = rw items (payload_read _ _ _ _ _ c.loop-bytes.invariant.read part);
      room = omega (arith, c.loop-bytes.invariant.room, shorter, len, c.extend_from_slice.ensures.capacity);
    }
