use Rattle.std.proofs.Common.{◌+◌, ◌≡◌, ◌≤◌, length, vec_capacity, vec_len}
use Rattle.t1_seal.specs.Segments.{row_of, with_front}
use Rattle.t1_seal.proofs.segments.join_row.Given as goal

abbrev pub invariant-loop-bytes : goal.invariant-loop-bytes
invariant-loop-bytes l = record {
  read : with_front l.bytes.items (row_of l.rest) ≡ row_of l.fn.row;
  room : vec_len l.bytes + length l.rest ≤ vec_capacity l.bytes;
}

abbrev pub decreases-loop-bytes : goal.decreases-loop-bytes
decreases-loop-bytes l = length l.rest
