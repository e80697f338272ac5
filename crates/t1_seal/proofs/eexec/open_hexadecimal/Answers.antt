use Rattle.std.proofs.Common.{ap, sym}
use Rattle.t1_seal.specs.Eexec.{opened}
use Rattle.t1_seal.proofs.Digits.{all_read, blank_passed, digit_kept, none_at_end, none_at_other, none_read, pair_has_room, pair_taken}
use Rattle.t1_seal.proofs.Openings.{finished}
use Rattle.t1_seal.proofs.eexec.open_hexadecimal.Goals as goal
use Rattle.t1_seal.proofs.eexec.open_hexadecimal.Goals.{then-is_hexadecimal_digit+in-None, then-is_hexadecimal_digit+in-Some, else-is_hexadecimal_digit+else-not-is_blank_byte, else-loop-byte-test, then-loop-byte-test+else-is_hexadecimal_digit+then-not-is_blank_byte}

pub loop-byte-init : goal.loop-byte-init
loop-byte-init c = none_read _ _ c.in_ok-opening.ensures.taken c.in_ok-opening.ensures.room

pub take-requires : goal.take-requires
take-requires c = pair_has_room _ _ c.in-Some.first _ c.loop-byte-test.true (rw c.in-Some.is at c.loop-byte.invariant)

pub loop-byte-preserved : goal.loop-byte-preserved
loop-byte-preserved c = elim c.if-is_hexadecimal_digit.branch [
  | then-is_hexadecimal_digit+in-None w ↦
      rw (w.high-is, w.opening-is)
      (digit_kept _ _ _ c.loop-byte-test.true (sym w.if-is_hexadecimal_digit.ensures) (rw w.in-None.is at c.loop-byte.invariant))
  | then-is_hexadecimal_digit+in-Some w ↦
      let read = rw w.in-Some.is at c.loop-byte.invariant in
      let taken = rw w.byte_of_digits.ensures at (w.take.ensures.taken read.front read.taken) in
      rw (w.high-is, w.opening-is)
      (pair_taken _ _ w.in-Some.first _ _ c.loop-byte-test.true (sym w.if-is_hexadecimal_digit.ensures) read taken (w.take.ensures.room _ read.room))
  | else-is_hexadecimal_digit+else-not-is_blank_byte w ↦
      rw (w.high-is, w.opening-is)
      (blank_passed _ _ _ _ c.loop-byte-test.true (sym w.if-is_hexadecimal_digit.ensures) (sym w.if-not-is_blank_byte.ensures) c.loop-byte.invariant)
]

pub returns : goal.returns
returns c =
    let read = c.loop-byte.invariant in
    elim c.loop-byte-test.branch [
      | else-loop-byte-test w ↦
          finished _ _ _ (c.finish.ensures read.front read.taken)
          (ap opened (all_read _ _ _ _ (none_at_end _ _ w.loop-byte-test.false) read))
      | then-loop-byte-test+else-is_hexadecimal_digit+then-not-is_blank_byte w ↦
          finished _ _ _ (c.finish.ensures read.front read.taken)
          (ap opened (all_read _ _ _ _ (none_at_other _ _ w.loop-byte-test.true (sym w.if-is_hexadecimal_digit.ensures)
          (sym w.if-not-is_blank_byte.ensures)) read))
    ]
