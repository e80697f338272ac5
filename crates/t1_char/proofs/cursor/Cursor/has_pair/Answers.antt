use Rattle.std.proofs.Common.{◌∙◌, ap, sym}
use Rattle.t1_char.specs.Private.Cursors.{bytes_left}
use Rattle.t1_char.specs.Private.Seacs.{has_pair}
use Rattle.std.proofs.lemmas.Bool.{ne_eqb}
use Rattle.t1_char.proofs.Pairs.{pair_behind, pair_other, pair_past}
use Rattle.t1_char.proofs.cursor.Cursor.has_pair.Goals.{else-byte-eq12-via-then-byte-eq12+else-begins_with_6, else-byte-eq12-via-else-byte-eq12}
use Rattle.t1_char.proofs.cursor.Cursor.has_pair.Goals as goal

pub loop-byte-preserved : goal.loop-byte-preserved
loop-byte-preserved c =
    let rest = bytes_left c.next_byte.new.self in
    let on = sym (ap (has_pair 0) c.in-Some.ensures.byte ∙ pair_behind c.in-Some.byte rest) ∙ c.loop-byte.invariant in
    elim c.else-byte-eq12.branch [
      | else-byte-eq12-via-then-byte-eq12+else-begins_with_6 w ↦ sym (pair_past c.in-Some.byte rest (sym w.begins_with_6.ensures ∙ w.if-begins_with_6.false)) ∙ on
      | else-byte-eq12-via-else-byte-eq12 w ↦ sym (pair_other c.in-Some.byte rest (ne_eqb c.in-Some.byte 12 w.if-byte-eq12.false)) ∙ on
    ]
