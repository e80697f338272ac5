use Rattle.std.proofs.Common.{SFits, w64, take, arith, rules}
use Rattle.std.proofs.lemmas.Int.{to_z-of_z}
use Rattle.t1_char.proofs.TakenNumbers.{taken_more}
use Rattle.t1_char.proofs.taking.take_numbers.Goals as goal

pub loop-first-preserved : goal.loop-first-preserved
loop-first-preserved c =
    let fits : SFits w64 c.in-Some-number_behind.number = search rules in
    taken_more c.args.ahead c.loop-first.ahead c.next_byte.new.self c.number_behind.new.self (take c.args.len c.args.cells.now) c.loop-first.cells
    c.put_in.new.cells c.loop-first.len c.in-Some.first c.in-Some-number_behind.number c.loop-first.invariant c.in-Some.ensures.byte
    c.in-Some-number_behind.ensures.token c.in-Some-number_behind.ensures.left
    (simp to_z-of_z at c.put_in.ensures) (omega (arith, c.if-len-ge-MOST_NUMBERS.false))
    c.in-Some-number_behind.ensures.near
