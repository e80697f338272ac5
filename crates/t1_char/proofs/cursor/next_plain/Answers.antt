use Rattle.std.proofs.Common.{◌≡◌, ◌/◌, bit_xor, [], ap, ◌∙◌, arith}
use Rattle.t1_seal.specs.Cipher.{state_after}
use Rattle.t1_seal.specs.Laws.Cipher.{next_state}
use Rattle.t1_seal.proofs.States.{starts_at_the_start, state_runs_along}
use Rattle.t1_char.proofs.cursor.next_plain.Goals as goal

pub returns-clause-plain : goal.returns-clause-plain
returns-clause-plain c =
    let r = c.args.cipher.now.r in
    let at_start : state_after r [] ≡ r = starts_at_the_start r (omega arith) in
    c.next.ensures.plain r [] at_start ∙ ap (λ s. bit_xor c.args.byte (s / 256)) at_start

pub returns-clause-state : goal.returns-clause-state
returns-clause-state c =
    let r = c.args.cipher.now.r in
    let at_start : state_after r [] ≡ r = starts_at_the_start r (omega arith) in
    c.next.ensures.state r [] at_start ∙ state_runs_along r [] c.args.byte ∙ ap (λ s. next_state s c.args.byte) at_start
