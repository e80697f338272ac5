use Rattle.t1_seal.proofs.States.{state_step}
use Rattle.t1_seal.proofs.cipher.Cipher.next.Goals as goal

pub returns-clause-state : goal.returns-clause-state
returns-clause-state c start front is =
    rw (c.from.ensures, c.from-2.ensures) (state_step start c.args.self.now.r front c.args.byte is)
