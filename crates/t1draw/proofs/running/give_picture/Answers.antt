use Rattle.std.proofs.Common.{refl}
use Rattle.t1draw.specs.Draws.DrawsGlyph.{drawn, no_memory}
use Rattle.t1draw.proofs.running.give_picture.Goals as goal

pub returns-in-Ok : goal.returns-in-Ok
returns-in-Ok g c = λ name wanted named is. drawn _ _ _ named is c.in-Ok.ensures (rw c.as_bytes.ensures.value at c.give.ensures)

pub returns-in-Err : goal.returns-in-Err
returns-in-Err g c = λ name wanted named is. no_memory refl c.tell_failure.ensures
