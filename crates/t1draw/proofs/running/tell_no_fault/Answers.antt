use Rattle.std.proofs.Common.{inl}
use Rattle.t1draw.proofs.running.tell_no_fault.Goals as goal

pub returns-in-Ok : goal.returns-in-Ok
returns-in-Ok g c =
    inl (rw (c.as_bytes.ensures.value, c.as_bytes-in-Ok.ensures.value, c.format.ensures.text, c.as_bytes-in-Ok-2.ensures.value, c.in-Ok.ensures) at
    c.tell_parts.ensures)
