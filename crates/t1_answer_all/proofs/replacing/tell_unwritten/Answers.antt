use Rattle.t1_answer_all.proofs.replacing.tell_unwritten.Goals as goal

pub returns : goal.returns
returns g c = rw (c.as_bytes.ensures.value, c.as_bytes-2.ensures.value, c.as_bytes-3.ensures.value) at c.tell_parts.ensures
