use Rattle.t1_run.proofs.telling.tell_no_glyph.Goals as goal

pub returns : goal.returns
returns g c = rw (c.as_bytes.ensures.value, c.as_bytes-2.ensures.value) at c.tell_parts.ensures
