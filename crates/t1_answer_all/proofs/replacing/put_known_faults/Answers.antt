use Rattle.t1_answer_all.proofs.replacing.put_known_faults.Goals as goal

pub returns-in-Updated-Some : goal.returns-in-Updated-Some
returns-in-Updated-Some g c =
    rw (c.in-Updated-Some.is-0, c.in-Updated-Some.is-1, ← c.as_str.ensures.value, ← c.as_slice.ensures.value) c.put_file.ensures
