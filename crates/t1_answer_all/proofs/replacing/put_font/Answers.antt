use Rattle.t1_answer_all.proofs.replacing.put_font.Goals as goal

pub returns-in-Some : goal.returns-in-Some
returns-in-Some g c = rw (c.in-Some.is, ← c.as_str.ensures.value, ← c.as_slice.ensures.value) c.put_text.ensures
