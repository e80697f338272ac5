use Rattle.std.proofs.Common.{refl}
use Rattle.t1_answer_all.proofs.replacing.put_text.Goals as goal
use Rattle.t1_answer_all.specs.Replacing.TriesToPut.{there_already, tried}

pub returns-then-is_kept_back : goal.returns-then-is_kept_back
returns-then-is_kept_back g c =
    there_already (rw (c.if-is_kept_back.true, c.as_str.ensures.value, c.in-Ok.ensures) at c.is_kept_back.ensures)
    (c.tell_parts.result, rw c.as_bytes.ensures.value at c.tell_parts.ensures) refl

pub returns : goal.returns
returns g c =
    tried c.is_kept_back.new.files (rw (c.if-is_kept_back.false, c.as_str.ensures.value, c.in-Ok.ensures) at c.is_kept_back.ensures)
    (rw (c.as_str-2.ensures.value, c.in-Ok.ensures) at c.put_file.ensures)
