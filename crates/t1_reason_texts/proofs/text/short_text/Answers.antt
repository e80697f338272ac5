use Rattle.arrayvec.specs.declared.array_string.ArrayString.{ArrayString}
use Rattle.std.proofs.lemmas.Fmt.{contents_after_writes}
use Rattle.t1_reason_texts.proofs.text.short_text.Goals as goal

pub returns : goal.returns
returns c =
    rw c.new-text.ensures at
    (contents_after_writes _ (λ (s : ArrayString 512). s.bytes) (λ w bs v took. took) _ _ _ c.in_ok-write.ensures.writes)
