use Rattle.std.proofs.Common.{◌∙◌, ap, ◌++◌, codes, refl}
use Rattle.serde_json.specs.Written.{compact_text}
use Rattle.t1_forms.proofs.objects.font_line.Goals as goal

pub returns : goal.returns
returns c =
    c.in_ok-push_str.ensures.bytes
    ∙ ap (λ s. s ++ codes "\n")
    (c.in_ok-text.ensures.text (rw c.in_ok-object.ensures refl) ∙ ap compact_text c.in_ok-object.ensures)
