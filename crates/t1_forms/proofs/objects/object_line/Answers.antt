use Rattle.std.proofs.Common.{◌∙◌, ap, ◌++◌, codes}
use Rattle.serde_json.specs.Written.{compact_text}
use Rattle.t1_forms.proofs.Floats.{has_no_float}
use Rattle.t1_forms.proofs.objects.object_line.Goals as goal

pub returns : goal.returns
returns c =
    c.in_ok-push_str.ensures.bytes
    ∙ ap (λ s. s ++ codes "\n")
    (c.in_ok-text.ensures.text (rw c.in_ok-object.ensures (has_no_float c.args.told.now)) ∙ ap compact_text c.in_ok-object.ensures)
