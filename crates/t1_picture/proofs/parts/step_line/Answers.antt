use Rattle.std.proofs.Common.{◌≡◌, ℕ, IfOk, List, string_bytes, ap, subst, sym, ◌∙◌}
use Rattle.t1_forms.proofs.Written.{written}
use Rattle.t1_io.specs.Devices.{SinkState}
use Rattle.t1_picture.specs.Texts.{legible_line}
use Rattle.t1_picture.proofs.parts.step_line.Goals as goal

pub returns : goal.returns
returns c =
    subst (λ (bytes : List ℕ). IfOk c.written_line.result (λ line. string_bytes line ≡ legible_line bytes))
    (written _ _ _ _ _ c.write_step.ensures (sym c.is_err.ensures.value ∙ c.if-is_err.false) (ap (λ (s : SinkState). s.written) c.new-line.ensures)
    c.into_bytes.ensures)
    c.written_line.ensures
