use Rattle.std.proofs.Common.{◌≡◌, ℕ, IfOk, List, string_bytes, ap, subst, sym, ◌∙◌}
use Rattle.t1_forms.proofs.Written.{written}
use Rattle.t1_io.specs.Devices.{SinkState}
use Rattle.t1draw.specs.Folders.{shown_line}
use Rattle.t1draw.proofs.index.line_of.Goals as goal

pub returns : goal.returns
returns c =
    subst (λ (bytes : List ℕ). IfOk c.shown_line.result (λ line. string_bytes line ≡ shown_line bytes))
    (written _ _ _ _ _ c.write_fault.ensures (sym c.is_err.ensures.value ∙ c.if-is_err.false) (ap (λ (s : SinkState). s.written) c.new-line.ensures)
    c.into_bytes.ensures)
    c.shown_line.ensures
