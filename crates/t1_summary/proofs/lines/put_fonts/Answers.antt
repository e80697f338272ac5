use Rattle.std.proofs.Common.{◌∙◌, List, ap, codes, decimal, subst, ℕ}
use Rattle.t1_io.specs.Devices.{Writes}
use Rattle.t1_summary.proofs.RuleLines.{fonts_told}
use Rattle.t1_summary.proofs.lines.put_fonts.Goals as goal
use Rattle.t1_summary.specs.Summaries.{one_or_many}

pub returns : goal.returns
returns g c =
    subst (λ (text : List ℕ). Writes (g.W.Sink.state c.args.sink.now) (g.W.Sink.state c.put_parts.new.sink) text c.put_parts.result)
    (fonts_told c.args.has_known c.args.tally.now c.as_bytes.result.now c.as_bytes-2.result.now c.as_bytes-3.result.now c.as_bytes-4.result.now
    c.as_bytes-5.result.now c.as_bytes-6.result.now c.one_or_many.result.now c.if_known.result.now c.if_known-2.result.now
    (c.as_bytes.ensures.value ∙ c.format.ensures.text ∙ ap decimal c.fonts-fonts.ensures)
    (c.as_bytes-2.ensures.value ∙ c.format-2.ensures.text ∙ ap decimal c.fonts_found.ensures)
    (c.as_bytes-3.ensures.value ∙ c.format-3.ensures.text ∙ ap decimal c.fonts_found-2.ensures)
    (c.as_bytes-4.ensures.value ∙ c.format-4.ensures.text ∙ ap decimal c.fonts_found-3.ensures)
    (c.as_bytes-5.ensures.value ∙ c.format-5.ensures.text ∙ ap decimal c.fonts_found-4.ensures)
    (c.as_bytes-6.ensures.value ∙ c.format-6.ensures.text ∙ ap decimal c.fonts_found-5.ensures)
    (c.one_or_many.ensures ∙ ap (λ (n : ℕ). one_or_many n (codes " font: ") (codes " fonts: ")) c.fonts-fonts.ensures)
    c.if_known.ensures c.if_known-2.ensures)
    c.put_parts.ensures
