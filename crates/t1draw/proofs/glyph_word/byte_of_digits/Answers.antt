use Rattle.std.proofs.Common.{ap, ◌∙◌}
use Rattle.std.specs.Result.{result_ok}
use Rattle.t1draw.proofs.GlyphWordLemmas.{digits_decoded, no_digits, too_few_digits}
use Rattle.t1draw.proofs.glyph_word.byte_of_digits.Goals as goal

pub returns-in_err-digits-clause-value : goal.returns-in_err-digits-clause-value
returns-in_err-digits-clause-value c = rw c.from_residual.ensures (too_few_digits _ c.in_err-digits.ensures.cases)

pub returns-in_err-byte-clause-value : goal.returns-in_err-byte-clause-value
returns-in_err-byte-clause-value c =
    let cut = c.in_ok-digits.ensures.cases in
    rw c.from_residual-in_err-byte.ensures (no_digits _ _ _ cut.0 cut.1 cut.2 (c.in_err-byte.ensures.value ∙ ap result_ok c.from_hex.ensures))

pub returns-clause-value : goal.returns-clause-value
returns-clause-value c =
    let cut = c.in_ok-digits.ensures.cases in
    digits_decoded _ _ _ _ cut.0 cut.1 cut.2 (c.in_ok-byte.ensures.value ∙ ap result_ok c.from_hex.ensures)
