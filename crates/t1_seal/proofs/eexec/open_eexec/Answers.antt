use Rattle.std.proofs.Common.{sym}
use Rattle.t1_seal.proofs.Sections.{binary_text, hexadecimal_text}
use Rattle.t1_seal.proofs.eexec.open_eexec.Goals as goal

pub returns-then-begins_with_digits : goal.returns-then-begins_with_digits
returns-then-begins_with_digits c =
    let text = hexadecimal_text c.args.bytes.now c.without_leading-section.result.now c.without_leading-section.ensures (sym c.if-begins_with_digits.ensures) in
    rw (← text) c.open_hexadecimal.ensures

pub returns-else-begins_with_digits : goal.returns-else-begins_with_digits
returns-else-begins_with_digits c =
    let text = binary_text c.args.bytes.now c.without_leading-section.result.now c.without_leading-section.ensures (sym c.if-begins_with_digits.ensures) in
    rw (← text) c.open_binary.ensures
