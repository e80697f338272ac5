use Rattle.std.proofs.Common.{ap, sym, ◌∙◌}
use Rattle.t1_options.specs.Values.{is_number}
use Rattle.t1_options.proofs.Numbers.{number_read}
use Rattle.t1_options.proofs.values.number_in.Goals as goal

pub returns-then-is_number : goal.returns-then-is_number
returns-then-is_number c =
    c.ok.ensures.value
    ∙ number_read c.args.text.now c.parse.result c.parse.ensures.value.0
    (sym (ap is_number c.as_bytes.ensures.value) ∙ sym c.is_number.ensures ∙ c.if-is_number.true)
