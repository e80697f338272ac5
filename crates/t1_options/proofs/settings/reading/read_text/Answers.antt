use Rattle.std.proofs.Common.{ap, ap₂, rules, ◌∙◌}
use Rattle.t1_options.specs.Settings.Reading.{line_at, no_toml_text}
use Rattle.t1_options.specs.Settings.Reading.IsWrongIn.{no_toml}
use Rattle.t1_options.proofs.settings.reading.read_text.Goals as goal

pub returns-in-Some-clause-wrong : goal.returns-in-Some-clause-wrong
returns-in-Some-clause-wrong c =
    no_toml c.in-Some.span.start (search rules) (search rules)
    (c.in_ok-no_toml_text-in-Some.ensures ∙ ap₂ no_toml_text (c.as_str.ensures.value ∙ c.requires)
    (c.line_at-line.ensures ∙ ap (λ text. line_at text c.in-Some.span.start) c.as_bytes.ensures.value))
