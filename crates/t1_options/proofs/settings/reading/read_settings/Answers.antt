use Rattle.std.proofs.Common.{ap, ap₂, rules, ◌∙◌}
use Rattle.t1_options.specs.Settings.Reading.{line_at, no_toml_text}
use Rattle.t1_options.specs.Settings.Reading.IsWrongIn.{no_toml}
use Rattle.t1_options.proofs.settings.reading.read_settings.Goals as goal

pub returns-in_ok-no_toml_text-in-Err-clause-wrong : goal.returns-in_ok-no_toml_text-in-Err-clause-wrong
returns-in_ok-no_toml_text-in-Err-clause-wrong c =
    no_toml c.in-Err.error.valid_up_to (search rules) (search rules)
    (c.in_ok-no_toml_text-in-Err.ensures ∙ ap₂ no_toml_text (c.as_str.ensures.value ∙ c.requires)
    (c.line_at-line.ensures ∙ ap (line_at c.args.text.now) c.valid_up_to.ensures))
