use Rattle.std.proofs.Common.{Some, ap, ap₂, option_map, string_bytes, sym, ◌∙◌}
use Rattle.t1_options.specs.Complaints.{settings_text, settings_usage}
use Rattle.t1_options.proofs.judging.judge_settings.Goals as goal

pub returns-in-Some-clause-wrong : goal.returns-in-Some-clause-wrong
returns-in-Some-clause-wrong c =
    ap (option_map (settings_usage (string_bytes c.args.settings.now.file))) (sym c.in-Some.ensures)
    ∙ ap Some (sym (c.in_ok-text-in-Some.ensures ∙ ap₂ settings_text c.as_str.ensures.value c.text_of.ensures))
