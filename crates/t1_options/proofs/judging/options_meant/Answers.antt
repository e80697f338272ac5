use Rattle.std.proofs.Common.{Some, ap, option_map, sym, ◌∙◌}
use Rattle.t1_options.specs.Complaints.{usage_text}
use Rattle.t1_options.proofs.judging.options_meant.Goals as goal

pub returns-in_ok-usage_text-in-Some-clause-wrong : goal.returns-in_ok-usage_text-in-Some-clause-wrong
returns-in_ok-usage_text-in-Some-clause-wrong c = ap (option_map usage_text) (sym c.in-Some.ensures) ∙ ap Some (sym c.in_ok-usage_text-in-Some.ensures)
