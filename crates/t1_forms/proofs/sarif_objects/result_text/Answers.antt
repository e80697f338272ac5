use Rattle.std.proofs.Common.{◌∙◌, ap, map, option_map}
use Rattle.serde_json.specs.Written.{compact_text}
use Rattle.t1_lines.specs.Lines.{line_value}
use Rattle.t1_forms.specs.PageValues.{page_value}
use Rattle.t1_forms.specs.Tellings.{reason_value}
use Rattle.t1_forms.proofs.SarifFloats.{results_have_none}
use Rattle.t1_forms.proofs.sarif_objects.result_text.Goals as goal

pub returns : goal.returns
returns c = c.in_ok-text.ensures.text (rw c.in_ok-result_object.ensures (results_have_none (map page_value c.args.pages.now) (option_map (λ name. name.now) c.args.font) (line_value c.args.line.now) c.args.text.now (option_map (λ reason. reason_value reason.now) c.args.reason) c.args.print.now)) ∙ ap compact_text c.in_ok-result_object.ensures
