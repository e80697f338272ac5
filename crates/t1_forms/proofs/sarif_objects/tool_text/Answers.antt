use Rattle.std.proofs.Common.{◌∙◌, ap}
use Rattle.serde_json.specs.Written.{compact_text}
use Rattle.t1_forms.specs.PageValues.{pages_value}
use Rattle.t1_forms.proofs.SarifFloats.{tools_have_none}
use Rattle.t1_forms.proofs.sarif_objects.tool_text.Goals as goal

pub returns : goal.returns
returns c = c.in_ok-text.ensures.text (rw c.in_ok-tool_object.ensures (tools_have_none (pages_value c.args.pages))) ∙ ap compact_text c.in_ok-tool_object.ensures
