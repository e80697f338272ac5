use Rattle.std.proofs.Common.{◌∙◌, ap, option_map}
use Rattle.serde_json.specs.Written.{compact_text}
use Rattle.t1_forms.proofs.SarifFloats.{notifications_have_none}
use Rattle.t1_forms.proofs.sarif_objects.notification_text.Goals as goal

pub returns : goal.returns
returns c = c.in_ok-text.ensures.text (rw c.in_ok-notification_object.ensures (notifications_have_none (option_map (λ name. name.now) c.args.font) c.args.line.now)) ∙ ap compact_text c.in_ok-notification_object.ensures
