-- What is known of a glyph's parts after one step more of it.
use Rattle.std.specs.Prelude.{if◌then◌else◌, Option, Some, None}
use Rattle.t1_char.specs.Seacs.{step_is_seac}
use Rattle.t1_char.specs.Steps.{StepView}
use Rattle.t1_outline.specs.declared.composition.Metrics.{Metrics}
use Rattle.t1_outline.specs.declared.composition.Seac.{Seac}
use Rattle.t1_outline.specs.Parts.{metrics_in, seac_in, sets_metrics}

-- The first metrics stay.
abbrev pub metrics_with : Option Metrics → StepView → Option Metrics
metrics_with None step = if sets_metrics step then Some (metrics_in step) else None
metrics_with (Some metrics) step = Some metrics

abbrev pub seac_with : Option Seac → StepView → Option Seac
seac_with seac step = if step_is_seac step then Some (seac_in step) else seac
