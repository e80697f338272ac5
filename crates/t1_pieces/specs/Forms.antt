-- The lines of faults, in a form.
use Rattle.std.specs.Prelude.{ℕ, true, List}
use Rattle.std.specs.List.{flat_map}
use Rattle.t1_forms.specs.Objects.{object_line}
use Rattle.t1_printers.specs.Formatting.{told_fault}
use Rattle.t1_report.specs.Checked.{CheckedFont}
use Rattle.t1_report.specs.Faults.{FaultValue}
use Rattle.t1_report.specs.Lines.{line_of}
use Rattle.t1_report.specs.Waivers.{Waiver}
use Rattle.t1_pieces.specs.declared.form.Form.{Form}
use Rattle.t1_pieces.specs.declared.form.Form.TheVariants.{Object, Text}

abbrev pub line_as : Form → CheckedFont → List Waiver → FaultValue → List ℕ
line_as Text font waivers fault = line_of font.value waivers fault
line_as (Object name) font waivers fault = object_line (told_fault true name.now font waivers fault)

abbrev pub lines_as : Form → CheckedFont → List Waiver → List FaultValue → List ℕ
lines_as form font waivers faults = flat_map (line_as form font waivers) faults
