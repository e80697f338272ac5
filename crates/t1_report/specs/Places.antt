-- Where faults are.
use Rattle.std.specs.Prelude.{◌+◌, ◌-◌, ◌/◌, ◌%◌, ◌==◌, length, if◌then◌else◌}
use Rattle.t1_font.specs.Fonts.{FontValue}
use Rattle.t1_rules.specs.Keys.{index_count}
use Rattle.t1_report.specs.Faults.{FaultValue}
use Rattle.t1_report.specs.declared.places.FaultPlace.{FaultPlace}
use Rattle.t1_report.specs.declared.places.FaultPlace.TheVariants.{Glyph, Key, Waiver}

-- By its unit: 0 is the font, the one after its glyphs is the waivers'.
abbrev pub fault_place : FontValue → FaultValue → FaultPlace
fault_place font fault =
    if fault.unit == 0 then Key (fault.step / index_count) (fault.step % index_count)
    else (if fault.unit == length font.glyphs + 1 then Waiver (fault.step - 1) else Glyph (fault.unit - 1))
