-- The trace of a glyph: its steps, a line each.
use Rattle.std.specs.Prelude.{ℕ, nat_lt, if◌then◌else◌, List, [], ◌++◌, length, take, codes}
use Rattle.std.specs.List.{flat_map}
use Rattle.t1_font.specs.Fonts.{FontValue}
use Rattle.t1_char.specs.Steps.{NumberedStep, first_steps}
use Rattle.t1_char.specs.declared.edition.Edition.{Edition}
use Rattle.t1_char.specs.Editions.{limit_of}
use Rattle.t1_report.specs.Traces.{step_line}

-- The lines of steps up to the limit, and a line that says that there are more.
abbrev pub trace_text : ℕ → List NumberedStep → List ℕ
trace_text limit steps =
    flat_map step_line (take limit steps) ++ (if nat_lt limit (length steps) then codes "limit\n" else [])

-- The trace of a glyph, by its place.
abbrev pub trace_of : Edition → FontValue → ℕ → List ℕ
trace_of edition font glyph = trace_text (limit_of edition) (first_steps (limit_of edition) font glyph)
