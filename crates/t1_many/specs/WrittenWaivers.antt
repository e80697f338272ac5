-- Waivers that are written beside a font, which waive each line of a glyph that is reported.
use Rattle.std.specs.Prelude.{ℕ, List, [], ◌∷◌, ◌++◌, codes}
use Rattle.std.specs.List.{flat_map}
use Rattle.t1_rules.specs.declared.rule.Rule.{Rule}
use Rattle.t1_report.specs.Laws.WaiverLines.{waiver_line}
use Rattle.t1_report.specs.Waivers.{Waiver, with_waiver}
use Rattle.t1_lines.specs.Lines.{FaultLineValue, PlaceValue, at_key, at_step, at_waiver}

-- With the waiver of one place more: that of a step, unless it is there. Those of other places aren't waived.
abbrev pub with_place : List Waiver → PlaceValue → Rule → List Waiver
with_place waivers (at_key key index) rule = waivers
with_place waivers (at_step name path step) rule = with_waiver waivers (name, rule)
with_place waivers (at_waiver name waived) rule = waivers

abbrev pub waivers_behind : List Waiver → List FaultLineValue → List Waiver
waivers_behind waivers [] = waivers
waivers_behind waivers (l ∷ lines) = waivers_behind (with_place waivers l.place l.rule) lines

-- The waivers of lines: each pair of a glyph's name and a rule once, in the order of their first lines.
abbrev pub waivers_of_lines : List FaultLineValue → List Waiver
waivers_of_lines lines = waivers_behind [] lines

-- Their text, a line each.
abbrev pub waivers_text : List Waiver → List ℕ
waivers_text waivers = flat_map (λ w. waiver_line w ++ codes "\n") waivers
