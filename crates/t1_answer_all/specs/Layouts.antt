-- How what is chosen is written.
use Rattle.std.specs.Prelude.{ℕ, Bool, true, false, List, Option, None, Some, option_map, string_bytes}
use Rattle.t1_forms.specs.PageValues.{PageValue, PagesValue, pages_value}
use Rattle.t1_answer_all.specs.declared.layout.Layout.{Layout}
use Rattle.t1_answer_all.specs.declared.layout.Layout.TheVariants as layouts
use Rattle.t1_printers.specs.declared.terminal.Terminal.{Terminal}
use Rattle.t1_options.specs.declared.asked.Format.{Format}
use Rattle.t1_options.specs.declared.asked.Format.TheVariants.{GitHub, JUnit, JsonLines, Sarif}
use Rattle.t1_options.specs.declared.asked.Options.{Options}
use Rattle.t1_options.specs.declared.asked.Reasons.{Reasons}
use Rattle.t1_options.specs.declared.asked.Reasons.TheVariants.{Each, LeftOut}
use Rattle.t1_rules.specs.declared.mask.Mask.{Mask}

-- A line for each fault, or on a terminal one for each font and rule; lines of JSON, also of fonts without lines or not; a document of SARIF, with
-- these pages; commands of GitHub; a document of JUnit's form, in which the lines of these rules fail. Each with reasons or without.
pub data LayoutValue : Type 0 where
  lines : (reasons : Bool) → LayoutValue
  groups : Terminal → LayoutValue
  json_lines : (clean reasons : Bool) → LayoutValue
  sarif : (pages : PagesValue) (reasons : Bool) → LayoutValue
  commands : (reasons : Bool) → LayoutValue
  cases : (failing : Mask) (reasons : Bool) → LayoutValue

abbrev pub layout_value : Layout → LayoutValue
layout_value (layouts.Lines reasons) = lines reasons
layout_value (layouts.Groups terminal) = groups terminal
layout_value (layouts.JsonLines clean reasons) = json_lines clean reasons
layout_value (layouts.Sarif pages reasons) = sarif (pages_value pages) reasons
layout_value (layouts.GitHub reasons) = commands reasons
layout_value (layouts.JUnit failing reasons) = cases failing reasons

abbrev pub is_terminal : LayoutValue → Bool
is_terminal (groups terminal) = true
is_terminal _ = false

-- Each line has its reason.
abbrev pub have_each : Reasons → Bool
have_each Each = true
have_each _ = false

-- Lines that are written as one have the reason of the first.
abbrev pub have_first : Reasons → Bool
have_first LeftOut = false
have_first _ = true

-- A line for each font and rule is written where it is to be cut to some columns, and not all lines are requested.
abbrev pub lines_or_groups : Bool → Option ℕ → Bool → Reasons → LayoutValue
lines_or_groups true columns colour reasons = lines (have_each reasons)
lines_or_groups false (Some columns) colour reasons =
    groups (record { width = columns; has_colours = colour; reasons = have_first reasons })
lines_or_groups false None colour reasons = lines (have_each reasons)

-- In a form for another program where one is requested.
abbrev pub layout_by : Option Format → Options → PagesValue → LayoutValue → LayoutValue
layout_by None options pages other = other
layout_by (Some JsonLines) options pages other = json_lines options.clean (have_each options.reasons)
layout_by (Some Sarif) options pages other = sarif pages (have_each options.reasons)
layout_by (Some GitHub) options pages other = commands (have_each options.reasons)
layout_by (Some JUnit) options pages other = cases options.failing (have_each options.reasons)

-- A document has the pages that are given, at the URL of the options.
abbrev pub layout_of : List PageValue → Options → LayoutValue
layout_of list options =
    layout_by options.form options (record { list = list; docs = option_map string_bytes options.docs })
    (lines_or_groups options.long options.columns options.colour options.reasons)
