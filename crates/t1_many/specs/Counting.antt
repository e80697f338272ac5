-- The tally of what was handed on.
use Rattle.std.specs.Prelude.{◌≡◌, List, [], ◌∷◌, ◌++◌, Option, None, Some}
use Rattle.std.specs.List.{flat_map}
use Rattle.t1_many.specs.Handing.{Handed, done, failure, line}
use Rattle.t1_many.specs.declared.policy.Lost.{Lost}
use Rattle.t1_rules.specs.declared.rule.Rule.{Rule}
use Rattle.t1_summary.specs.Tallies.{tally_of}
use Rattle.t1_summary.specs.declared.found.FontClass.{FontClass}
use Rattle.t1_summary.specs.declared.tally.Tally.{Tally}

-- The lines of a thing that is handed on, by their rules, and the fonts, by how they were found.
abbrev pub lines_of : Handed → List Rule
lines_of (line name font waivers fault) = fault.rule ∷ []
lines_of (failure name reason) = []
lines_of (done name found) = []

abbrev pub fonts_of : Handed → List FontClass
fonts_of (line name font waivers fault) = []
fonts_of (failure name reason) = []
fonts_of (done name found) = found ∷ []

-- The tally of fonts and lines has these more.
abbrev pub Adds : Tally → Tally → List FontClass → List Rule → Type 0
Adds old new more_founds more_lines =
    (founds : List FontClass) (lines : List Rule) → old ≡ tally_of founds lines → new ≡ tally_of (founds ++ more_founds) (lines ++ more_lines)

-- What was taken is counted, and what wasn't isn't.
abbrev pub Counts : Tally → Tally → Handed → Option Lost → Type 0
Counts old new handed None = Adds old new (fonts_of handed) (lines_of handed)
Counts old new handed (Some lost) = new ≡ old

-- The lines of all these, and the fonts.
abbrev pub all_lines : List Handed → List Rule
all_lines handed = flat_map lines_of handed

abbrev pub all_fonts : List Handed → List FontClass
all_fonts handed = flat_map fonts_of handed
