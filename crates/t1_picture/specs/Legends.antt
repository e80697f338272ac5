-- The lines below the drawing.
use Rattle.std.specs.Prelude.{ℕ, ◌==◌, nat_lt, if◌then◌else◌, Bool, true, false, not, Option, None, Some, List, [], ◌∷◌, ◌++◌, codes}
use Rattle.std.specs.Fmt.{decimal}
use Rattle.std.specs.List.{list_any}
use Rattle.t1_char.specs.Editions.{digit_of}
use Rattle.t1_char.specs.declared.edition.Edition.{Edition}
use Rattle.t1_char.specs.declared.edition.Edition.TheVariants.{One}
use Rattle.t1_font.specs.Fonts.{glyph_name}
use Rattle.t1_picture.specs.Causes.{is_turns}
use Rattle.t1_picture.specs.Drawings.{DrawingView}
use Rattle.t1_picture.specs.Marks.{FaultsView}
use Rattle.t1_picture.specs.Parts.{note_if}
use Rattle.t1_picture.specs.Subjects.{ShownValue, Subject, one_fault, step_of}
use Rattle.t1_forms.specs.Xml.{legible}

-- Which glyph it is, and by which edition.
abbrev pub title_of : Subject → List ℕ
title_of s = codes "glyph " ++ legible (glyph_name s.font s.glyph)

abbrev pub title_line : Edition → List ℕ → List ℕ
title_line One title = title
title_line edition title = title ++ (codes ", edition " ++ digit_of edition)

-- The last step that was requested.
abbrev pub step_line : ℕ → Option (List ℕ) → List ℕ
step_line number (Some line) = codes "up to step " ++ line
step_line number None = codes "up to step " ++ (decimal number ++ codes ", which isn't reached")

abbrev pub step_lines : Option ℕ → Option (List ℕ) → List (List ℕ)
step_lines None line = []
step_lines (Some number) line = step_line number line ∷ []

-- How many faults are waived.
abbrev pub waived_line : ℕ → List ℕ
waived_line waived =
    if waived == 1 then codes "1 waived fault isn't shown" else decimal waived ++ codes " waived faults aren't shown"

-- What is above the lines of faults: whether their numbers count in the glyph, or one is that of the report.
abbrev pub heading_of : ShownValue → List ℕ
heading_of (one_fault fault) = codes "fault, by its number in the report:"
heading_of _ = codes "faults, by numbers that count in this glyph:"

-- The others, or that there is none.
abbrev pub no_fault : ℕ → List ℕ
no_fault waived = if nat_lt 0 waived then codes "no other fault" else codes "no fault"

abbrev pub lines_or_none : List ℕ → ℕ → List (List ℕ) → List (List ℕ)
lines_or_none heading waived [] = no_fault waived ∷ []
lines_or_none heading waived (line ∷ lines) = heading ∷ line ∷ lines

abbrev pub lines_of_faults : List ℕ → FaultsView → List (List ℕ)
lines_of_faults heading faults =
    note_if (nat_lt 0 faults.waived) (waived_line faults.waived) ++ lines_or_none heading faults.waived faults.lines

abbrev pub is_empty : List ℕ → Bool
is_empty [] = true
is_empty (c ∷ cs) = false

-- What is drawn, what isn't, and the faults.
abbrev pub legend_of : Subject → DrawingView → FaultsView → List (List ℕ)
legend_of s drawing faults =
    title_line s.edition (title_of s)
    ∷ (step_lines (step_of s) drawing.last_step ++ (drawing.notes
    ++ (note_if (not (is_empty drawing.layers.unclosed)) (codes "dashed: a path that isn't closed")
    ++ (note_if (list_any is_turns faults.causes) (codes "arrows: which way each path runs")
    ++ lines_of_faults (heading_of s.shown) faults))))
