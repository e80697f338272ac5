-- Waivers: a glyph's name and a rule that isn't reported of that glyph; and the text that they are read from.
use Rattle.std.specs.Prelude.{ℕ, ◌-◌, ◌==◌, ◌&&◌, ◌||◌, nat_le, if◌then◌else◌, Bool, Option, None, Some, List, [], ◌∷◌, ◌++◌, drop, length, option_and_then, option_map, take}
use Rattle.std.specs.List.{list_any}
use Rattle.t1_char.specs.declared.edition.Edition.{Edition}
use Rattle.t1_char.specs.Editions.{has_later_rules, has_latest_rules}
use Rattle.t1_font.specs.Keys.{same_name}
use Rattle.t1_scan.specs.Lengths.{run_len}
use Rattle.t1_rules.specs.declared.rule.Rule.{Rule}
use Rattle.t1_rules.specs.declared.rule.Rule.TheVariants.{C01, H05, H10, L01, P04, W03}
use Rattle.t1_rules.specs.Book.{number_of, rule_coded}

-- The most bytes of a text of waivers, and so the most waivers.
abbrev pub largest_waivers : ℕ
largest_waivers = 1048576

abbrev pub Waiver : Type 0
Waiver = List ℕ × Rule

-- The rule of this number is waived of the glyphs of this name.
abbrev pub is_waived : List Waiver → List ℕ → ℕ → Bool
is_waived waivers name n = list_any (λ w. same_name name w.0 && n == number_of w.1) waivers

-- One waiver more, unless it is there.
abbrev pub with_waiver : List Waiver → Waiver → List Waiver
with_waiver waivers w = if is_waived waivers w.0 (number_of w.1) then waivers else waivers ++ w ∷ []

-- ---- the text

-- The lines of a text, of which front begins the first: each is ended by byte 10, or by the end.
unfoldable pub lines_from : List ℕ → List ℕ → List (List ℕ)
lines_from front [] = front ∷ []
lines_from front (b ∷ bytes) = if b == 10 then front ∷ lines_from [] bytes else lines_from (front ++ b ∷ []) bytes

-- A line without byte 13, where it ends with it.
abbrev pub without_return : List ℕ → List ℕ
without_return line =
    if same_name (drop (length line - 1) line) (13 ∷ []) then take (length line - 1) line else line

-- A rule on charstrings, or the one on their steps; of those after number 70, and on the drawing, where the edition has them.
abbrev pub is_waivable : Edition → Rule → Bool
is_waivable edition rule =
    (nat_le (number_of C01) (number_of rule) && nat_le (number_of rule) (number_of L01))
    || ((has_later_rules edition && (nat_le (number_of H05) (number_of rule) && nat_le (number_of rule) (number_of W03)))
    || (has_latest_rules edition && (nat_le (number_of P04) (number_of rule) && nat_le (number_of rule) (number_of H10))))

abbrev pub waiver_by : Edition → List ℕ → Option Rule → Option Waiver
waiver_by edition name None = None
waiver_by edition name (Some rule) = if is_waivable edition rule then Some (name, rule) else None

abbrev pub waiver_at : Edition → List ℕ → List ℕ → Option Waiver
waiver_at edition name [] = None
waiver_at edition name (b ∷ code) = if b == 32 then waiver_by edition name (rule_coded code) else None

-- A name of regular bytes, byte 32, and the code of a rule.
abbrev pub waiver_of : Edition → List ℕ → Option Waiver
waiver_of edition text = waiver_at edition (take (run_len text) text) (drop (run_len text) text)

-- The waivers after a line, without byte 13 at its end; an empty one says nothing.
abbrev pub text_read : Edition → List Waiver → List ℕ → Option (List Waiver)
text_read edition waivers [] = Some waivers
text_read edition waivers (b ∷ text) = option_map (with_waiver waivers) (waiver_of edition (b ∷ text))

abbrev pub line_read : Edition → List Waiver → List ℕ → Option (List Waiver)
line_read edition waivers line = text_read edition waivers (without_return line)

unfoldable pub lines_read : Edition → List Waiver → List (List ℕ) → Option (List Waiver)
lines_read edition waivers [] = Some waivers
lines_read edition waivers (line ∷ lines) = option_and_then (λ more. lines_read edition more lines) (line_read edition waivers line)

-- The waivers of a text in an edition, each once, at its first place; none where a line is malformed.
abbrev pub waivers_of : Edition → List ℕ → Option (List Waiver)
waivers_of edition text = lines_read edition [] (lines_from [] text)
