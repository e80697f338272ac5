-- How a waiver is written in a line.
use Rattle.std.specs.Prelude.{◌≡◌, ◌↔◌, ℕ, true, false, List, [], ◌∷◌, ◌++◌, ◌==◌, Some, IsTrue}
use Rattle.std.specs.List.{AllByRecursion, list_all, list_any}
use Rattle.t1_char.specs.declared.edition.Edition.{Edition}
use Rattle.t1_scan.specs.Bytes.{is_regular}
use Rattle.t1_rules.specs.Book.{code_of}
use Rattle.t1_report.specs.Waivers.{Waiver, is_waivable, lines_from, waiver_of}

-- A waiver that a line can hold: its name has no blank and no delimiter, and the edition waives its rule.
pub record CanBeWritten (edition : Edition) (w : Waiver) : Type 0 where
  pub name : IsTrue (list_all is_regular w.0)
  pub rule : is_waivable edition w.1 ≡ true

-- Its line: the name, a blank, and the code of the rule.
abbrev pub waiver_line : Waiver → List ℕ
waiver_line w = w.0 ++ (32 ∷ code_of w.1)

-- A text is read as a waiver exactly where it is the line of that waiver.
abbrev pub LinesAreWaivers : Type 0
LinesAreWaivers = (edition : Edition) (text : List ℕ) (w : Waiver) → (waiver_of edition text ≡ Some w) ↔ (CanBeWritten edition w × (waiver_line w ≡ text))

-- Lines with byte 10 between them.
abbrev pub joined_behind : List (List ℕ) → List ℕ
joined_behind [] = []
joined_behind (line ∷ lines) = 10 ∷ (line ++ joined_behind lines)

abbrev pub joined : List (List ℕ) → List ℕ
joined [] = []
joined (line ∷ lines) = line ++ joined_behind lines

-- The lines of a text, with byte 10 between them, are the text, and none of them has that byte.
pub record AreLinesOf (text : List ℕ) (lines : List (List ℕ)) : Type 0 where
  pub text_is : joined lines ≡ text
  pub apart : AllByRecursion (λ line. list_any (λ b. b == 10) line ≡ false) lines

abbrev pub LinesMakeTheText : Type 0
LinesMakeTheText = (text : List ℕ) → AreLinesOf text (lines_from [] text)
