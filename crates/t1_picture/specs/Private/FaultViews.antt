-- Faults that are added one after another.
use Rattle.std.specs.Prelude.{◌≡◌, ℕ, ◌+◌, ◌-◌, ◌^◌, min, if◌then◌else◌, Bool, None, List, ◌++◌}
use Rattle.std.specs.Option.{option_to_list}
use Rattle.t1_char.specs.Turns.{MachineView}
use Rattle.t1_picture.specs.declared.causes.Cause.{Cause}
use Rattle.t1_picture.specs.declared.marks.Marks.{Marks}
use Rattle.t1_picture.specs.Marks.{AreShownOf, all_causes, lines_of, marks_from, shown_of}
use Rattle.t1_picture.specs.Subjects.{Subject}
use Rattle.t1_report.specs.Faults.{FaultValue}

-- A run executes the subject's glyph.
pub record IsRunFor (s : Subject) (m : MachineView) : Type 0 where
  pub font : m.font ≡ s.font
  pub glyph : m.glyph ≡ s.glyph
  pub edition : m.edition ≡ s.edition

-- These are the marks, the causes and the lines of the faults that are shown.
pub record AreThose (s : Subject) (faults : List FaultValue) (marks : Marks) (causes : List Cause) (lines : List (List ℕ)) : Type 0 where
  pub marks_are : marks.done.items ++ option_to_list marks.last ≡ marks_from s None (shown_of s faults)
  pub causes_are : causes ≡ all_causes s (shown_of s faults)
  pub lines_are : lines ≡ lines_of s (shown_of s faults)

abbrev pub AreAdded : Subject → Marks → List Cause → List (List ℕ) → Type 0
AreAdded s marks causes lines = (faults : List FaultValue) → AreShownOf s s.waivers faults → AreThose s faults marks causes lines

-- A count of 64 bits, with one more if so.
abbrev pub counted : ℕ → Bool → ℕ
counted count one_more = if one_more then min (count + 1) (2 ^ 64 - 1) else count
