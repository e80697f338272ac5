-- The statements of laws: how faults are written, that a line tells one fault, what names were read, and that a refusal has one reason.
use Rattle.std.specs.Prelude.{◌≡◌, ◌⊎◌, ℕ, List, ◌∷◌, ◌++◌, codes, Ok, None, Some}
use Rattle.t1_char.specs.declared.edition.Edition.{Edition}
use Rattle.t1_font.specs.ClearText.{clear_of}
use Rattle.t1_font.specs.Fonts.{FontValue, Marks}
use Rattle.t1_font.specs.Texts.{font_read}
use Rattle.t1_font.specs.TextTurns.{TextRead}
use Rattle.t1_font.specs.declared.unread.Unread.TheVariants as unread
use Rattle.t1_report.specs.Faults.{FaultValue}
use Rattle.t1_report.specs.Lines.{IsInFont, line_of}
use Rattle.t1_report.specs.Waivers.{Waiver, waivers_of}
use Rattle.t1_report.specs.declared.waivers.WaiverError.TheVariants as waivers
use Rattle.t1_lines.specs.Lines.{FaultLineValue, IsFaultLine, IsSmall, fault_spelled, line_in}
use Rattle.t1_lines.specs.Names.{HasNames, HaveNames}
use Rattle.t1_report.specs.Refusals.{refusal_code_of, Refusal}
use Rattle.t1_report.specs.Refusals.Refusal.{Font, Waivers}
use Rattle.t1_font.specs.declared.unread.RefusalCode.{RefusalCode}

-- The line of a fault is one, and is written as it is spelled, ended by byte 10.
abbrev pub FaultsAreWrittenAsLines : Type 0
FaultsAreWrittenAsLines = (font : FontValue) (waivers : List Waiver) (fault : FaultValue) → HasNames font → HaveNames waivers →
    IsInFont font waivers fault → IsSmall fault →
    IsFaultLine (line_in font waivers fault)
    × (line_of font waivers fault ≡ fault_spelled (line_in font waivers fault) ++ codes "\n")

-- No text is that of two lines: it says the number, the place and the rule.
abbrev pub ATextIsOneLine : Type 0
ATextIsOneLine = (a b : FaultLineValue) → IsFaultLine a → IsFaultLine b → fault_spelled a ≡ fault_spelled b → a ≡ b

-- Two faults of a font and its waivers whose lines are written alike have one number, one place and one rule.
abbrev pub AWrittenLineTellsOneFault : Type 0
AWrittenLineTellsOneFault = (font : FontValue) (waivers : List Waiver) (a b : FaultValue) → HasNames font → HaveNames waivers →
    IsInFont font waivers a → IsInFont font waivers b → IsSmall a → IsSmall b →
    line_of font waivers a ≡ line_of font waivers b →
    line_in font waivers a ≡ line_in font waivers b

-- A colon and a blank are nowhere in a name.
abbrev pub HasNoColon : List ℕ → Type 0
HasNoColon name = (front rest : List ℕ) → ¬ (name ≡ front ++ (58 ∷ 32 ∷ rest))

-- Behind such a name `NAME: LINE` is split in one way.
abbrev pub APrintedLineSplitsOnce : Type 0
APrintedLineSplitsOnce = (name other line more : List ℕ) → HasNoColon name → HasNoColon other →
    name ++ (58 ∷ 32 ∷ line) ≡ other ++ (58 ∷ 32 ∷ more) → (name ≡ other) × (line ≡ more)

-- The glyphs of a font that was read have such names.
abbrev pub FontsHaveNames : Type 0
FontsHaveNames = (marks : Marks) (text private_text : List ℕ) (clear : TextRead) (v : FontValue) →
    clear_of marks text ≡ Ok clear → font_read marks clear.stated private_text ≡ Ok v → HasNames v

-- So have waivers that were read.
abbrev pub WaiversHaveNames : Type 0
WaiversHaveNames = (edition : Edition) (text : List ℕ) (waivers : List Waiver) → waivers_of edition text ≡ Some waivers → HaveNames waivers

-- Each number of a refusal is that of a reason.
abbrev pub EachCodeIsOfAReason : Type 0
EachCodeIsOfAReason = (code : RefusalCode) → (reason : Refusal) × (refusal_code_of reason ≡ Some code)

-- No number is that of two.
abbrev pub NoCodeIsOfTwo : Type 0
NoCodeIsOfTwo =
    (a b : Refusal) (code : RefusalCode) → refusal_code_of a ≡ Some code → refusal_code_of b ≡ Some code → a ≡ b

-- A reason without a number is running out of memory, in reading a font or waivers.
abbrev pub MemoryAloneRefusesNone : Type 0
MemoryAloneRefusesNone =
    (reason : Refusal) → refusal_code_of reason ≡ None → (reason ≡ Font unread.Memory) ⊎ (reason ≡ Waivers waivers.Memory)
