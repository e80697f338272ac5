-- The faults after a mark are the report, or the rest of it; and the numbers of marks count the faults.
use Rattle.std.specs.Prelude.{◌≡◌, ◌↔◌, ℕ, ◌+◌, ◌≤◌, List, [], ◌∷◌, drop, length, slice_get, Some, take}
use Rattle.t1_report.specs.declared.marks.Mark.{Mark}
use Rattle.t1_report.specs.Checked.{CheckedFont}
use Rattle.t1_report.specs.Faults.{FaultValue}
use Rattle.t1_report.specs.Reports.{IsReport}
use Rattle.t1_report.specs.Walks.{AreLater, HasNoneLater, IsNext, IsSoFar, first_mark, mark_of}
use Rattle.t1_report.specs.Waivers.{Waiver, largest_waivers}
use Rattle.t1_font.specs.Bounds.{most_glyphs}

-- After the first mark they are the report.
abbrev pub AreTheReport : Type 0
AreTheReport = (font : CheckedFont) (waivers : List Waiver) (faults : List FaultValue) → length font.value.glyphs ≤ most_glyphs →
    length waivers ≤ largest_waivers → AreLater font waivers first_mark faults ↔ IsReport font waivers faults

-- After the mark of a fault they are those after it in the report.
abbrev pub AreTheRest : Type 0
AreTheRest =
    (font : CheckedFont) (waivers : List Waiver) (faults : List FaultValue) (k : ℕ) (fault : FaultValue)
    (rest : List FaultValue) →
    length font.value.glyphs ≤ most_glyphs → length waivers ≤ largest_waivers →
    IsReport font waivers faults → slice_get faults k ≡ Some fault →
    AreLater font waivers (mark_of fault) rest ↔ (rest ≡ drop (k + 1) faults)

-- At the first mark no fault of the report was returned so far.
abbrev pub NoneIsGivenAtFirst : Type 0
NoneIsGivenAtFirst = (faults : List FaultValue) → IsSoFar faults 0 first_mark

-- Where k faults were returned so far, and k is the mark's number, the next fault is the one after them in the
-- report. Then k + 1 were returned, and that is the number of its mark.
abbrev pub MarksGoOnCounting : Type 0
MarksGoOnCounting =
    (font : CheckedFont) (waivers : List Waiver) (faults : List FaultValue) (k : ℕ) (mark : Mark) (fault : FaultValue) →
    length font.value.glyphs ≤ most_glyphs → length waivers ≤ largest_waivers →
    IsReport font waivers faults → IsSoFar faults k mark →
    IsNext font waivers mark fault → (slice_get faults k ≡ Some fault) × IsSoFar faults (k + 1) (mark_of fault)

-- Where none is next, all were returned.
abbrev pub AllAreGivenAtLast : Type 0
AllAreGivenAtLast = (font : CheckedFont) (waivers : List Waiver) (faults : List FaultValue) (k : ℕ) (mark : Mark) →
    IsReport font waivers faults → IsSoFar faults k mark → HasNoneLater font waivers mark → k ≡ length faults

-- These faults follow a mark, each the next one after the one before, and lead to another mark.
abbrev pub LeadTo : CheckedFont → List Waiver → Mark → List FaultValue → Mark → Type 0
LeadTo font waivers mark [] last = mark ≡ last
LeadTo font waivers mark (fault ∷ given) last =
    IsNext font waivers mark fault × LeadTo font waivers (mark_of fault) given last

-- What is returned from such a mark on is a prefix of what the report has after the first k. The mark that it
-- leads to counts on. From the first mark on it is a prefix of the report.
abbrev pub GivenAreTheFront : Type 0
GivenAreTheFront = (font : CheckedFont) (waivers : List Waiver) (faults : List FaultValue) (k : ℕ) (mark : Mark)
    (given : List FaultValue) (last : Mark) →
    length font.value.glyphs ≤ most_glyphs → length waivers ≤ largest_waivers →
    IsReport font waivers faults → IsSoFar faults k mark →
    LeadTo font waivers mark given last →
    (given ≡ take (length given) (drop k faults)) × IsSoFar faults (k + length given) last

-- The faults after such a mark are the report without the first k.
abbrev pub AreBehindTheCount : Type 0
AreBehindTheCount =
    (font : CheckedFont) (waivers : List Waiver) (faults : List FaultValue) (k : ℕ) (mark : Mark) (rest : List FaultValue) →
    length font.value.glyphs ≤ most_glyphs → length waivers ≤ largest_waivers →
    IsReport font waivers faults → IsSoFar faults k mark →
    AreLater font waivers mark rest ↔ (rest ≡ drop k faults)
