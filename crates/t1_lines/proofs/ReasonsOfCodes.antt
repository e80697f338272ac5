-- Each number of a refusal has its one reason.
use Rattle.std.proofs.Common.{◌≡◌, inl, inr, Some, refl, sym, ◌∙◌}
use Rattle.t1_font.specs.declared.unread.Unread.TheVariants.{NotAFont, BadHeader, CutShort, NoEexec, TooShort, Unclosed, BadSubrs, BadCharStrings, BadLenIv, PastLimit, SecondSubrs, MultipleMaster, Memory}
use Rattle.t1_report.specs.declared.waivers.WaiverError.TheVariants as waivers
use Rattle.t1_lines.specs.Laws.{EachCodeIsOfAReason, MemoryAloneRefusesNone, NoCodeIsOfTwo}
use Rattle.t1_report.specs.Refusals.{refusal_code_of, Refusal}
use Rattle.t1_report.specs.Refusals.Refusal.{Font, FontTooLarge, Waivers, WaiversTooLarge}
use Rattle.t1_font.specs.declared.unread.RefusalCode.{RefusalCode}
use Rattle.t1_font.specs.declared.unread.RefusalCode.TheVariants.{E01, E02, E03, E04, E05, E06, E07, E08, E09, E10, E11, E12, E13, E14, E15}

reason_of : RefusalCode → Refusal
reason_of E01 = Font NotAFont
reason_of E02 = Font BadHeader
reason_of E03 = Font CutShort
reason_of E04 = Font NoEexec
reason_of E05 = FontTooLarge
reason_of E06 = Font TooShort
reason_of E07 = Font Unclosed
reason_of E08 = Font BadSubrs
reason_of E09 = Font BadCharStrings
reason_of E10 = Font BadLenIv
reason_of E11 = Font PastLimit
reason_of E12 = Font SecondSubrs
reason_of E13 = Font MultipleMaster
reason_of E14 = Waivers waivers.Malformed
reason_of E15 = WaiversTooLarge

of_reason : (code : RefusalCode) → refusal_code_of (reason_of code) ≡ Some code
unfolding reason_of
of_reason E01 = refl
of_reason E02 = refl
of_reason E03 = refl
of_reason E04 = refl
of_reason E05 = refl
of_reason E06 = refl
of_reason E07 = refl
of_reason E08 = refl
of_reason E09 = refl
of_reason E10 = refl
of_reason E11 = refl
of_reason E12 = refl
of_reason E13 = refl
of_reason E14 = refl
of_reason E15 = refl

some_reason : (given code : RefusalCode) (reason : Refusal) → reason ≡ reason_of given → Some given ≡ Some code → reason ≡ reason_of code
some_reason given code reason is same = cc

is_reason : (reason : Refusal) (code : RefusalCode) → refusal_code_of reason ≡ Some code → reason ≡ reason_of code
unfolding reason_of
is_reason (Font NotAFont) code is = some_reason E01 code _ refl is
is_reason (Font BadHeader) code is = some_reason E02 code _ refl is
is_reason (Font CutShort) code is = some_reason E03 code _ refl is
is_reason (Font NoEexec) code is = some_reason E04 code _ refl is
is_reason FontTooLarge code is = some_reason E05 code _ refl is
is_reason (Font TooShort) code is = some_reason E06 code _ refl is
is_reason (Font Unclosed) code is = some_reason E07 code _ refl is
is_reason (Font BadSubrs) code is = some_reason E08 code _ refl is
is_reason (Font BadCharStrings) code is = some_reason E09 code _ refl is
is_reason (Font BadLenIv) code is = some_reason E10 code _ refl is
is_reason (Font PastLimit) code is = some_reason E11 code _ refl is
is_reason (Font SecondSubrs) code is = some_reason E12 code _ refl is
is_reason (Font MultipleMaster) code is = some_reason E13 code _ refl is
is_reason (Waivers waivers.Malformed) code is = some_reason E14 code _ refl is
is_reason WaiversTooLarge code is = some_reason E15 code _ refl is
is_reason (Font Memory) code is = cc
is_reason (Waivers waivers.Memory) code is = cc

pub each : EachCodeIsOfAReason
each code = (reason_of code, of_reason code)

pub no_other : NoCodeIsOfTwo
no_other a b code first second = is_reason a code first ∙ sym (is_reason b code second)

pub memory_alone : MemoryAloneRefusesNone
memory_alone (Font Memory) none = inl refl
memory_alone (Waivers waivers.Memory) none = inr refl
memory_alone FontTooLarge none = cc
memory_alone WaiversTooLarge none = cc
memory_alone (Waivers waivers.Malformed) none = cc
memory_alone (Font NotAFont) none = cc
memory_alone (Font BadHeader) none = cc
memory_alone (Font CutShort) none = cc
memory_alone (Font NoEexec) none = cc
memory_alone (Font TooShort) none = cc
memory_alone (Font Unclosed) none = cc
memory_alone (Font BadSubrs) none = cc
memory_alone (Font BadCharStrings) none = cc
memory_alone (Font BadLenIv) none = cc
memory_alone (Font PastLimit) none = cc
memory_alone (Font SecondSubrs) none = cc
memory_alone (Font MultipleMaster) none = cc
