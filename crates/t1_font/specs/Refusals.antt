-- The number by which a file is refused, and what is printed of it, after `refused: `.
use Rattle.std.specs.Prelude.{ℕ, List, Option, None, Some, codes}
use Rattle.t1_font.specs.declared.unread.RefusalCode.{RefusalCode}
use Rattle.t1_font.specs.declared.unread.RefusalCode.TheVariants.{E01, E02, E03, E04, E05, E06, E07, E08, E09, E10, E11, E12, E13, E14, E15}
use Rattle.t1_font.specs.declared.unread.Unread.{Unread}
use Rattle.t1_font.specs.declared.unread.Unread.TheVariants.{NotAFont, BadHeader, CutShort, NoEexec, TooShort, Unclosed, BadSubrs, BadCharStrings, BadLenIv, PastLimit, SecondSubrs, MultipleMaster, Memory}

-- Running out of memory refuses none.
abbrev pub unread_code : Unread → Option RefusalCode
unread_code NotAFont = Some E01
unread_code BadHeader = Some E02
unread_code CutShort = Some E03
unread_code NoEexec = Some E04
unread_code TooShort = Some E06
unread_code Unclosed = Some E07
unread_code BadSubrs = Some E08
unread_code BadCharStrings = Some E09
unread_code BadLenIv = Some E10
unread_code PastLimit = Some E11
unread_code SecondSubrs = Some E12
unread_code MultipleMaster = Some E13
unread_code Memory = None

abbrev pub refusal_text_of : RefusalCode → List ℕ
refusal_text_of E01 = codes "E01 not a PFA or PFB"
refusal_text_of E02 = codes "E02 bad segment header"
refusal_text_of E03 = codes "E03 segment cut short"
refusal_text_of E04 = codes "E04 no eexec"
refusal_text_of E05 = codes "E05 file too large"
refusal_text_of E06 = codes "E06 encrypted part too short"
refusal_text_of E07 = codes "E07 unclosed or too deeply nested token"
refusal_text_of E08 = codes "E08 Subrs malformed"
refusal_text_of E09 = codes "E09 CharStrings malformed or absent"
refusal_text_of E10 = codes "E10 lenIV out of range"
refusal_text_of E11 = codes "E11 count past its limit"
refusal_text_of E12 = codes "E12 second Subrs"
refusal_text_of E13 = codes "E13 multiple master font"
refusal_text_of E14 = codes "E14 waivers malformed"
refusal_text_of E15 = codes "E15 waivers past their limit"

abbrev pub coded_text : Option RefusalCode → List ℕ
coded_text (Some code) = refusal_text_of code
coded_text None = codes "out of memory"

abbrev pub unread_text : Unread → List ℕ
unread_text unread = coded_text (unread_code unread)
