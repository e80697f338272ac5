-- Why there is no font, or there are no waivers, to go on with, and the number of each reason.
use Rattle.std.specs.Prelude.{Option, None, Some}
use Rattle.t1_font.specs.Refusals.{unread_code}
use Rattle.t1_font.specs.declared.unread.RefusalCode.{RefusalCode}
use Rattle.t1_font.specs.declared.unread.RefusalCode.TheVariants.{E05, E14, E15}
use Rattle.t1_font.specs.declared.unread.Unread.{Unread}
use Rattle.t1_report.specs.declared.waivers.WaiverError.{WaiverError}
use Rattle.t1_report.specs.declared.waivers.WaiverError.TheVariants.{Malformed, Memory}

-- The bytes of a font's file aren't read as a font, or are more than 16,777,216; a text isn't read as waivers, or has more than 1,048,576 bytes.
pub data Refusal : Type 0 where
  Font : Unread → Refusal
  FontTooLarge : Refusal
  Waivers : WaiverError → Refusal
  WaiversTooLarge : Refusal

-- Running out of memory refuses no waivers.
abbrev pub waivers_code : WaiverError → Option RefusalCode
waivers_code Malformed = Some E14
waivers_code Memory = None

abbrev pub refusal_code_of : Refusal → Option RefusalCode
refusal_code_of (Font unread) = unread_code unread
refusal_code_of FontTooLarge = Some E05
refusal_code_of (Waivers error) = waivers_code error
refusal_code_of WaiversTooLarge = Some E15
