-- What is handed on of a font whose waivers are written, and which waivers are kept.
use Rattle.std.specs.Prelude.{◌≡◌, ◌++◌, Option}
use Rattle.t1_many.specs.Handing.{HandsFont, Keeping}
use Rattle.t1_many.specs.Outcomes.{Entry}
use Rattle.t1_many.specs.declared.policy.Lost.{Lost}
use Rattle.t1_rules.specs.declared.mask.Mask.{Mask}
use Rattle.t1_waiving.specs.FontTexts.{FontText, entry_texts}
use Rattle.t1_waiving.specs.GlyphLines.{but_waived}

-- All of a font was handed on, but the lines of its glyphs, and their waivers are kept; or it stopped there.
pub record WaivesFont (keeping : Keeping FontText) (rules : Mask) (entry : Entry) (lost : Option Lost) : Type 0 where
  pub hands : HandsFont keeping.printer (but_waived rules entry.name) entry lost
  pub keeps : keeping.new ≡ keeping.old ++ entry_texts rules entry
