-- What waivers change, and what they leave; how many steps are requested for one.
use Rattle.std.specs.Prelude.{◌≡◌, ℕ, suc, ◌<◌, true, false, Some, []}
use Rattle.t1_report.specs.Checked.{CheckedFont}
use Rattle.t1_report.specs.Reports.{is_broken, is_told}
use Rattle.t1_report.specs.Walks.{turns_asked, turns_for, turns_of_glyph}

-- Without waivers what is reported is what is broken.
abbrev pub ToldIsBroken : Type 0
ToldIsBroken =
    (font : CheckedFont) (unit step n : ℕ)
    → is_told font [] unit step n ≡ is_broken font unit step n

-- Without waivers no step is requested for one.
abbrev pub NoneIsAsked : Type 0
NoneIsAsked = (font : CheckedFont) (from first to : ℕ) → turns_asked font [] from first to ≡ 0

-- For a rule that a glyph breaks, the steps up to the first that breaks it are requested.
abbrev pub AskedToTheFirst : Type 0
AskedToTheFirst =
    (font : CheckedFont) (glyph n first : ℕ)
    → ((s : ℕ) → s < first → is_broken font (suc glyph) s n ≡ false)
    → is_broken font (suc glyph) first n ≡ true → turns_for font n (Some glyph) ≡ first

-- For one that it doesn't break, all turns of the glyph.
abbrev pub AskedToTheEnd : Type 0
AskedToTheEnd =
    (font : CheckedFont) (glyph n : ℕ) → ((s : ℕ) → is_broken font (suc glyph) s n ≡ false)
    → turns_for font n (Some glyph) ≡ turns_of_glyph font glyph
