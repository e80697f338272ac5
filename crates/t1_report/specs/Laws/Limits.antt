-- Which steps of a glyph the rules apply to.
use Rattle.std.specs.Prelude.{◌≡◌, ℕ, suc, ◌<◌, ◌==◌, ◌&&◌, nat_lt, false, length}
use Rattle.t1_char.specs.declared.edition.Edition.{Edition}
use Rattle.t1_char.specs.Steps.{steps_of}
use Rattle.t1_drawing.specs.DrawingRules.{box_of}
use Rattle.t1_font.specs.Fonts.{FontValue}
use Rattle.t1_rules.specs.declared.rule.Rule.TheVariants.{L01}
use Rattle.t1_rules.specs.Book.{number_of}
use Rattle.t1_rules.specs.Components.{components_of}
use Rattle.t1_rules.specs.StepRules.{breaks_at}
use Rattle.t1_report.specs.Checked.{checked}
use Rattle.t1_report.specs.Reports.{is_broken, rules_with}

-- By an edition the steps of each glyph are checked to a limit. Places of steps count from 0, and numbers of steps
-- from 1.
pub record AreCheckedTo (limit : ℕ) (edition : Edition) : Type 0 where
  -- Up to the limit a step breaks just what the edition's table of rules says of its place in the glyph. The font's
  -- components are those by the same limit.
  pub table : (font : FontValue) (glyph place n : ℕ) → glyph < length font.glyphs → place < limit →
      is_broken (checked font edition) (suc glyph) (suc place) n
      ≡ breaks_at (rules_with edition (components_of limit font) (box_of font)) n (steps_of font glyph) place
  -- The step after these breaks L01, exactly where there is one, and no other rule.
  pub first_past : (font : FontValue) (glyph n : ℕ) → glyph < length font.glyphs →
      is_broken (checked font edition) (suc glyph) (suc limit) n
      ≡ (nat_lt limit (length (steps_of font glyph)) && number_of L01 == n)
  -- Further on nothing is broken.
  pub further : (font : FontValue) (glyph place n : ℕ) → limit < place →
      is_broken (checked font edition) (suc glyph) (suc place) n ≡ false
