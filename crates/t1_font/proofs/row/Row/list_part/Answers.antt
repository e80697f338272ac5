use Rattle.std.proofs.Common.{ap, ◌∙◌}
use Rattle.t1_font.specs.declared.mode.TextMode.TheVariants.{Private}
use Rattle.t1_font.specs.declared.mode.PrivateMode.TheVariants.{Glyphs, Subrs}
use Rattle.t1_font.proofs.Entries.{list_taken}
use Rattle.t1_font.proofs.row.Row.list_part.Goals as goal

pub returns-in_ok-part-in-Private-Glyphs : goal.returns-in_ok-part-in-Private-Glyphs
returns-in_ok-part-in-Private-Glyphs c =
    list_taken c.args.self.now Glyphs c.if-self.false c.requires (c.in-Private-Glyphs.is ∙ ap Private (rw c.in-Private-Glyphs.is at c.in-Private-Glyphs.field-0-is)) _ _ c.in_ok-part-in-Private-Glyphs.left
    c.in_ok-token-in-Private-Glyphs.ensures c.in_ok-part-in-Private-Glyphs.ensures

pub returns-in_ok-part-in-Private-Subrs : goal.returns-in_ok-part-in-Private-Subrs
returns-in_ok-part-in-Private-Subrs c =
    list_taken c.args.self.now Subrs c.if-self.false c.requires (c.in-Private-Subrs.is ∙ ap Private (rw c.in-Private-Subrs.is at c.in-Private-Subrs.field-0-is)) _ _ c.in_ok-part-in-Private-Subrs.left
    c.in_ok-token-in-Private-Subrs.ensures c.in_ok-part-in-Private-Subrs.ensures
