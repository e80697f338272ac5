use Rattle.t1_outline.proofs.PictureParts.{glyphs_without_seac_are_one_part, seacs_draw_base_and_accent}
use Rattle.t1_outline.proofs.laws.seacs_draw_their_components.Goals as goal

pub returns-clause-none : goal.returns-clause-none
returns-clause-none c = glyphs_without_seac_are_one_part

pub returns-clause-both : goal.returns-clause-both
returns-clause-both c = seacs_draw_base_and_accent
