use Rattle.t1_picture.proofs.OneFault.{font_faults_show_all_steps, glyph_faults_show_their_steps, one_fault_is_marked}
use Rattle.t1_picture.proofs.laws.a_fault_is_drawn_up_to_its_step.Goals as goal

pub returns-clause-font : goal.returns-clause-font
returns-clause-font c = font_faults_show_all_steps

pub returns-clause-glyph : goal.returns-clause-glyph
returns-clause-glyph c = glyph_faults_show_their_steps

pub returns-clause-marked : goal.returns-clause-marked
returns-clause-marked c = one_fault_is_marked
