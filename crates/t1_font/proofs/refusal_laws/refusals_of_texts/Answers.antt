use Rattle.t1_font.proofs.Refused.{clear_refusals, clear_read_refusals, private_refusals, font_read_refusals, font_after_refusals}
use Rattle.t1_font.proofs.refusal_laws.refusals_of_texts.Goals as goal

pub returns-clause-clear : goal.returns-clause-clear
returns-clause-clear c = clear_refusals

pub returns-clause-clear_read : goal.returns-clause-clear_read
returns-clause-clear_read c = clear_read_refusals

pub returns-clause-private : goal.returns-clause-private
returns-clause-private c = private_refusals

pub returns-clause-font_read : goal.returns-clause-font_read
returns-clause-font_read c = font_read_refusals

pub returns-clause-font_after : goal.returns-clause-font_after
returns-clause-font_after c = font_after_refusals
