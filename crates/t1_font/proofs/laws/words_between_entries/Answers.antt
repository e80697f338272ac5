use Rattle.t1_font.proofs.Steps.{words_pass, words_pass_in_codes, dup_passes_in_codes, words_pass_in_private, words_pass_in_subrs, words_pass_in_glyphs}
use Rattle.t1_font.proofs.laws.words_between_entries.Goals as goal

pub returns-clause-clear : goal.returns-clause-clear
returns-clause-clear c = words_pass

pub returns-clause-codes : goal.returns-clause-codes
returns-clause-codes c = words_pass_in_codes

pub returns-clause-dup : goal.returns-clause-dup
returns-clause-dup c = dup_passes_in_codes

pub returns-clause-private : goal.returns-clause-private
returns-clause-private c = words_pass_in_private

pub returns-clause-subrs : goal.returns-clause-subrs
returns-clause-subrs c = words_pass_in_subrs

pub returns-clause-glyphs : goal.returns-clause-glyphs
returns-clause-glyphs c = words_pass_in_glyphs
