use Rattle.t1_font.proofs.FontsWithoutNotes.{fonts_have_their_notes, fonts_stay}
use Rattle.t1_font.proofs.NotesApart.{clear_stays, private_stays, values_stay}
use Rattle.t1_font.proofs.laws.noted_keys_change_nothing_else.Goals as goal

pub returns-clause-clear : goal.returns-clause-clear
returns-clause-clear c = clear_stays

pub returns-clause-private : goal.returns-clause-private
returns-clause-private c = private_stays

pub returns-clause-values : goal.returns-clause-values
returns-clause-values c = values_stay

pub returns-clause-all : goal.returns-clause-all
returns-clause-all c = fonts_have_their_notes

pub returns-clause-fonts : goal.returns-clause-fonts
returns-clause-fonts c = fonts_stay
