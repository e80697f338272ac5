use Rattle.t1_font.proofs.EntriesAlone.{additions_in_clear, additions_in_private}
use Rattle.t1_font.proofs.laws.idle_additions.Goals as goal

pub returns-clause-clear : goal.returns-clause-clear
returns-clause-clear c = additions_in_clear

pub returns-clause-private : goal.returns-clause-private
returns-clause-private c = additions_in_private
