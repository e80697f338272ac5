use Rattle.t1_forms.proofs.CommandParts.{read_back, stay}
use Rattle.t1_forms.proofs.laws.commands_are_read_back.Goals as goal

pub returns-clause-read : goal.returns-clause-read
returns-clause-read c = read_back

pub returns-clause-parts : goal.returns-clause-parts
returns-clause-parts c = stay
