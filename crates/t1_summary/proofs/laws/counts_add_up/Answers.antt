use Rattle.t1_summary.proofs.Counts.{classes_add_up, rules_add_up}
use Rattle.t1_summary.proofs.TallyCounts.{fonts_add_up, lines_add_up}
use Rattle.t1_summary.proofs.laws.counts_add_up.Goals as goal

pub returns-clause-classes : goal.returns-clause-classes
returns-clause-classes c = classes_add_up

pub returns-clause-rules : goal.returns-clause-rules
returns-clause-rules c = rules_add_up

pub returns-clause-fonts : goal.returns-clause-fonts
returns-clause-fonts c = fonts_add_up

pub returns-clause-lines : goal.returns-clause-lines
returns-clause-lines c = lines_add_up
