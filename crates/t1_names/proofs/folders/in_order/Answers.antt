use Rattle.t1_names.proofs.FolderLemmas.{in_order}
use Rattle.t1_names.proofs.folders.in_order.Goals as goal

pub returns-clause-fonts : goal.returns-clause-fonts
returns-clause-fonts c = in_order c.args.fonts.items c.sort.new.self.items c.sort.ensures.permutation c.in_ok-sort.ensures.sorted

pub returns-clause-unsearched : goal.returns-clause-unsearched
returns-clause-unsearched c = in_order c.args.unsearched.items c.sort-2.new.self.items c.sort-2.ensures.permutation c.in_ok-sort-2.ensures.sorted
