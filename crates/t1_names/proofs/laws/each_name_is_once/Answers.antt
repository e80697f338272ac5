use Rattle.t1_names.proofs.OnceLaws.{each_is_kept}
use Rattle.t1_names.proofs.laws.each_name_is_once.Goals as goal

pub returns-clause-kept : goal.returns-clause-kept
returns-clause-kept c = each_is_kept
