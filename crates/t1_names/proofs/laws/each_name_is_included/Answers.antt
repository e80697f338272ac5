use Rattle.t1_names.proofs.OnceLaws.{each_is_included}
use Rattle.t1_names.proofs.laws.each_name_is_included.Goals as goal

pub returns : goal.returns
returns c = each_is_included
