use Rattle.t1_names.proofs.WordLaws.{no_dot_in_folders, no_dot_in_paths}
use Rattle.t1_names.proofs.laws.names_have_no_dot.Goals as goal

pub returns-clause-folders : goal.returns-clause-folders
returns-clause-folders c = no_dot_in_folders

pub returns-clause-paths : goal.returns-clause-paths
returns-clause-paths c = no_dot_in_paths
