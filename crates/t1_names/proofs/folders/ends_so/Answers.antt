use Rattle.t1_names.proofs.FolderLemmas.{ends_are_same}
use Rattle.t1_names.proofs.folders.ends_so.Goals as goal

pub returns : goal.returns
returns c =
    ends_are_same c.eq_ignore_ascii_case.result c.args.name.now c.args.end.now c.saturating_sub-start.result c.saturating_sub-start.ensures c.requires
    c.eq_ignore_ascii_case.ensures.test
