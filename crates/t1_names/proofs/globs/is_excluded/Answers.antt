use Rattle.std.proofs.Common.{ap, ◌∙◌}
use Rattle.std.specs.List.{list_any}
use Rattle.std.specs.Str.{chars}
use Rattle.t1_names.proofs.GlobLemmas.{any_of_map}
use Rattle.t1_names.specs.GlobValues.{glob_of}
use Rattle.t1_names.specs.Globs.{does_match}
use Rattle.t1_names.proofs.globs.is_excluded.Goals as goal

pub returns : goal.returns
returns c =
    c.does_one_match.ensures
    ∙ ap (λ name. list_any (λ glob. does_match (glob_of glob) name) c.args.globs.now) (c.as_slice-2.ensures.value ∙ c.in_ok-name.ensures)
    ∙ any_of_map glob_of (λ glob. does_match glob (chars c.args.name.now)) c.args.globs.now
