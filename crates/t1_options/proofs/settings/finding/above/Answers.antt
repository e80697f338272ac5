use Rattle.std.proofs.Common.{◌≡◌, Some, ap, option_map, sym, ◌∙◌}
use Rattle.std.specs.Path.{path_bytes, path_parent}
use Rattle.t1_options.proofs.Above.{parent_is_shorter}
use Rattle.t1_options.proofs.settings.finding.above.Goals as goal

pub returns-in-Some-clause-shorter : goal.returns-in-Some-clause-shorter
returns-in-Some-clause-shorter c =
    let is : path_parent c.args.folder.now ≡ Some c.as_str.result.now =
    ap path_parent (sym c.new-path.ensures) ∙ sym c.parent.ensures ∙ ap (option_map path_bytes) c.in-Some.is ∙ ap Some (sym c.as_str.ensures) in
    parent_is_shorter c.args.folder.now c.as_str.result.now is
