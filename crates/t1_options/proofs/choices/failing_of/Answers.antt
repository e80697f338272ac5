use Rattle.std.proofs.Common.{List, [], ap, map, string_bytes, ◌∙◌}
use Rattle.clap.specs.Words.{Text}
use Rattle.t1_many.specs.Choice.{is_told}
use Rattle.t1_rules.specs.Book.{code_of}
use Rattle.t1_options.proofs.Levels.{told_by_level_alone}
use Rattle.t1_options.proofs.choices.failing_of.Goals as goal

pub returns : goal.returns
returns c = λ rule.
    let levels = map string_bytes c.args.levels.now in
    let others = ap (map string_bytes) c.as_slice-2.ensures.value ∙ c.in_ok-others.ensures ∙ ap (map (λ s. s.now)) c.as_slice.ensures.value
    ∙ c.in_ok-left_out.ensures in
    c.told_rules.ensures rule ∙ ap (λ (codes : List Text). is_told (record { only = []; except = codes }) (code_of rule)) others
    ∙ told_by_level_alone levels rule
