use Rattle.std.proofs.Common.{◌&&◌, String, Global, is_some, string_bytes, ap₂, not, rules, tests, ◌∙◌}
use Rattle.std.proofs.lemmas.Iterator.{YieldsList-from_slice}
use Rattle.std.proofs.lemmas.Iterator.Search.{all_from_yields_List}
use Rattle.t1_rules.specs.Levels.{level_named}
use Rattle.t1_options.specs.Choices.{are_levels}
use Rattle.t1_options.proofs.TextTests.{all_by, none_by}
use Rattle.t1_options.proofs.choices.are_levels.Goals as goal

pub returns : goal.returns
unfolding are_levels
returns c =
    let words = c.args.words.now in
    let all = all_from_yields_List (λ (s : String Global). is_some (level_named (string_bytes s))) _ _ _ c.all.ensures.ran (YieldsList-from_slice words cc)
    (λ x b q k. search (rules, tests)) in
    ap₂ (λ none known. not none && known) (c.is_empty.ensures ∙ none_by words) (all ∙ all_by (λ word. is_some (level_named word)) words)
