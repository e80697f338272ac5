use Rattle.std.proofs.Common.{◌&&◌, String, Global, string_bytes, ap₂, not, rules, tests, ◌∙◌}
use Rattle.std.proofs.lemmas.Iterator.{YieldsList-from_slice}
use Rattle.std.proofs.lemmas.Iterator.Search.{all_from_yields_List}
use Rattle.t1_options.proofs.TextTests.{all_by, none_by}
use Rattle.t1_options.specs.Choices.{is_known}
use Rattle.t1_options.proofs.choices.are_known.Goals as goal

pub returns : goal.returns
returns c =
    let words = c.args.codes.now in
    let all = all_from_yields_List (λ (s : String Global). is_known (string_bytes s)) _ _ _ c.all.ensures.ran (YieldsList-from_slice words cc)
    (λ x b q k. search (rules, tests)) in
    ap₂ (λ none known. not none && known) (c.is_empty.ensures ∙ none_by words) (all ∙ all_by is_known words)
