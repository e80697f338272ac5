use Rattle.std.proofs.Common.{◌||◌, String, Global, string_bytes, ap₂, rules, tests, ◌∙◌}
use Rattle.std.proofs.lemmas.Iterator.{YieldsList-from_slice}
use Rattle.std.proofs.lemmas.Iterator.Search.{any_from_yields_List}
use Rattle.std.specs.Str.{bytes_eq}
use Rattle.t1_rules.specs.Book.{level_of}
use Rattle.t1_rules.specs.Levels.{level_text}
use Rattle.t1_options.proofs.TextTests.{any_by, none_by}
use Rattle.t1_options.specs.Choices.{is_of_levels}
use Rattle.t1_options.proofs.choices.is_of_levels.Goals as goal

pub returns : goal.returns
unfolding is_of_levels
returns c =
    let words = c.args.levels.now in
    let any = any_from_yields_List (λ (s : String Global). bytes_eq (string_bytes s) (level_text (level_of c.args.rule))) _ _ _ c.any.ensures.ran
    (YieldsList-from_slice words cc) (λ x b q k. search (rules, tests)) in
    ap₂ (λ none found. none || found) (c.is_empty.ensures ∙ none_by words)
    (any ∙ any_by (λ word. bytes_eq word (level_text (level_of c.args.rule))) words)
