use Rattle.std.proofs.Common.{ap, rules, tests, ◌∙◌}
use Rattle.std.proofs.lemmas.Iterator.{YieldsList-from_slice}
use Rattle.std.proofs.lemmas.Iterator.Search.{any_from_yields_List}
use Rattle.std.specs.List.{list_any}
use Rattle.t1_many.specs.Choice.{picks}
use Rattle.t1_rules.specs.Book.{code_of}
use Rattle.t1_rules.specs.declared.rule.Rule.{Rule}
use Rattle.t1_options.specs.Choices.{is_known}
use Rattle.t1_options.proofs.choices.is_known.Goals as goal

pub returns : goal.returns
unfolding is_known
returns c =
    any_from_yields_List (λ (rule : Rule). picks (code_of rule) c.args.code.now) _ _ _ c.any.ensures.ran
    (YieldsList-from_slice c.all_rules.result.now cc) (λ x b q k. search (rules, tests))
    ∙ ap (list_any (λ (rule : Rule). picks (code_of rule) c.args.code.now)) c.all_rules.ensures
