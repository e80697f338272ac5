use Rattle.std.proofs.Common.{sym, ◌∙◌}
use Rattle.t1_texts.proofs.Looking.{given_on}
use Rattle.t1_texts.proofs.earlier.Earlier.is_given.Goals as goal

pub tokens-preserved : goal.tokens-preserved
tokens-preserved c =
    given_on _ _ _ _ _ (sym c.in-Some.ensures.first) c.in-Some.ensures.rest c.tokens-test.true (sym c.names.ensures ∙ c.if-names.false) ∙ c.tokens.invariant
