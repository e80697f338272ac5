use Rattle.t1_reasons.proofs.FontLaws.{others_compare, reasons_are_against}
use Rattle.t1_reasons.proofs.laws.font_reasons_are_against_their_rules.Goals as goal

pub returns-clause-against : goal.returns-clause-against
returns-clause-against c = reasons_are_against

pub returns-clause-others : goal.returns-clause-others
returns-clause-others c = others_compare
