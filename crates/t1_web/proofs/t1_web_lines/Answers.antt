use Rattle.std.proofs.Common.{◌∙◌, ap, subst, sym}
use Rattle.t1_char.specs.Editions.{edition_numbered}
use Rattle.t1_web.specs.Answers.{handed}
use Rattle.t1_web.specs.Numbers.{IsFormOf}
use Rattle.t1_web.proofs.t1_web_lines.Goals as goal

pub returns : goal.returns
returns c =
    handed c.in-Some-numbered.edition (sym (c.numbered.ensures ∙ ap edition_numbered c.from.ensures) ∙ c.in-Some-numbered.is)
    c.in-Some.form (subst (λ wanted. IsFormOf c.args.form c.args.name.now wanted) c.in-Some.is c.form_of.ensures) c.lines-piece.result
    c.lines-piece.ensures.piece c.bytes_of.ensures c.status_of.ensures
