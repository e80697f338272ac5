use Rattle.std.proofs.Common.{◌∙◌, ap, sym}
use Rattle.t1_char.specs.Editions.{edition_numbered}
use Rattle.t1_web.specs.Answers.{drawn_by}
use Rattle.t1_web.proofs.t1_web_picture.Goals as goal

pub returns : goal.returns
returns c =
    drawn_by c.in-Some.edition (sym (c.numbered.ensures ∙ ap edition_numbered c.from.ensures) ∙ c.in-Some.is) c.picture-drawn.result
    (rw c.extent_of.ensures at c.picture-drawn.ensures.drawing) c.bytes_of.ensures c.status_of.ensures
