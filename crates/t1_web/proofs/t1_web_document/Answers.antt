use Rattle.std.proofs.Common.{◌∙◌, ap, sym}
use Rattle.t1_char.specs.Editions.{edition_numbered}
use Rattle.t1_pieces.specs.declared.stage.Stage.{Stage}
use Rattle.t1_web.proofs.Documents.{document_handed, stage_back}
use Rattle.t1_web.proofs.t1_web_document.Goals as goal
use Rattle.t1_web.specs.Numbers.{reached_of, stage_of}

pub returns : goal.returns
returns c = (
  _,
  document_handed _ c.args.name.now c.in-Ok.name.now (edition_numbered c.args.edition) c.in-Some.edition c.args.font.now c.args.waivers.now
      (reached_of c.args.reached.now) _ _ c.document_with-part.new.place
      (record { room = c.document_with-part.new.room; written = c.bytes_of.result; status = c.status_of.result }) c.document_with-part.result
      (sym (c.numbered.ensures ∙ ap edition_numbered c.from.ensures) ∙ c.in-Some.is) c.in-Ok.ensures.cases.0
      (ap (λ (s : Stage). record (reached_of c.args.reached.now) { stage = s }) c.stage_of.ensures)
      (ap (λ (s : Stage). record c.document_with-part.new.place { stage = s })
      (sym (ap stage_of c.stage_number-reached.ensures ∙ stage_back c.document_with-part.new.place.stage)))
      c.document_with-part.ensures c.bytes_of.ensures c.status_of.ensures,
)
