use Rattle.std.proofs.Common.{◌≡◌, ◌+◌, ◌∙◌, ℕ, ap, arith, length, sym, take, true≢false}
use Rattle.t1_forms.specs.PageValues.{pages_value}
use Rattle.t1_forms.specs.Sarif.{sarif_state}
use Rattle.t1_pieces.proofs.DocumentLaws.{no_front}
use Rattle.t1_pieces.proofs.DocumentPlaces.{begins}
use Rattle.t1_pieces.proofs.DocumentResults.{rest_is_part}
use Rattle.t1_pieces.proofs.filling_documents.fill_opened.Goals as goal
use Rattle.t1_pieces.proofs.filling_documents.fill_opened.Goals.{else-matches, in-Nothing, in_default, then-matches+else-text-room}
use Rattle.t1_pieces.specs.Documents.{StandsFor, front, subject_for}
use Rattle.t1_pieces.specs.declared.stage.Stage.TheVariants.{Nothing}

pub returns-clause-piece : goal.returns-clause-piece
returns-clause-piece c = λ stands.
    let subject = subject_for c.args.writer.request.now c.args.walk.font c.args.waivers.now in
    let pages = pages_value c.args.writer.request.now.pages in
    let so : StandsFor subject c.if-matches.at (sarif_state c.args.writer.results.formatter) c.args.walk.mark
    × (take c.if-matches.used c.if-matches.room ≡ front pages c.args.reached.now.stage) = elim c.if-matches.branch [
      | then-matches+else-text-room w ↦
          let stage : c.args.reached.now.stage ≡ Nothing = elim c.match-matches.branch [
            | in-Nothing v ↦ v.in-Nothing.is
            | in_default v ↦ absurd (true≢false (sym w.if-matches.true ∙ v.matches-is))
          ] in
          let size : length w.as_bytes-text.result.now ≡ 0 + length w.as_bytes-text.result.now = omega arith in (
            rw w.at-is (begins subject _ _ _ _ _ stage stands),
            rw (w.room-is, w.used-is)
                (ap (λ (n : ℕ). take n w.put_after.new.room) size ∙ w.put_after.ensures.text ∙ w.as_bytes-text.ensures ∙ c.requires.text stage ∙ sym (ap (front pages) stage)),
          )
      | else-matches w ↦ (
        rw w.at-is stands,
        rw w.used-is (sym (no_front pages c.args.reached.now.stage (elim c.match-matches.branch [
          | in-Nothing v ↦ absurd (true≢false (sym v.matches-is ∙ w.if-matches.false))
          | in_default v ↦ v.in_default.not-Nothing
        ]))),
      )
    ] in
    rest_is_part subject _ _ _ _ _ _ _ _ so.1 (c.fill_results.ensures.rest so.0)
