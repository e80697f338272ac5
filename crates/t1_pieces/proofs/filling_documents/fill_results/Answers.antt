use Rattle.std.proofs.Common.{◌≡◌, ◌∙◌, ◌+◌, ℕ, List, length, take, ap, arith, refl, subst, sym}
use Rattle.t1_forms.specs.Sarif.{closing, sarif_state}
use Rattle.t1_forms.specs.SarifDocuments.{after_one}
use Rattle.t1_pieces.proofs.DocumentResults.{AreSoFar, end_rest, full_rest, none_so_far, one_so_far, result_length, same_subject}
use Rattle.t1_pieces.proofs.GivenLines.{at_walk}
use Rattle.t1_pieces.proofs.filling_documents.fill_results.Goals as goal
use Rattle.t1_pieces.specs.DocumentParts.{IsEndPut, Lent, start_of}
use Rattle.t1_pieces.specs.Documents.{Subject, result_of, told_of}
use Rattle.t1_pieces.specs.Documents.IsNextResult.{result}
use Rattle.t1_pieces.specs.declared.stage.Reached.{Reached}
use Rattle.t1_pieces.specs.declared.stage.Stage.TheVariants.{Results}
use Rattle.t1_report.specs.Checked.{CheckedFont}
use Rattle.t1_report.specs.Faults.{fault_value}
use Rattle.t1_report.specs.WalkViews.{WalkView}
use Rattle.t1_report.specs.Waivers.{Waiver}
use Rattle.t1_report.specs.Walks.{HasNoneLater, IsNext, mark_of}
use Rattle.t1_report.specs.declared.marks.Mark.{Mark}

pub loop-fault-init : goal.loop-fault-init
loop-fault-init c =
    let start = start_of c.args.writer c.args.walk c.args.waivers.now (take c.args.filled.used c.args.room.now) in
    record {
      font = refl;
      waivers = c.requires.waivers;
      request = refl;
      reasons = c.requires.reasons;
      kept = refl;
      size = refl;
      first = λ none. none;
      so_far = none_so_far start c.args.filled.at c.args.room.now c.args.filled.used refl c.requires.within c.requires.begun;
    }

-- All results are handed over.
pub returns-in_default-clause-rest : goal.returns-in_default-clause-rest
returns-in_default-clause-rest c = λ stands.
    let start = start_of c.args.writer c.args.walk c.args.waivers.now (take c.args.filled.used c.args.room.now) in
    let new : Lent = record { reached = c.fill_end.new.reached; room = c.fill_end.new.room } in
    end_rest start c.args.filled.at c.loop-fault.at (record { reached = c.args.reached.now; room = c.loop-fault.room }) new c.loop-fault.walk.mark
    (sarif_state c.loop-fault.writer.results.formatter) c.loop-fault.used c.fill_end.result c.loop-fault.invariant.so_far
    (λ none. c.requires.start (c.loop-fault.invariant.first none))
    (at_walk (λ (f : CheckedFont) (w : List Waiver) (m : Mark). HasNoneLater f w m) _ _ _ _ c.loop-fault.walk.mark c.loop-fault.walk.mark c.loop-fault.invariant.font
    c.loop-fault.invariant.waivers refl c.in_default.ensures.next)
    (subst (λ (r : Reached). IsEndPut (closing (sarif_state c.loop-fault.writer.results.formatter)) c.loop-fault.used c.loop-fault.at
    (record { reached = r; room = c.loop-fault.room }) new c.fill_end.result) c.loop-fault.invariant.kept c.fill_end.ensures.end)
    stands

-- The next result doesn't fit.
pub returns-then-text-room-clause-rest : goal.returns-then-text-room-clause-rest
returns-then-text-room-clause-rest c = λ stands.
    let start = start_of c.args.writer c.args.walk c.args.waivers.now (take c.args.filled.used c.args.room.now) in
    let state' = sarif_state c.loop-fault.writer.results.formatter in
    let fault = fault_value c.in-Some.fault in
    let same = same_subject c.loop-fault.writer.request.now c.args.writer.request.now c.loop-fault.writer.reasons c.args.walk.font c.args.waivers.now
    c.loop-fault.invariant.request c.loop-fault.invariant.reasons in
    full_rest start c.args.filled.at c.loop-fault.at c.args.reached.now c.loop-fault.walk.mark state' c.loop-fault.room c.as_bytes-text.result.now
    c.loop-fault.used c.full.result c.loop-fault.invariant.so_far (λ none. c.requires.start (c.loop-fault.invariant.first none))
    (result fault
    (at_walk (λ (f : CheckedFont) (w : List Waiver) (m : Mark). IsNext f w m fault) _ _ _ _ _ _ c.loop-fault.invariant.font
    c.loop-fault.invariant.waivers refl c.in-Some.ensures.next)
    (c.as_bytes-text.ensures ∙ c.in-Ok.ensures.text ∙ ap (λ (s : Subject). result_of s state' fault) same))
    c.if-text-room.true c.full.ensures.none c.full.ensures.some stands

-- It does.
pub loop-fault-preserved : goal.loop-fault-preserved
loop-fault-preserved c =
    let start = start_of c.args.writer c.args.walk c.args.waivers.now (take c.args.filled.used c.args.room.now) in
    let subject = start.subject in
    let state' = sarif_state c.loop-fault.writer.results.formatter in
    let next = sarif_state c.set_result.new.self.results.formatter in
    let fault = fault_value c.in-Some.fault in
    let same = same_subject c.loop-fault.writer.request.now c.args.writer.request.now c.loop-fault.writer.reasons c.args.walk.font c.args.waivers.now
    c.loop-fault.invariant.request c.loop-fault.invariant.reasons in
    let is : c.as_bytes-text.result.now ≡ result_of subject state' fault =
    c.as_bytes-text.ensures ∙ c.in-Ok.ensures.text ∙ ap (λ (s : Subject). result_of s state' fault) same in
    let next_is : next ≡ after_one state' (told_of subject fault) =
    c.in-Ok.ensures.state ∙ ap (λ (s : Subject). after_one state' (told_of s fault)) same in
    let count : length c.as_bytes-text.result.now ≡ length (result_of subject state' fault) = ap length is in
    let some = result_length subject state' fault in
    let fits = c.if-text-room.false in
    let within = c.loop-fault.invariant.so_far.within in
    let length_is = c.put_after.ensures.length in
    let used = c.loop-fault.used + length c.as_bytes-text.result.now in
    let one = one_so_far start c.args.filled.at c.loop-fault.at c.loop-fault.walk.mark state' next c.loop-fault.room c.put_after.new.room
    c.as_bytes-text.result.now c.loop-fault.used fault c.loop-fault.invariant.so_far
    (at_walk (λ (f : CheckedFont) (w : List Waiver) (m : Mark). IsNext f w m fault) _ _ _ _ _ _ c.loop-fault.invariant.font
    c.loop-fault.invariant.waivers refl c.in-Some.ensures.next)
    is next_is c.put_after.ensures.text (omega (arith, fits, within, length_is)) (omega (arith, count, some)) in
    record {
      font = ap (λ (w : WalkView). w.font) c.in-Some.ensures.state ∙ c.loop-fault.invariant.font;
      waivers = ap (λ (w : WalkView). w.waivers) c.in-Some.ensures.state ∙ c.loop-fault.invariant.waivers;
      request = c.in-Ok.ensures.request ∙ c.loop-fault.invariant.request;
      reasons = c.in-Ok.ensures.reasons ∙ c.loop-fault.invariant.reasons;
      kept = c.loop-fault.invariant.kept;
      size = c.put_after.ensures.length ∙ c.loop-fault.invariant.size;
      first = λ none. absurd (omega (arith, none, count, some));
      so_far = subst (λ (m : Mark). AreSoFar start c.args.filled.at
          (record { stage = Results; mark = c.mark-before.result; counts = c.counts.result.now }) m next c.put_after.new.room used)
          (sym (ap (λ (w : WalkView). w.mark) c.in-Some.ensures.state))
          (subst (λ (k : List ℕ). AreSoFar start c.args.filled.at
          (record { stage = Results; mark = c.mark-before.result; counts = k }) (mark_of fault) next c.put_after.new.room used)
          (sym c.counts.ensures)
          (subst (λ (b : Mark). AreSoFar start c.args.filled.at
          (record { stage = Results; mark = b; counts = next.counts }) (mark_of fault) next c.put_after.new.room used)
          (sym c.mark-before.ensures) one));
    }
