use Rattle.std.proofs.Common.{Err, None, Ok, Some, ap, subst, sym, ◌∙◌}
use Rattle.t1_options.proofs.Judged.{passed_on}
use Rattle.t1_options.specs.Settings.Finding.{IsWrongAt, unread_text}
use Rattle.t1_options.specs.Settings.Finding.AreNearest.{here, higher, nowhere}
use Rattle.t1_options.specs.Settings.Finding.IsWrongAt.{higher as wrong_higher, unread, wrong}
use Rattle.t1_options.specs.Settings.Reading.{IsWrongIn, settings_value}
use Rattle.t1_options.proofs.settings.finding.nearest.Goals as goal

pub returns-in-Some-Ok-clause-nearest : goal.returns-in-Some-Ok-clause-nearest
returns-in-Some-Ok-clause-nearest g c =
    let reads = g.F.FileSystem.asks.ReadsText c.loop-file.files c.text.new.self in
    let asked = subst (λ n. reads n (Some (Ok c.in-Some-Ok.text.items))) (c.as_str.ensures.value ∙ c.in_ok-file.ensures)
    (rw (c.in-Some-Ok.is ∙ ap Some c.in-Some-Ok.field-0-is) at c.text.ensures) in
    c.loop-file.invariant.1 c.text.new.self _
    (here c.loop-file.files c.text.new.self c.loop-file.folder.now c.in-Some-Ok.text.items (settings_value c.in_ok-settings-in-Some-Ok.settings) asked
    (rw c.as_slice.ensures.value at c.in_ok-settings-in-Some-Ok.ensures.settings))

pub returns-in_err-settings-in-Some-Ok-clause-wrong : goal.returns-in_err-settings-in-Some-Ok-clause-wrong
returns-in_err-settings-in-Some-Ok-clause-wrong g c =
    let reads = g.F.FileSystem.asks.ReadsText c.loop-file.files c.text.new.self in
    let asked = subst (λ n. reads n (Some (Ok c.in-Some-Ok.text.items))) (c.as_str.ensures.value ∙ c.in_ok-file.ensures)
    (rw (c.in-Some-Ok.is ∙ ap Some c.in-Some-Ok.field-0-is) at c.text.ensures) in
    passed_on (IsWrongIn c.loop-file.folder.now c.as_slice.result.now)
    (IsWrongAt g.F.FileSystem.asks c.args.files.now c.text.new.self c.args.start.now)
    c.from_residual-in_err-settings-in-Some-Ok.result c.in_err-settings-in-Some-Ok.field-0.0 c.from_residual-in_err-settings-in-Some-Ok.ensures.1
    c.in_err-settings-in-Some-Ok.ensures.wrong
    (λ told is. c.loop-file.invariant.2 c.text.new.self told
    (wrong c.loop-file.files c.text.new.self c.loop-file.folder.now c.in-Some-Ok.text.items told asked (rw c.as_slice.ensures.value at is)))

pub returns-in-Some-Err-clause-wrong : goal.returns-in-Some-Err-clause-wrong
returns-in-Some-Err-clause-wrong g c =
    let reads = g.F.FileSystem.asks.ReadsText c.loop-file.files c.text.new.self in
    let asked = subst (λ n. reads n (Some (Err c.of.result))) (c.as_str.ensures.value ∙ c.in_ok-file.ensures)
    (rw c.of.ensures (rw (c.in-Some-Err.is ∙ ap Some c.in-Some-Err.field-0-is) at c.text.ensures)) in
    subst (IsWrongAt g.F.FileSystem.asks c.args.files.now c.text.new.self c.args.start.now)
    (ap (λ file. unread_text file c.of.result) (sym (c.as_str-in-Some-Err.ensures.value ∙ c.in_ok-file.ensures)) ∙ sym c.in_ok-text-in-Some-Err.ensures)
    (c.loop-file.invariant.2 c.text.new.self _ (unread c.loop-file.files c.text.new.self c.loop-file.folder.now c.of.result asked))

pub returns-in-None-above-clause-nearest : goal.returns-in-None-above-clause-nearest
returns-in-None-above-clause-nearest g c =
    let reads = g.F.FileSystem.asks.ReadsText c.loop-file.files c.text.new.self in
    let asked = subst (λ n. reads n None) (c.as_str.ensures.value ∙ c.in_ok-file.ensures) (rw c.in-None.is at c.text.ensures) in
    c.loop-file.invariant.1 c.text.new.self None
    (nowhere c.loop-file.files c.text.new.self c.loop-file.folder.now asked (sym c.in-None-above.ensures.value))

pub loop-file-preserved : goal.loop-file-preserved
loop-file-preserved g c =
    let reads = g.F.FileSystem.asks.ReadsText c.loop-file.files c.text.new.self in
    let asked = subst (λ n. reads n None) (c.as_str.ensures.value ∙ c.in_ok-file.ensures) (rw c.in-None.is at c.text.ensures) in (
      search,
      λ new settings are. c.loop-file.invariant.1 new settings
          (higher c.loop-file.files c.text.new.self new c.loop-file.folder.now c.in-Some.next.now settings asked (sym c.in-Some.ensures.value) are),
      λ new told is. c.loop-file.invariant.2 new told
          (wrong_higher c.loop-file.files c.text.new.self new c.loop-file.folder.now c.in-Some.next.now told asked (sym c.in-Some.ensures.value) is),
    )
