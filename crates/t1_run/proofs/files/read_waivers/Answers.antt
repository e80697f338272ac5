use Rattle.std.proofs.Common.{Bool, Result, Ok, Err, List, ℕ, MatchResult, sym, subst, true}
use Rattle.t1_font.specs.declared.unread.RefusalCode.TheVariants.{E15}
use Rattle.t1_io.specs.Devices.{SourceState}
use Rattle.t1_run.specs.Input.{AreAll, AreUnread}
use Rattle.t1_run.specs.WaiverFiles.{IsNoWaiverText, IsWaiverText}
use Rattle.t1_run.specs.declared.failure.Failure.{Failure}
use Rattle.t1_run.proofs.FilesRead.{had, had_none, unasked}
use Rattle.t1_run.proofs.files.read_waivers.Goals as goal

-- What reading the text returns.
text_had : {X : Type 0} (bytes : X → List ℕ) (old new : SourceState) (r : Result X Failure)
    → MatchResult r (λ x. AreAll 1048576 old new (bytes x)) (AreUnread 1048576 E15 old new)
    → MatchResult r (λ x. IsWaiverText true old new (bytes x)) (IsNoWaiverText true old new)
text_had bytes old new (Ok x) all = had old new (bytes x) all
text_had bytes old new (Err failure) why = had_none old new failure why

pub returns-then-asked-clause-text : goal.returns-then-asked-clause-text
returns-then-asked-clause-text g c =
    let old = g.R.Source.state c.args.source.now in
    let new = g.R.Source.state c.read_all.new.source in
    subst (λ (asked : Bool). MatchResult c.read_all.result (λ text. IsWaiverText asked old new text.items) (IsNoWaiverText asked old new)) (sym c.if-asked.true)
    (text_had (λ text. text.items) old new c.read_all.result c.read_all.ensures.gathers)

pub returns-else-asked-clause-text : goal.returns-else-asked-clause-text
returns-else-asked-clause-text g c =
    let source = g.R.Source.state c.args.source.now in
    subst (λ asked. IsWaiverText asked source source c.new.result.items) (sym c.if-asked.false) (unasked source c.new.result.items c.new.ensures.items)
