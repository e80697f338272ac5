use Rattle.std.proofs.Common.{Global, List, String, ap, drop, map, string_bytes, ◌+◌, ◌++◌, ◌∙◌}
use Rattle.t1_answer_all.proofs.GivenEach.{given-more, given-up-to, map-push, map-within}
use Rattle.t1_answer_all.proofs.unlisted.give_unsearched.Goals as goal
use Rattle.t1_answer_all.specs.Unlisted.{unsearched}
use Rattle.t1_forms.specs.Tellings.{ToldValue}
use Rattle.t1_many.proofs.ReportLines.{lost_same}

pub returns-in_err-give : goal.returns-in_err-give
returns-in_err-give g c =
    let told = λ (folder : String Global). unsearched (string_bytes folder) in
    let folders = c.args.folders.now in
    let at = c.loop-folder.folder-index in
    given-up-to g.T.Formatter.writes _ _ _ _ (map told (drop (at + 1) folders)) _ _ c.in_err-give.field-0.0 _
    (map-within told folders (at + 1)
    ∙ ap (λ (ts : List ToldValue). ts ++ map told (drop (at + 1) folders))
    (map-push told folders at c.folder-item.result c.loop-folder-test.true c.folder-item.is))
    (lost_same {T = Unit {0}} c.from_residual.result c.in_err-give.field-0.0 c.from_residual.ensures.1) c.loop-folder.invariant
    (rw c.as_bytes.ensures.value at c.in_err-give.ensures)

pub loop-folder-preserved : goal.loop-folder-preserved
loop-folder-preserved g c =
    let told = λ (folder : String Global). unsearched (string_bytes folder) in
    given-more g.T.Formatter.writes _ _ _ _ _ _
    (map-push told c.args.folders.now c.loop-folder.folder-index c.folder-item.result c.loop-folder-test.true c.folder-item.is)
    c.loop-folder.invariant (rw c.as_bytes.ensures.value at c.in_ok-give.ensures)
