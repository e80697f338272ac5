use Rattle.std.proofs.Common.{◌≡◌, ◌+◌, List, ℕ, map, string_bytes, subst, sym, take, ◌∙◌, String, Global}
use Rattle.std.proofs.lemmas.List.{take-map, take_all}
use Rattle.t1_many.proofs.Entries.{HaveGone, all_gone, names_next, none_gone, one_gone, one_lost}
use Rattle.t1_many.proofs.ReportLines.{lost_same}
use Rattle.t1_many.proofs.checking.check_all.Goals as goal

pub loop-name-init : goal.loop-name-init
loop-name-init g c = none_gone g.T.Policy.takes g.F.FontFiles.calls _ _ _ _

pub returns-in_err-check_one : goal.returns-in_err-check_one
returns-in_err-check_one g c =
    one_lost g.T.Policy.takes g.F.FontFiles.calls c.args.beside c.args.edition
    (map string_bytes (take c.loop-name.name-index c.args.names.now)) (string_bytes c.name-item.result) _ _ _ _ _ _
    c.loop-name.invariant c.in_err-check_one.field-0.0 (map string_bytes c.args.names.now) (c.loop-name.name-index + 1)
    (take-map string_bytes _ c.args.names.now ∙ names_next string_bytes c.args.names.now c.loop-name.name-index c.name-item.result c.loop-name-test.true c.name-item.is)
    (rw c.as_str.ensures.value at c.in_err-check_one.ensures) _
    (lost_same {T = Unit {0}} c.from_residual.result c.in_err-check_one.field-0.0 c.from_residual.ensures.1)

pub loop-name-preserved : goal.loop-name-preserved
loop-name-preserved g c =
    subst (λ (ns : List (List ℕ)). HaveGone g.T.Policy.takes g.F.FontFiles.calls c.args.beside c.args.edition ns c.args.files.now
    c.check_one.new.files c.args.policy.now c.check_one.new.policy)
    (sym (names_next string_bytes c.args.names.now c.loop-name.name-index c.name-item.result c.loop-name-test.true c.name-item.is))
    (one_gone g.T.Policy.takes g.F.FontFiles.calls c.args.beside c.args.edition
    (map string_bytes (take c.loop-name.name-index c.args.names.now)) (string_bytes c.name-item.result) _ _ _ _ _ _
    c.loop-name.invariant (rw c.as_str.ensures.value at c.in_ok-check_one.ensures))

pub returns : goal.returns
returns g c =
    let whole : take c.loop-name.name-index c.args.names.now ≡ c.args.names.now = take_all c.loop-name.name-index c.args.names.now c.loop-name-test.false in
    all_gone g.T.Policy.takes g.F.FontFiles.calls c.args.beside c.args.edition (map string_bytes c.args.names.now) _ _ _ _
    (subst (λ (ns : List (String Global)). HaveGone g.T.Policy.takes g.F.FontFiles.calls c.args.beside c.args.edition (map string_bytes ns)
    c.args.files.now c.loop-name.files c.args.policy.now c.loop-name.policy) whole c.loop-name.invariant)
