use Rattle.std.proofs.Common.{◌≡◌, ◌∷◌, [], ◌++◌, ap, OnOk, List, ℕ, string_bytes, subst, ◌∙◌}
use Rattle.t1_picture.specs.Drawings.{texts_of}
use Rattle.t1_picture.specs.Marks.{reason_lines}
use Rattle.t1_picture.specs.Subjects.{subject_of}
use Rattle.t1_picture.specs.Texts.{legible_line}
use Rattle.t1_picture.proofs.Joined.{then_lines}
use Rattle.t1_picture.proofs.faults.add_lines.Goals as goal
use Rattle.t1_report.specs.Faults.{fault_value}
use Rattle.t1_report.specs.Lines.{line_of}

pub returns : goal.returns
returns c =
    let s = subject_of c.args.view.now in
    let f = fault_value c.args.fault.now in
    let old = texts_of c.args.lines.now.items in
    let mid = texts_of c.add_line.new.lines.items in
    let new = texts_of c.add_reason.new.lines.items in
    let line = string_bytes c.in_ok-line_of.field-0 in
    let below = reason_lines s.font f.rule c.args.reason in
    subst (λ (x : List (List ℕ)). OnOk c.add_reason.result (new ≡ old ++ x))
    (ap (λ (l : List ℕ). l ∷ below) c.in_ok-line_of.ensures ∙ ap (λ r. legible_line (line_of s.font s.waivers f) ∷ reason_lines s.font f.rule r) c.requires.reason)
    (then_lines c.add_reason.result old mid new (line ∷ []) below c.in_ok-add_line.ensures c.add_reason.ensures)
