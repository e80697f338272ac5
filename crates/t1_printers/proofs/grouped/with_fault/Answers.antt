use Rattle.std.proofs.Common.{ℕ, Bool, List, Option, ap, option_map, sym, ◌∙◌}
use Rattle.t1_font.specs.Fonts.{FontValue}
use Rattle.t1_printers.proofs.FirstReasons.{line_requested}
use Rattle.t1_printers.proofs.grouped.with_fault.Goals as goal
use Rattle.t1_printers.specs.Groups.{GroupValue}
use Rattle.t1_printers.specs.Held.{held_line, line_with}
use Rattle.t1_printers.specs.RuleGroups.{group_values, values_of, with_line}
use Rattle.t1_many.specs.Reasons.{told_text}
use Rattle.t1_report.specs.Faults.{fault_value}

pub returns-clause-added : goal.returns-clause-added
returns-clause-added g c =
    let writing = g.T.GroupForm.writing c.args.form.now in
    let font = c.args.reasons.now in
    let waivers = c.args.waivers.now in
    let fault = fault_value c.args.fault.now in
    let groups = group_values c.in_ok-groups.groups in
    c.in_ok-add_fault.ensures
    ∙ ap (λ (f : FontValue). with_line groups (line_with f waivers fault (option_map (λ t. t.bytes) c.in-Ok.reason))) (sym c.requires.font)
    ∙ ap (λ (t : Option (List ℕ)). with_line groups (line_with font.value waivers fault t)) c.in-Ok.ensures.text
    ∙ ap (λ (b : Bool). with_line groups (line_with font.value waivers fault (told_text b font waivers fault)))
    c.requests_reason-is_told.ensures
    ∙ line_requested groups writing.reasons font waivers fault
    ∙ ap (λ (gs : List GroupValue). with_line gs (held_line writing.reasons font waivers fault))
    (c.in_ok-groups.ensures ∙ ap (λ (room : ℕ). values_of room c.args.groups) c.room.ensures)
