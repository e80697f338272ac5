use Rattle.std.proofs.Common.{◌++◌, ◌-◌, ◌∙◌, ap, append_assoc, map, sym, take}
use Rattle.std.proofs.lemmas.List.{take-map}
use Rattle.std.proofs.lemmas.Result.{IfOk-equal}
use Rattle.std.specs.String.{string_bytes}
use Rattle.t1_printers.proofs.group.Group.push_tail.Goals as goal
use Rattle.t1_printers.specs.Tails.{count_text, more_text, names_text}

pub returns : goal.returns
returns c =
    let count = count_text c.args.self.now.count in
    let names = names_text (take c.args.shown (map string_bytes c.args.self.now.names.items)) in
    let more = more_text (c.args.self.now.runs - c.args.shown) in
    IfOk-equal c.push_more.result _ _ _ c.push_more.ensures
    (ap (λ k. c.push_names.new.text.items ++ more_text k) c.saturating_sub.ensures
    ∙ ap (λ t. t ++ more) (c.in_ok-push_names.ensures ∙ ap (λ t. c.push_count.new.text.items ++ t) (ap names_text (ap (λ l. map string_bytes (take c.args.shown l)) c.as_slice.ensures.value
    ∙ sym (take-map string_bytes c.args.shown c.args.self.now.names.items))) ∙ ap (λ t. t ++ names) c.in_ok-push_count.ensures)
    ∙ append_assoc (c.args.text.now.items ++ count) names more
    ∙ append_assoc c.args.text.now.items count (names ++ more))
