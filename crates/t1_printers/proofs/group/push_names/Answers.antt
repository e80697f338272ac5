use Rattle.std.proofs.Common.{◌++◌, append_assoc, map, sym, take}
use Rattle.std.specs.String.{string_bytes}
use Rattle.t1_printers.proofs.NamesText.{later_separator, names_step}
use Rattle.t1_printers.proofs.group.push_names.Goals as goal
use Rattle.t1_printers.specs.Tails.{names_text}

pub loop-name-preserved : goal.loop-name-preserved
loop-name-preserved c =
    let step = names_step string_bytes c.args.names.now c.loop-name.name-index c.name-item.result c.loop-name-test.true in
    let names = names_text (map string_bytes (take c.loop-name.name-index c.args.names.now)) in
    let first = append_assoc (c.args.text.now.items ++ names) c.loop-name.separator.now c.as_bytes.result.now in
    let second = append_assoc c.args.text.now.items names (c.loop-name.separator.now ++ c.as_bytes.result.now) in
    record {
      text = cc (step, first, second, c.in_ok-extend_from_slice.ensures.items, c.in_ok-extend_from_slice-2.ensures.items);
      separator = sym (later_separator c.loop-name.name-index);
    }
