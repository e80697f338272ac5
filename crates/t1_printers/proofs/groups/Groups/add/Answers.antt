use Rattle.std.proofs.Common.{◌<◌, arith, length, option_map}
use Rattle.std.proofs.lemmas.Result.{on_ok_weaker}
use Rattle.t1_printers.proofs.Steps.{item_added}
use Rattle.t1_printers.proofs.groups.Groups.add.Goals as goal
use Rattle.t1_printers.specs.TerminalNames.{terminal_name}

pub returns : goal.returns
returns c =
    let groups = c.args.self.now.groups in
    let less : c.from.result < length groups.items =
    omega (arith, c.from.ensures, c.number.ensures.first, c.number.ensures.last, c.args.self.now.each, groups.ok.0) in
    on_ok_weaker c.add.result
    (λ grown. item_added groups.items c.from.result c.number.result _ _ c.args.rule c.args.number (terminal_name c.args.name.now)
    (option_map (λ t. t.bytes) c.args.reason.now) c.from.ensures c.number.ensures.number less
    c.index_mut.ensures.value grown)
    c.add.ensures
