use Rattle.std.proofs.Common.{◌+◌, refl, take, arith}
use Rattle.t1_char.proofs.TakenLines.{path_all, path_few, path_len, path_line, path_near, path_none, path_numbers}
use Rattle.t1_char.proofs.taking.take_path.Goals as goal

pub loop-one-init : goal.loop-one-init
loop-one-init c = path_none c.args.passing c.args.room c.args.ahead c.requires.room

pub loop-one-preserved : goal.loop-one-preserved
loop-one-preserved c =
    let takes = c.take_numbers-stop.ensures.takes in
    let numbers = take c.take_numbers-stop.result.len c.take_numbers-stop.new.cells in
    let round = path_numbers c.args.passing c.args.room c.args.ahead c.loop-one.ahead numbers c.loop-one.passed c.loop-one.way c.take_numbers-stop.result
    c.loop-one.invariant.0 c.loop-one.invariant.1 takes c.take_numbers-stop.ensures.len c.take_numbers-stop.ensures.room in
    path_line c.args.passing c.requires.leads c.args.room c.args.ahead numbers (c.loop-one.passed + c.take_numbers-stop.result.len) takes.before c.loop-one.way c.in-Some.one
    c.further-way.result c.take_numbers-stop.result round takes.first c.in-Some.ensures.led c.further-way.ensures.value c.further-way.ensures.near
    c.further-way.ensures.moves
    (omega (arith, c.if-room-passed.true))

pub returns-in_default-clause-takes : goal.returns-in_default-clause-takes
returns-in_default-clause-takes c =
    let takes = c.take_numbers-stop.ensures.takes in
    let numbers = take c.take_numbers-stop.result.len c.take_numbers-stop.new.cells in
    let round = path_numbers c.args.passing c.args.room c.args.ahead c.loop-one.ahead numbers c.loop-one.passed c.loop-one.way c.take_numbers-stop.result
    c.loop-one.invariant.0 c.loop-one.invariant.1 takes c.take_numbers-stop.ensures.len c.take_numbers-stop.ensures.room in
    path_all c.args.passing c.requires.leads c.args.room c.args.ahead c.take_numbers-stop.new.cells numbers (c.loop-one.passed + c.take_numbers-stop.result.len) takes.before
    c.loop-one.way c.take_numbers-stop.result c.finish_path.result round takes.first refl c.finish_path.ensures

pub returns-in_default-clause-few : goal.returns-in_default-clause-few
returns-in_default-clause-few c =
    path_few (c.loop-one.passed + c.take_numbers-stop.result.len) c.loop-one.way c.take_numbers-stop.result c.finish_path.result
    c.take_numbers-stop.ensures.room c.finish_path.ensures

pub returns-in_default-clause-len : goal.returns-in_default-clause-len
returns-in_default-clause-len c =
    path_len (c.loop-one.passed + c.take_numbers-stop.result.len) c.loop-one.way c.take_numbers-stop.result c.finish_path.result
    c.take_numbers-stop.new.cells c.take_numbers-stop.ensures.len c.finish_path.ensures

pub returns-in_default-clause-near : goal.returns-in_default-clause-near
returns-in_default-clause-near c =
    path_near c.args.room c.loop-one.passed c.loop-one.way c.take_numbers-stop.result c.finish_path.result c.loop-one.invariant.1
    c.take_numbers-stop.ensures.room c.finish_path.ensures
