use Rattle.std.proofs.Common.{arith, refl}
use Rattle.t1_report.specs.Checked.{checked}
use Rattle.t1_answer.specs.Shows.Shows.{no_room, reported}
use Rattle.t1_answer.proofs.running.report.Goals as goal

pub returns-in-Ok : goal.returns-in-Ok
returns-in-Ok g c =
    let some = c.each_font_has_a_report.ensures (checked c.args.font.now c.args.options.now.edition) c.args.waivers.now in
    reported c.requires.no_trace some.0 some.1 (c.give_report.ensures some.0 some.1)

pub returns-in-Err : goal.returns-in-Err
returns-in-Err g c = no_room c.requires.no_trace refl c.tell_failure.ensures

pub give_report-requires-clause-few_waivers : goal.give_report-requires-clause-few_waivers
give_report-requires-clause-few_waivers g c = omega (arith, c.len-few_waivers.ensures.len, c.len-few_waivers.ensures.few)
