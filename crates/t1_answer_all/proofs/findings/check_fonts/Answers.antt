use Rattle.std.proofs.Common.{ap, min, refl, ◌-◌, ◌^◌}
use Rattle.t1_answer_all.proofs.ModeFonts.{anew_fonts, beyond_fonts, told_fonts, waived_fonts}
use Rattle.t1_answer_all.proofs.findings.check_fonts.Goals as goal
use Rattle.t1_answer_all.specs.Modes.{mode_value}
use Rattle.t1_answer_all.specs.declared.mode.Borrowed.{Borrowed}
use Rattle.t1_known.specs.Keys.{count_at}

pub returns-in-ReportAll : goal.returns-in-ReportAll
returns-in-ReportAll g c =
    let found = c.findings_of.ensures in
    rw found.printer
    (told_fonts g.F.Printer.takes (λ p. p.printer) (λ p. p.tally) (λ t. t.printer) (λ t. t.rules) _ _ _ _ _ _ _ found.lost c.new.ensures
    (record { tally_is = found.tally; readings_are = found.readings; waivers_are = found.kept }) refl (ap mode_value c.in-ReportAll.is)
    c.new-readings.ensures.items c.new-kept.ensures c.check_all-ended.ensures)

pub returns-in-ReportNew : goal.returns-in-ReportNew
returns-in-ReportNew g c =
    let found = c.findings_of-in-ReportNew.ensures in
    rw found.printer
    (beyond_fonts g.F.Printer.takes (λ p. p.printer) (λ p. p.tally) (λ t. t.printer) (λ t. t.rules) _ _ _ _ _ _ _ found.lost c.new.ensures
    (record { tally_is = found.tally; readings_are = found.readings; waivers_are = found.kept }) refl (λ t. t.readings.items) (λ t. t.known)
    (λ (b : Borrowed) key. min (count_at b.known.now key) (2 ^ 64 - 1)) c.in-ReportNew.known.now (ap mode_value c.in-ReportNew.is)
    refl c.new-readings.ensures.items refl c.new-kept.ensures c.check_all-ended-in-ReportNew.ensures)

pub returns-in-UpdateBaseline : goal.returns-in-UpdateBaseline
returns-in-UpdateBaseline g c =
    let found = c.findings_of-in-UpdateBaseline.ensures in
    rw found.printer
    (anew_fonts g.F.Printer.takes (λ p. p.printer) (λ p. p.tally) (λ t. t.printer) (λ t. t.rules) _ _ _ _ _ _ _ found.lost c.new.ensures
    (record { tally_is = found.tally; readings_are = found.readings; waivers_are = found.kept }) refl (λ t. t.readings.items)
    c.in-UpdateBaseline.field-0.now (ap mode_value c.in-UpdateBaseline.is)
    c.new-readings.ensures.items refl c.new-kept.ensures c.check_all-ended-in-UpdateBaseline.ensures)

pub returns-in-WriteWaivers : goal.returns-in-WriteWaivers
returns-in-WriteWaivers g c =
    let found = c.findings_of-in-WriteWaivers.ensures in
    rw found.printer
    (waived_fonts g.F.Printer.takes (λ p. p.printer) (λ p. p.tally) (λ t. t.printer) (λ t. t.rules) _ _ _ _ _ _ _ found.lost c.new.ensures
    (record { tally_is = found.tally; readings_are = found.readings; waivers_are = found.kept }) refl (λ t. t.kept)
    (ap mode_value c.in-WriteWaivers.is) c.new-readings.ensures.items c.new-kept.ensures refl c.check_all-ended-in-WriteWaivers.ensures)
