use Rattle.std.proofs.Common.{◌≡◌, List, refl}
use Rattle.t1_char.specs.declared.edition.Edition.{Edition}
use Rattle.t1_font.specs.Fonts.{FontValue}
use Rattle.t1_report.specs.Waivers.{Waiver}
use Rattle.t1_run.specs.Failures.{out_of_memory_line}
use Rattle.t1_run.specs.Opening.{Sinks}
use Rattle.t1_run.specs.Telling.{Tells}
use Rattle.t1_run.specs.declared.status.Status.{Status}
use Rattle.t1_run.specs.declared.status.Status.TheVariants.{Failed}
use Rattle.t1draw.specs.CommandLine.{AskedValue, all_faulty, asked_value, one_glyph}
use Rattle.t1draw.specs.Draws.{DrawsAsked, program}
use Rattle.t1draw.specs.Draws.DrawsFolder.{no_memory as no_room}
use Rattle.t1draw.specs.Draws.DrawsGlyph.{no_memory}
use Rattle.t1draw.proofs.running.show.Goals as goal

-- memory ran out, whatever was requested
memory_out : (asked : AskedValue) (font : FontValue) (edition : Edition) (waivers : List Waiver) (sinks sinks' : Sinks) (status : Status)
    → sinks'.out ≡ sinks.out → Tells (out_of_memory_line program) Failed sinks.errors sinks'.errors status
    → DrawsAsked asked font edition waivers sinks sinks' status
memory_out (one_glyph name wanted) font edition waivers sinks sinks' status out said = no_memory out said
memory_out (all_faulty folder) font edition waivers sinks sinks' status out said = no_room out said

pub returns-in_default : goal.returns-in_default
returns-in_default g c = memory_out (asked_value c.args.options.now.asked) _ _ _ _ _ _ refl c.tell_failure.ensures

pub returns-in-Glyph : goal.returns-in-Glyph
returns-in-Glyph g c = rw c.in-Glyph.is (rw (c.as_slice.ensures.value, c.in-Ok.ensures.edition) at c.show_glyph.ensures)

pub returns : goal.returns
returns g c = rw c.in-Faulty.is (rw c.in-Ok.ensures.edition at c.show_folder.ensures)
