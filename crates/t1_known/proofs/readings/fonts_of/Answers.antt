use Rattle.std.proofs.Common.{List, [], subst}
use Rattle.std.proofs.lemmas.List.{take_all}
use Rattle.t1_known.proofs.LeftRows.{left_next, none_left}
use Rattle.t1_known.specs.Private.Fonts.{IsLeft, IsLeftToo}
use Rattle.t1_many.specs.declared.readings.Reading.{Reading}
use Rattle.t1_known.proofs.readings.fonts_of.Goals as goal

pub loop-reading-init : goal.loop-reading-init
loop-reading-init c = none_left c.new-fonts.result.entries c.new-fonts.ensures.empty

pub loop-reading-preserved : goal.loop-reading-preserved
loop-reading-preserved c =
    left_next c.args.readings.now c.loop-reading.reading-index c.reading-item.result c.loop-reading.fonts.entries c.add_font.new.fonts.entries c.loop-reading-test.true
    c.loop-reading.invariant
    (subst (λ (r : Reading). IsLeftToo r c.loop-reading.fonts.entries c.add_font.new.fonts.entries) c.reading-item.is c.in_ok-add_font.ensures)

pub returns : goal.returns
returns c =
    subst (λ (readings : List Reading). IsLeft readings [] c.loop-reading.fonts.entries)
    (take_all c.loop-reading.reading-index c.args.readings.now c.loop-reading-test.false) c.loop-reading.invariant
