use Rattle.std.proofs.Common.{◌+◌, ◌*◌, ap, refl, arith}
use Rattle.t1_report.proofs.PlaceSearch.{few_index, fewer_places, first_place, key_passed, keys_passed, place_passed}
use Rattle.t1_report.specs.Checked.{checked}
use Rattle.t1_report.specs.Private.Units.{font_step}
use Rattle.t1_report.proofs.walk.font_places.FontPlaces.next.Goals as goal

pub returns-then-has_rules-clause-found : goal.returns-then-has_rules-clause-found
returns-then-has_rules-clause-found c =
    first_place (checked c.args.font.now c.args.edition) (font_step c.args.self.now) c.loop-self.self _ c.loop-self.invariant.places c.if-self.true
    c.loop-self.invariant.behind c.loop-self.invariant.quiet
    refl (ap (λ key. 65536 * key + c.loop-self.self.index) c.from.ensures) c.new.ensures c.font_faults-rules.ensures

pub returns-then-has_rules-clause-places : goal.returns-then-has_rules-clause-places
returns-then-has_rules-clause-places c =
    let few = few_index (checked c.args.font.now c.args.edition) c.loop-self.self c.loop-self.invariant.places c.if-self.true in
    record { key = c.loop-self.invariant.places.key; index = omega (arith, few); places = c.loop-self.invariant.places.places }

pub loop-self-smaller-else-has_rules : goal.loop-self-smaller-else-has_rules
loop-self-smaller-else-has_rules c =
    fewer_places c.loop-self.self.key c.loop-self.self.index (few_index (checked c.args.font.now c.args.edition) c.loop-self.self c.loop-self.invariant.places c.if-self.true)

pub loop-self-preserved-else-has_rules : goal.loop-self-preserved-else-has_rules
loop-self-preserved-else-has_rules c =
    let few = few_index (checked c.args.font.now c.args.edition) c.loop-self.self c.loop-self.invariant.places c.if-self.true in
    record {
      places = record { key = c.loop-self.invariant.places.key; index = omega (arith, few); places = c.loop-self.invariant.places.places };
      quiet = place_passed (checked c.args.font.now c.args.edition) (font_step c.args.self.now) c.loop-self.self
          (record { key = c.loop-self.self.key; index = c.loop-self.self.index + 1; places = c.loop-self.self.places }) c.font_faults-rules.result
          c.loop-self.invariant.places c.if-self.true c.loop-self.invariant.quiet
          c.font_faults-rules.ensures (c.has_rules.ensures c.if-has_rules.false) (omega arith);
      behind = omega (arith, c.loop-self.invariant.behind);
    }

pub loop-self-preserved : goal.loop-self-preserved
loop-self-preserved c = record {
  places = record { key = omega (arith, c.loop-self-test.true); index = omega arith; places = c.places-self.ensures };
  quiet = key_passed (checked c.args.font.now c.args.edition) (font_step c.args.self.now) c.loop-self.self
      (record { key = c.loop-self.self.key + 1; index = 0; places = c.places-self.result }) c.loop-self.invariant.places c.if-self.false
      c.loop-self.invariant.quiet refl refl;
  behind = omega (arith, c.loop-self.invariant.behind, c.loop-self.invariant.places.index);
}

pub returns-clause-found : goal.returns-clause-found
returns-clause-found c =
    keys_passed (checked c.args.font.now c.args.edition) (font_step c.args.self.now) c.loop-self.self c.loop-self-test.false c.loop-self.invariant.quiet
