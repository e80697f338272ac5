use Rattle.std.proofs.Common.{◌≤◌, ◌-◌, refl, sym, subst, arith}
use Rattle.t1_report.specs.declared.walk.search.Search.{Search}
use Rattle.t1_report.specs.Checked.{checked}
use Rattle.t1_report.specs.Private.Searches.{step_of_part, IsPartBegun}
use Rattle.t1_report.specs.Private.Units.{IsFontPlaces}
use Rattle.t1_report.proofs.Units.{begins_at, font_begun, search_begun, starts_near}
use Rattle.t1_report.proofs.walk.search.Search.from.Goals as goal
use Rattle.t1_report.proofs.walk.search.Search.from.Goals.{then-unit-eq0, else-unit-eq0}

pub returns-clause-search : goal.returns-clause-search
returns-clause-search c =
    let s : Search = record {
      font = c.args.font;
      sidebearings = c.args.sidebearings;
      waivers = c.args.waivers;
      from = c.args.unit;
      first = c.args.step;
      unit =
          c.args.unit;
      passed = 0;
      checked = 0;
      part = c.if-unit-eq0.part;
    } in
    elim c.if-unit-eq0.branch [
      | then-unit-eq0 w ↦ font_begun s w.from.result c.requires w.if-unit-eq0.true w.if-unit-eq0.true refl refl w.part-is
          (subst (λ e. IsFontPlaces (checked c.args.font.now e) w.from.result) c.edition-edition.ensures w.from.ensures.places)
      | else-unit-eq0 w ↦ search_begun s (c.args.unit - 1) c.args.step c.requires (omega (arith, w.if-unit-eq0.false)) refl
          (omega (arith, w.if-unit-eq0.false)) refl refl
          (subst (IsPartBegun (checked c.args.font.now c.args.sidebearings.now.edition) c.args.waivers.now (c.args.unit - 1) c.args.step) (sym w.part-is)
          (subst (λ e. IsPartBegun (checked c.args.font.now e) c.args.waivers.now (c.args.unit - 1) c.args.step w.unit_part-part.result) c.edition-edition.ensures
          w.unit_part-part.ensures.part)) w.unit_part-part.ensures.few w.unit_part-part.ensures.few_waivers
    ]

pub returns-clause-behind : goal.returns-clause-behind
returns-clause-behind c = λ p is at past.
    elim c.if-unit-eq0.branch [
      | then-unit-eq0 w ↦ subst (λ part. step_of_part part ≤ p.step) (sym w.part-is) (omega (arith, w.from.ensures.step, past))
      | else-unit-eq0 w ↦
          let some = begins_at (checked c.args.font.now c.args.sidebearings.now.edition) c.args.waivers.now c.args.unit 1
          (omega (arith, w.if-unit-eq0.false)) (omega arith) p is at in
          subst (λ part. step_of_part part ≤ p.step) (sym w.part-is) (starts_near (checked c.args.font.now c.args.sidebearings.now.edition) c.args.waivers.now
          (c.args.unit - 1) c.args.step p.step w.unit_part-part.result
          (subst (λ e. IsPartBegun (checked c.args.font.now e) c.args.waivers.now (c.args.unit - 1) c.args.step w.unit_part-part.result) c.edition-edition.ensures
          w.unit_part-part.ensures.part) past some)
    ]
