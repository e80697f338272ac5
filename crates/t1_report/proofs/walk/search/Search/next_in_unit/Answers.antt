use Rattle.std.proofs.Common.{MatchOption, ◌∙◌, ap, arith, refl, subst, sym}
use Rattle.t1_report.specs.Checked.{checked}
use Rattle.t1_report.specs.Private.Units.{IsFirst, IsFontPlaces, IsQuietFrom, font_step}
use Rattle.t1_report.specs.Private.Searches.{is_over}
use Rattle.t1_report.specs.declared.walk.search.Part.TheVariants.{Font}
use Rattle.t1_report.proofs.ToldInUnit.{next_asked, none_of_glyph, none_of_waivers, part_as, told_of_font, told_of_glyph, told_of_next}
use Rattle.t1_report.proofs.Units.{few_passed, font_begun, none_when_over}
use Rattle.t1_report.proofs.walk.search.Search.next_in_unit.Goals as goal

pub next-requires : goal.next-requires
next-requires c = record {
  places = subst (λ e. IsFontPlaces (checked c.args.self.now.font.now e) c.in-Font.places) (sym c.edition-edition.ensures)
      (part_as c.args.self.now (Font c.in-Font.places) c.in-Font.is c.requires.search).0.places_are;
}

pub returns-in-Font-clause-search : goal.returns-in-Font-clause-search
returns-in-Font-clause-search c =
    let at = part_as c.args.self.now (Font c.in-Font.places) c.in-Font.is c.requires.search in
    font_begun _ c.next.new.self c.requires.search.components_are at.0.begins at.0.unit_is at.0.none_passed at.1 refl
    (subst (λ e. IsFontPlaces (checked c.args.self.now.font.now e) c.next.new.self) c.edition-edition.ensures c.next.ensures.places)

pub returns-in-Font-clause-found : goal.returns-in-Font-clause-found
returns-in-Font-clause-found c = told_of_font c.args.self.now c.in-Font.places c.next.result c.in-Font.is c.requires.search
    (subst (λ e. MatchOption c.next.result (IsQuietFrom (checked c.args.self.now.font.now e) 0 (font_step c.in-Font.places))
    (λ found. IsFirst (checked c.args.self.now.font.now e) 0 (font_step c.in-Font.places) found)) c.edition-edition.ensures c.next.ensures.found)

pub returns-in-Some-clause-found : goal.returns-in-Some-clause-found
returns-in-Some-clause-found c =
    told_of_glyph c.args.self.now c.in-Glyph.run' c.in-Some.found c.told_of.result c.in-Glyph.is c.requires.search c.in-Some.ensures.found
    c.told_of.ensures.unit c.told_of.ensures.step c.told_of.ensures.path c.told_of.ensures.rules

pub returns-in-None-clause-found : goal.returns-in-None-clause-found
returns-in-None-clause-found c = none_of_glyph c.args.self.now c.in-Glyph.run' c.in-Glyph.is c.requires.search c.in-None.ensures.found

pub returns-then-next-len-clause-found : goal.returns-then-next-len-clause-found
returns-then-next-len-clause-found c = none_of_waivers c.args.self.now c.in-Waivers.next c.in-Waivers.is c.requires.search
    (omega (arith, c.if-next-len.true, c.len.ensures.len))

pub returns-else-next-len-clause-found : goal.returns-else-next-len-clause-found
returns-else-next-len-clause-found c =
    told_of_next c.args.self.now c.in-Waivers.next _ c.in-Waivers.is c.requires.search (omega arith) (omega arith) c.new.ensures
    c.check_waiver-check.ensures.rules

pub overflow_add-self : goal.overflow_add-self
overflow_add-self c = omega (arith, (few_passed c.args.self.now c.requires.search).1, c.from.ensures, c.check_waiver-check.ensures.few)

pub returns-else-next-len-clause-search : goal.returns-else-next-len-clause-search
returns-else-next-len-clause-search c =
    record {
      part_is = next_asked c.args.self.now c.in-Waivers.next c.from.result c.in-Waivers.is c.requires.search
          (omega (arith, c.if-next-len.false, c.len.ensures.len)) (c.from.ensures ∙ c.check_waiver-check.ensures.turns);
      components_are = c.requires.search.components_are;
    }

pub returns-in-Over-clause-found : goal.returns-in-Over-clause-found
returns-in-Over-clause-found c = none_when_over c.args.self.now c.requires.search (ap is_over c.in-Over.is)
