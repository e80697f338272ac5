use Rattle.std.proofs.Common.{subst, arith, ◌+◌, sym}
use Rattle.t1_report.specs.Checked.{checked}
use Rattle.t1_report.specs.Private.Searches.{IsPart, IsPartBegun, checked_in}
use Rattle.t1_report.proofs.Units.{few_passed, part_next, part_of_font}
use Rattle.t1_report.proofs.walk.search.Search.next_unit.Goals as goal

pub overflow_add-self : goal.overflow_add-self
overflow_add-self c = omega (arith, (few_passed c.args.self.now c.requires.search).0, c.turns_in_part.ensures.most)

pub begin-requires : goal.begin-requires
begin-requires c =
    let s = c.args.self.now in
    part_of_font (checked_in s) s.waivers.now s.from s.first s.unit s.passed s.checked s.part c.requires.search.part_is

pub returns-clause-search : goal.returns-clause-search
returns-clause-search c =
    let s = c.args.self.now in
    record {
      part_is = subst (λ n. IsPart (checked_in s) s.waivers.now s.from s.first (s.unit + 1) (s.passed + n) s.checked c.begin.new.part)
          (sym c.turns_in_part.ensures.turns)
          (part_next (checked_in s) s.waivers.now s.from s.first s.unit s.passed s.checked s.part c.begin.new.part c.requires.search.part_is
          c.requires.under_way c.requires.done
          (subst (λ e. IsPartBegun (checked s.font.now e) s.waivers.now s.unit 0 c.begin.new.part) c.edition-edition.ensures c.begin.ensures.part)
          c.begin.ensures.few c.begin.ensures.few_waivers);
      components_are = c.requires.search.components_are;
    }
