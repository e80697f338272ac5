use Rattle.std.proofs.Common.{◌≡◌, [], ◌∷◌, ◌++◌, arith, rules, sym, take, ◌∙◌, SFits, w64}
use Rattle.std.proofs.lemmas.Int.{to_z-of_z}
use Rattle.t1_font.specs.Values.{list_value}
use Rattle.t1_font.proofs.Lists.{number_less, taken, list_after_end, list_after_number, list_after_other}
use Rattle.t1_font.proofs.entry.list.Goals as goal

pub returns-in-End : goal.returns-in-End
unfolding list_value
returns-in-End c = sym (list_after_end c.items.count c.items.kept.items _ c.items.invariant.kept c.in-End.ensures) ∙ c.items.invariant.rest

pub returns-in-Other : goal.returns-in-Other
unfolding list_value
returns-in-Other c = sym (list_after_other c.items.count c.items.kept.items _ c.in-Other.ensures) ∙ c.items.invariant.rest

pub items-smaller : goal.items-smaller
items-smaller c = number_less _ _ _ c.in-Number.ensures

pub items-preserved : goal.items-preserved
items-preserved c =
    let less = number_less _ _ _ c.in-Number.ensures in
    let fits : SFits w64 c.in-Number.number = search rules in
    let kept : c.keep.new.first.items ≡ take 16 (c.items.kept.items ++ c.in-Number.number ∷ []) = simp to_z-of_z at c.keep.ensures in
    record {
      kept = rw kept (taken 16 (c.items.kept.items ++ c.in-Number.number ∷ []));
      room = omega (arith, less, c.items.invariant.room);
      rest = rw kept (list_after_number c.items.count c.items.kept.items _ _ _ c.in-Number.ensures ∙ c.items.invariant.rest);
    }
