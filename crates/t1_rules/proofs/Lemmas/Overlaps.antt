-- Stems that overlap, and hint sets.
use Rattle.std.proofs.Common.{◌≡◌, ◌≤◌, true, List, length, take, flat_map, refl, ◌∙◌, arith}
use Rattle.std.specs.Int.{int_max}
use Rattle.std.proofs.lemmas.Int.{ints, clamps}
use Rattle.std.proofs.lemmas.List.{length-take}
use Rattle.t1_char.specs.Arguments.{is_hint_replacement}
use Rattle.t1_rules.specs.declared.step_rules.stems.Stem.{Stem}
use Rattle.t1_rules.specs.Laws.Stems.{ShareAPlace, StemsOverlapWhereTheyShareAPlace, OverlapIsMutual, SignsHaveNoSay, ReplacementsEmptyHintSets, HintSetsAreBounded}
use Rattle.t1_rules.specs.StepRules.Stems.{lower, overlap, stems_in}
use Rattle.t1_rules.proofs.Lemmas.Stems.{hint_set_goes_on}
use Rattle.t1_font.specs.Fonts.{after_last}

shared : (one other : Stem) → overlap one other ≡ true → ShareAPlace one other
shared one other meet = record {
  place = int_max (lower one) (lower other);
  in_one = record { from = grind (arith, ints, clamps); below = grind (arith, ints, clamps, meet) };
  in_other = record { from = grind (arith, ints, clamps); below = grind (arith, ints, clamps, meet) };
}

share : (one other : Stem) → ShareAPlace one other → overlap one other ≡ true
share one other at = grind (arith, ints, clamps, at.in_one.from, at.in_one.below, at.in_other.from, at.in_other.below)

pub overlap_where_shared : StemsOverlapWhereTheyShareAPlace
overlap_where_shared one other = (shared one other, share one other)

pub overlap_is_mutual : OverlapIsMutual
overlap_is_mutual one other = grind (arith, ints, clamps)

pub signs_have_no_say : SignsHaveNoSay
signs_have_no_say one other = grind (arith, ints, clamps)

pub replacements_empty_hint_sets : ReplacementsEmptyHintSets
replacements_empty_hint_sets direction before step replaces = hint_set_goes_on direction before step ∙ rw replaces refl

pub hint_sets_are_bounded : HintSetsAreBounded
hint_sets_are_bounded direction before =
    within (flat_map (stems_in direction) (after_last is_hint_replacement before))
  where
    within : (stems : List Stem) → length (take 96 stems) ≤ 96
    within stems = omega (arith, length-take 96 stems)
