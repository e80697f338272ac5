-- What counts break X04, where the current point is put, and how far short forms lead.
use Rattle.std.proofs.Common.{◌≡◌, ℕ, ◌+◌, ◌==◌, ◌&&◌, Bool, true, false, ℤ, pos, ◌+ℤ◌, [], ◌∷◌, ◌++◌, refl, ap, ◌∙◌, arith}
use Rattle.std.proofs.Math.Bool.{and-false}
use Rattle.std.proofs.lemmas.Bool.{ne_eqb}
use Rattle.std.proofs.lemmas.Int.{ints}
use Rattle.t1_char.specs.Numbers.{clamped}
use Rattle.t1_rules.specs.Laws.Components.{CapitalsNameThemselves, SmallLettersNameThemselves}
use Rattle.t1_rules.specs.Laws.Flex.{GlyphsBeginAtTheOrigin, OtherCountsAreNoFlex, SetcurrentpointPutsThePoint, ShortFormsLeadAsFar, VectorsPutThePoint}
use Rattle.t1_rules.specs.StandardEncoding.{standard_encoding, standard_name}
use Rattle.t1_rules.specs.StepRules.Flex.{at}
use Rattle.t1_rules.proofs.Lemmas.Flex.{point_goes_on}
use Rattle.t1_rules.proofs.Lemmas.FlexPairs.{counts_of, end_is_no_point, half}
use Rattle.t1_rules.proofs.Lemmas.Rows.{x04_row}

not_seven : (n : ℕ) (is_half : Bool) → (n ≡ 7 → is_half ≡ true) → (n + half is_half == 7 && n == 7) ≡ false
not_seven n true more = no_seven n
  where
    no_seven : (n : ℕ) → (n + 1 == 7 && n == 7) ≡ false
    no_seven n = grind arith
not_seven n false more =
    let apart : (n == 7) ≡ false = ne_eqb n 7 (λ e. let no : false ≡ true = more e in cc) in
    rw apart (and-false (n + 0 == 7))

pub other_counts_are_no_flex : OtherCountsAreNoFlex
other_counts_are_no_flex edition before pairs start end n is_half starts are_pairs ends more =
    let steps = (before ++ start ∷ []) ++ pairs in
    let counts = counts_of before start starts n is_half pairs are_pairs in
    x04_row edition steps end ∙ rw (counts.moved, counts.pointed, counts.inside, ends, end_is_no_point end ends, not_seven n is_half more) refl

pub glyphs_begin_at_the_origin : GlyphsBeginAtTheOrigin
glyphs_begin_at_the_origin = refl

pub vectors_put_the_point : VectorsPutThePoint
vectors_put_the_point before step is = point_goes_on before step ∙ rw is refl

pub setcurrentpoint_puts_the_point : SetcurrentpointPutsThePoint
setcurrentpoint_puts_the_point before step is = point_goes_on before step ∙ rw is refl

pub capitals_name_themselves : CapitalsNameThemselves
unfolding standard_name standard_encoding
capitals_name_themselves = refl

pub small_letters_name_themselves : SmallLettersNameThemselves
unfolding standard_name standard_encoding
small_letters_name_themselves = refl

front_zero : (y z : ℤ) → y +ℤ z ≡ pos 0 +ℤ y +ℤ z
front_zero y z = omega (arith, ints)

back_zero : (y z : ℤ) → y +ℤ z ≡ y +ℤ z +ℤ pos 0
back_zero y z = omega (arith, ints)

pub short_forms_lead_as_far : ShortFormsLeadAsFar
short_forms_lead_as_far a b c d = record {
  hmoveto = refl;
  vmoveto = refl;
  hlineto = refl;
  vlineto = refl;
  vhcurveto =
      ap (λ (x : ℤ). at x (clamped a +ℤ clamped c)) (front_zero (clamped b) (clamped d))
      ∙ ap (λ (y : ℤ). at (pos 0 +ℤ clamped b +ℤ clamped d) y) (back_zero (clamped a) (clamped c));
  hvcurveto =
      ap (λ (x : ℤ). at x (clamped c +ℤ clamped d)) (back_zero (clamped a) (clamped b))
      ∙ ap (λ (y : ℤ). at (clamped a +ℤ clamped b +ℤ pos 0) y) (front_zero (clamped c) (clamped d));
}
