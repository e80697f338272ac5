-- How hint sets grow, and which three stems are even.
use Rattle.std.specs.Ordering.{int_eq}
use Rattle.std.proofs.Common.{◌≡◌, ℤ, pos, ◌+ℤ◌, ◌-ℤ◌, ◌*ℤ◌, ◌||◌, not, Bool, true, false, refl, sym, ◌∙◌, arith}
use Rattle.std.proofs.lemmas.Int.{ints}
use Rattle.t1_char.specs.declared.command.Command.{Command as Commands}
use Rattle.t1_char.specs.declared.command.Command.TheVariants.{Hstem, Hstem3, Vstem, Vstem3}
use Rattle.t1_char.specs.declared.token.CharToken.{CharToken}
use Rattle.t1_char.specs.declared.token.CharToken.TheVariants.{Command}
use Rattle.t1_rules.specs.declared.step_rules.stems.Stem.{Stem}
use Rattle.t1_rules.specs.Laws.Stems.{AreEven, AreOf, OneStemIsKept, OthersAreNotUneven, OthersLeaveHintSets, ThreeStemsAreEven, ThreeStemsAreKept, across, stem, upright}
use Rattle.t1_rules.specs.StepRules.Stems.{are_unequal, is_triple, lies_across, stands_upright, twice_middle}
use Rattle.t1_rules.specs.StepRules.Tokens.{is_command}
use Rattle.t1_rules.proofs.Lemmas.Rows.{h04_row}
use Rattle.t1_rules.proofs.Lemmas.Stems.{hint_set_goes_on}

pub one_stem_is_kept : OneStemIsKept
one_stem_is_kept _ _ _ before step across is = hint_set_goes_on lies_across before step ∙ rw is refl
one_stem_is_kept _ _ _ before step upright is = hint_set_goes_on stands_upright before step ∙ rw is refl

pub three_stems_are_kept : ThreeStemsAreKept
three_stems_are_kept _ _ _ before step across is = hint_set_goes_on lies_across before step ∙ rw is refl
three_stems_are_kept _ _ _ before step upright is = hint_set_goes_on stands_upright before step ∙ rw is refl

no_across : (token : CharToken) → (token ≡ Command Hstem → ⊥) → (token ≡ Command Hstem3 → ⊥) → is_command lies_across token ≡ false
no_across (Command Hstem) one three = absurd (one refl)
no_across (Command Hstem3) one three = absurd (three refl)
no_across _ one three = refl

no_upright : (token : CharToken) → (token ≡ Command Vstem → ⊥) → (token ≡ Command Vstem3 → ⊥) → is_command stands_upright token ≡ false
no_upright (Command Vstem) one three = absurd (one refl)
no_upright (Command Vstem3) one three = absurd (three refl)
no_upright _ one three = refl

pub others_leave_hint_sets : OthersLeaveHintSets
others_leave_hint_sets _ _ _ before step across one three stays = hint_set_goes_on lies_across before step ∙ rw (stays, no_across step.token one three) refl
others_leave_hint_sets _ _ _ before step upright one three stays = hint_set_goes_on stands_upright before step
    ∙ rw (stays, no_upright step.token one three) refl

-- ---- three stems

split : (a b : Bool) → (not a || not b) ≡ false → (a ≡ true) × (b ≡ true)
split true true e = (refl, refl)
split true false e = let no : true ≡ false = e in cc
split false b e = let no : true ≡ false = e in cc

same_int : (x y : ℤ) → int_eq x y ≡ true → x ≡ y
same_int x y e = grind (arith, ints, e)

int_same : (x y : ℤ) → x ≡ y → int_eq x y ≡ true
int_same x y e = grind (arith, ints, e)

-- Where the outer widths are equal, the gaps are equal exactly where the middles are equally far apart.
gaps_of : (a b c u v w : ℤ) → u ≡ w → (pos 2 *ℤ ((pos 2 *ℤ b) +ℤ v)) ≡ ((pos 2 *ℤ a) +ℤ u) +ℤ ((pos 2 *ℤ c) +ℤ w) → (b -ℤ (a +ℤ u)) ≡ (c -ℤ (b +ℤ v))
gaps_of a b c u v w outer middle = omega (arith, ints, outer, middle)

middles_of : (a b c u v w : ℤ) → u ≡ w → (b -ℤ (a +ℤ u)) ≡ (c -ℤ (b +ℤ v)) → (pos 2 *ℤ ((pos 2 *ℤ b) +ℤ v)) ≡ ((pos 2 *ℤ a) +ℤ u) +ℤ ((pos 2 *ℤ c) +ℤ w)
middles_of a b c u v w outer gaps = omega (arith, ints, outer, gaps)

even : (one two three : Stem) → are_unequal one two three ≡ false → AreEven one two three
even one two three e =
    let both = split (int_eq one.width three.width) (int_eq (pos 2 *ℤ twice_middle two) (twice_middle one +ℤ twice_middle three)) e in
    let outer : one.width ≡ three.width = same_int _ _ both.0 in
    record { widths = outer; gaps = gaps_of one.position two.position three.position one.width two.width three.width outer (same_int _ _ both.1) }

equal : (one two three : Stem) → AreEven one two three → are_unequal one two three ≡ false
equal one two three e =
    rw (
      int_same one.width three.width e.widths,
      int_same (pos 2 *ℤ twice_middle two) (twice_middle one +ℤ twice_middle three)
          (middles_of one.position two.position three.position one.width two.width three.width e.widths e.gaps),
    ) refl

uneven : (direction : Commands → Bool) (one three : Commands) → AreOf direction one three → is_triple three ≡ true
uneven _ _ _ across = refl
uneven _ _ _ upright = refl

pub three_stems_are_even : ThreeStemsAreEven
three_stems_are_even direction one three edition before step of is =
    let first : Stem = stem step.stack 0 1 in
    let second : Stem = stem step.stack 2 3 in
    let third : Stem = stem step.stack 4 5 in
    let broken = h04_row edition before step ∙ rw (is, uneven direction one three of) refl in
    (λ e. even first second third (sym broken ∙ e), λ e. broken ∙ equal first second third e)

no_triple : (token : CharToken) → (token ≡ Command Hstem3 → ⊥) → (token ≡ Command Vstem3 → ⊥) → is_command is_triple token ≡ false
no_triple (Command Hstem3) one other = absurd (one refl)
no_triple (Command Vstem3) one other = absurd (other refl)
no_triple _ one other = refl

pub others_are_not_uneven : OthersAreNotUneven
others_are_not_uneven edition before step one other = h04_row edition before step ∙ rw (no_triple step.token one other) refl
