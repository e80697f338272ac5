-- A fault that is shown alone.
use Rattle.std.proofs.Common.{◌≡◌, ◌==◌, ◌<◌, ℕ, Bool, true, false, cond, None, Some, [], ◌∷◌, ap, refl, arith}
use Rattle.std.proofs.lemmas.Bool.{eqb-true}
use Rattle.t1_picture.specs.Drawings.{drawing_of}
use Rattle.t1_picture.specs.Laws.{FontFaultsShowAllSteps, GlyphFaultsShowTheirSteps, OneFaultIsMarked}
use Rattle.t1_picture.specs.Marks.{mark_of_one, pen_at}
use Rattle.t1_picture.specs.Subjects.{ShownValue, Subject, everything, one_fault, step_in, up_to}

-- What is drawn depends on the step alone.
same_step : (s : Subject) (one other : ShownValue) → step_in one ≡ step_in other
    → drawing_of (record s { shown = one }) ≡ drawing_of (record s { shown = other })
same_step s one other is = rw is refl

of_glyph : (unit : ℕ) → 0 < unit → (unit == 0) ≡ false
of_glyph unit some = by_test (unit == 0) refl
  where
    by_test : (b : Bool) → (unit == 0) ≡ b → b ≡ false
    by_test true none = absurd (omega (arith, some, eqb-true unit 0 none))
    by_test false not = refl

pub font_faults_show_all_steps : FontFaultsShowAllSteps
font_faults_show_all_steps s fault none =
    same_step s (one_fault fault) everything (ap (λ (unit : ℕ). cond (unit == 0) None (Some fault.step)) none)

pub glyph_faults_show_their_steps : GlyphFaultsShowTheirSteps
glyph_faults_show_their_steps s fault some =
    same_step s (one_fault fault) (up_to fault.step) (ap (λ (b : Bool). cond b None (Some fault.step)) (of_glyph fault.unit some))

pub one_fault_is_marked : OneFaultIsMarked
one_fault_is_marked s fault faults all some =
    ap (λ (b : Bool). cond b [] (mark_of_one (pen_at s fault.step) fault.number ∷ [])) (of_glyph fault.unit some)
