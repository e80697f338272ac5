-- What the watcher of the drawing has seen, beside the others: the steps that a machine returned, and the numbers that it passed.
use Rattle.std.proofs.Common.{◌≡◌, ℕ, zero, suc, ◌+◌, ◌≤◌, true, false, Option, List, [], ◌∷◌, ◌++◌, length-take, take, inl, inr, refl, sym, subst, ◌∙◌, arith}
use Rattle.t1_char.specs.declared.edition.Edition.{Edition}
use Rattle.t1_char.specs.declared.lines.Passing.{Passing}
use Rattle.t1_char.specs.declared.lines.Passing.TheVariants as passing
use Rattle.t1_char.specs.declared.lines.Way.{Way}
use Rattle.t1_char.specs.declared.step.Step.{Step}
use Rattle.t1_char.specs.Editions.{has_latest_rules, limit_of}
use Rattle.t1_char.specs.Lines.{IsAskedFar, PassesStep, PassesSteps, leads}
use Rattle.t1_char.specs.Passing.{IsPassed}
use Rattle.t1_char.specs.Steps.{StepView, steps_of}
use Rattle.t1_char.specs.StepValues.{step_view}
use Rattle.t1_char.specs.Turns.{MachineView, TurnValue}
use Rattle.t1_char.proofs.TurnsTaken.{IsOver}
use Rattle.t1_drawing.specs.declared.font_box.FontBox.{FontBox}
use Rattle.t1_drawing.specs.declared.glyph.DrawingWatcher.{DrawingWatcher}
use Rattle.t1_drawing.specs.DrawingRules.{box_of}
use Rattle.t1_drawing.specs.Private.Standing.{DrawingStandsFor}
use Rattle.t1_drawing.proofs.Numbers.{stays_at_number}
use Rattle.t1_rules.specs.declared.watches.Watches.{Watches}
use Rattle.t1_rules.proofs.Lemmas.PassedNumbers.{kept}
use Rattle.t1_report.specs.Checked.{CheckedFont, step_limit}
use Rattle.t1_report.specs.Private.Fitting.{IsFit}
use Rattle.t1_report.specs.Private.Reporting.{HaveDrawn}
use Rattle.t1_report.specs.Private.Units.{HaveDrawnAt, IsDrawn, executed}
use Rattle.t1_report.specs.Walks.{turns_of_glyph}
use Rattle.t1_report.proofs.GlyphSteps.{take_next}
use Rattle.t1_report.proofs.RunSteps.{IsTold, taken_more, taken_over}

-- In an edition with rules on the drawing a machine passes numbers alone.
fit_leads : (edition : Edition) (what : Passing) (w : Watches) → has_latest_rules edition ≡ true → IsFit edition what w → leads what ≡ false
fit_leads edition passing.Returned w latest fit = refl
fit_leads edition passing.Numbers w latest fit = refl
fit_leads edition passing.Lines w latest fit = let no : true ≡ false = sym latest ∙ fit.1.0 in cc
fit_leads edition passing.Moves w latest fit = let no : true ≡ false = sym latest ∙ fit.1.0.0 in cc

-- These change nothing of what is drawn.
module _ (box : Option FontBox) (d : DrawingWatcher) (limit : ℕ) (all : List StepView) where
  stands_more : (k : ℕ) → IsPassed limit all k → DrawingStandsFor box d (take k all) → DrawingStandsFor box d (take (k + 1) all)
  stands_more k passed st =
      let is = kept limit all k passed in
      subst (DrawingStandsFor box d) (sym (take_next all k passed.step passed.there)) (stays_at_number (take k all) passed.step is.number is.token box d st)

  stands_behind : (what : Passing) → leads what ≡ false → (n taken : ℕ) (way : Way) → PassesSteps what limit all n taken way
      → DrawingStandsFor box d (take n all) → DrawingStandsFor box d (take (n + taken) all)
  stands_behind what none n zero way passes st =
      let same : n ≡ n + 0 = omega arith in
      subst (λ k. DrawingStandsFor box d (take k all)) same st
  stands_behind what none n (suc taken) way passes st =
      let same : n + taken + 1 ≡ n + suc taken = omega arith in
      subst (λ k. DrawingStandsFor box d (take k all)) same
      (by_one passes.0 (stands_behind what none n taken passes.0 passes.1.0 st) passes.1.1)
    where
      by_one : (before : Way) → DrawingStandsFor box d (take (n + taken) all) → PassesStep what limit all (n + taken) before way
          → DrawingStandsFor box d (take (n + taken + 1) all)
      by_one before so_far (inl number) = stands_more (n + taken) number.0 so_far
      by_one before so_far (inr command) = let no : false ≡ true = sym none ∙ command.0 in cc

-- After the steps that a machine passed.
pub drawn_far : (what : Passing) (m new : MachineView) (answer : TurnValue) (way : Way) (w : Watches) (d : DrawingWatcher) (font : CheckedFont) (glyph : ℕ)
    → IsFit m.edition what w → executed m ≡ font → m.glyph ≡ glyph → m.counted ≤ step_limit font → IsDrawn m d
    → (asked : IsAskedFar what m new answer way) → HaveDrawnAt font glyph (m.counted + asked.taken) d
drawn_far what m new answer way w d font glyph fit of_font of_glyph near drawn asked =
    subst (λ f. HaveDrawnAt f glyph (m.counted + asked.taken) d) of_font
    (subst (λ g. HaveDrawnAt (executed m) g (m.counted + asked.taken) d) of_glyph
    (λ few latest.
    let close : m.counted ≤ limit_of m.edition = subst (λ (f : CheckedFont). m.counted ≤ step_limit f) (sym of_font) near in
    stands_behind (box_of m.font) d (limit_of m.edition) (steps_of m.font m.glyph) what (fit_leads m.edition what w latest fit) m.counted asked.taken way asked.passed
    (drawn (omega (arith, close, length-take m.counted (steps_of m.font m.glyph))) latest)))

-- The same of a machine, and of one by its font and its glyph.
pub drawn_of : (font : CheckedFont) (glyph : ℕ) (m : MachineView) (d : DrawingWatcher) → executed m ≡ font → m.glyph ≡ glyph
    → HaveDrawnAt font glyph m.counted d → IsDrawn m d
drawn_of font glyph m d of_font of_glyph drawn =
    subst (λ f. HaveDrawnAt f m.glyph m.counted d) (sym of_font) (subst (λ g. HaveDrawnAt font g m.counted d) (sym of_glyph) drawn)

-- One step more, and after the end.
pub drawn_more : (font : CheckedFont) (glyph n counted : ℕ) (step : Step) (d : DrawingWatcher) → IsTold font glyph n counted step
    → HaveDrawn font.edition (box_of font.value) d (take n (steps_of font.value glyph) ++ step_view step ∷ []) → HaveDrawnAt font glyph counted d
drawn_more font glyph n counted step d told drawn =
    subst (HaveDrawn font.edition (box_of font.value) d) (sym (taken_more font glyph n counted step told)) drawn

pub drawn_over : (font : CheckedFont) (glyph n counted : ℕ) (d : DrawingWatcher) → IsOver (step_limit font) (steps_of font.value glyph) n
    → counted ≡ turns_of_glyph font glyph → HaveDrawnAt font glyph n d → HaveDrawnAt font glyph counted d
drawn_over font glyph n counted d over count drawn =
    subst (HaveDrawn font.edition (box_of font.value) d) (sym (taken_over font glyph n counted over count)) drawn
