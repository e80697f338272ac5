use Rattle.std.proofs.Common.{◌≡◌, ℕ, ◌+◌, ◌≤◌, ◌∙◌, ap, arith, subst, sym}
use Rattle.t1_report.specs.Checked.{CheckedFont, checked, step_limit}
use Rattle.t1_rules.specs.Book.{number_of}
use Rattle.t1_rules.specs.Components.{AreOf}
use Rattle.t1_char.proofs.EditionLemmas.{limit_few}
use Rattle.t1_char.specs.Turns.{MachineView}
use Rattle.t1_rules.specs.declared.watches.Watches.{Watches}
use Rattle.t1_report.specs.Private.Units.{IsRun, executed}
use Rattle.t1_report.specs.Walks.{turns_of_glyph}
use Rattle.t1_report.proofs.Broken.{at_no_step}
use Rattle.t1_report.proofs.Units.{few_turns_of}
use Rattle.t1_report.proofs.SecondRuns.{turns_unused, turns_used, unused_more, use_found, use_none}
use Rattle.t1_report.proofs.usage.use_of.Goals as goal

few_of : (font run : CheckedFont) (glyph at counted step : ℕ) → run ≡ font → at ≡ glyph → counted ≡ step → counted ≤ turns_of_glyph run at
    → step ≤ turns_of_glyph font glyph
few_of font run glyph at counted step same here is few =
    subst (λ n. n ≤ turns_of_glyph font glyph) is (subst (λ g. counted ≤ turns_of_glyph font g) here (subst (λ f. counted ≤ turns_of_glyph f at) same few))

few_found : (machine : MachineView) (watches : Watches) (step : ℕ) (font : CheckedFont) → executed machine ≡ font → IsRun machine watches
    → machine.counted ≡ step → step ≤ step_limit font + 1
few_found machine watches step font same is at =
    subst (λ n. n ≤ step_limit font + 1) at (subst (λ f. machine.counted ≤ step_limit f + 1) same (few_turns_of machine watches is))

pub loop-found-init : goal.loop-found-init
loop-found-init c = record {
  run = c.start-run.ensures.run;
  drawn = c.start-run.ensures.drawn;
  font = c.start-run.ensures.font ∙ ap (λ e. checked c.args.font.now e) c.edition.ensures;
  glyph = c.start-run.ensures.glyph;
  quiet = λ s low. at_no_step (checked c.args.font.now c.args.sidebearings.now.edition) (c.in-Some.glyph + 1) s (number_of c.args.rule) (omega arith)
      (omega (arith, low, c.start-run.ensures.counted));
}

pub overflow_cast-glyph : goal.overflow_cast-glyph
overflow_cast-glyph c = omega (arith, c.in-Some.ensures.within, c.requires.few)

pub overflow_add-glyph : goal.overflow_add-glyph
overflow_add-glyph c = omega (arith, c.in-Some.ensures.within, c.requires.few)

pub next-requires-clause-run : goal.next-requires-clause-run
next-requires-clause-run c = c.loop-found.invariant.run

pub next-requires-clause-drawn : goal.next-requires-clause-drawn
next-requires-clause-drawn c = c.loop-found.invariant.drawn

pub next-requires-clause-sidebearings : goal.next-requires-clause-sidebearings
next-requires-clause-sidebearings c =
    subst (λ (f : CheckedFont). AreOf f.value c.args.sidebearings.now) (sym c.loop-found.invariant.font) c.requires.sidebearings

pub next-requires-clause-edition : goal.next-requires-clause-edition
next-requires-clause-edition c = sym (ap (λ (f : CheckedFont). f.edition) c.loop-found.invariant.font)

pub next-requires-clause-unit : goal.next-requires-clause-unit
next-requires-clause-unit c = ap (λ g. g + 1) (sym c.loop-found.invariant.glyph)

pub returns-then-has-clause-used : goal.returns-then-has-clause-used
returns-then-has-clause-used c =
    sym (use_found (checked c.args.font.now c.args.sidebearings.now.edition) (executed c.loop-found.run.machine) c.args.name.now c.in-Some.glyph
    c.loop-found.run.machine.counted c.args.rule c.in-Some-next.found c.in-Some.ensures.place c.loop-found.invariant.font
    c.in-Some-next.ensures.found (few_found c.next.new.self.machine c.next.new.self.watches c.in-Some-next.found.step
    (checked c.args.font.now c.args.sidebearings.now.edition) (c.in-Some-next.ensures.font ∙ c.loop-found.invariant.font) c.in-Some-next.ensures.run
    c.in-Some-next.ensures.counted) (sym c.has.ensures ∙ c.if-has.true))

pub returns-then-has-clause-turns : goal.returns-then-has-clause-turns
returns-then-has-clause-turns c =
    c.counted.ensures.counted ∙ c.in-Some-next.ensures.counted
    ∙ sym (turns_used (checked c.args.font.now c.args.sidebearings.now.edition) (executed c.loop-found.run.machine) c.args.name.now c.in-Some.glyph
    c.loop-found.run.machine.counted c.args.rule c.in-Some-next.found c.in-Some.ensures.place c.loop-found.invariant.font
    c.in-Some-next.ensures.found
    (few_of (executed c.loop-found.run.machine) (executed c.next.new.self.machine) c.in-Some.glyph c.next.new.self.machine.glyph c.next.new.self.machine.counted
    c.in-Some-next.found.step c.in-Some-next.ensures.font (c.in-Some-next.ensures.glyph ∙ c.loop-found.invariant.glyph)
    c.in-Some-next.ensures.counted c.in-Some-next.ensures.run.counted) (sym c.has.ensures ∙ c.if-has.true) c.loop-found.invariant.quiet)

pub loop-found-smaller : goal.loop-found-smaller
loop-found-smaller c = omega (
  arith,
  c.in-Some-next.ensures.counted,
  c.in-Some-next.ensures.found.behind,
  (few_turns_of c.next.new.self.machine c.next.new.self.watches c.in-Some-next.ensures.run),
  limit_few c.next.new.self.machine.edition,
)

pub loop-found-preserved : goal.loop-found-preserved
loop-found-preserved c = record {
  run = c.in-Some-next.ensures.run;
  drawn = c.in-Some-next.ensures.drawn;
  font = c.in-Some-next.ensures.font ∙ c.loop-found.invariant.font;
  glyph = c.in-Some-next.ensures.glyph ∙ c.loop-found.invariant.glyph;
  quiet = unused_more (checked c.args.font.now c.args.sidebearings.now.edition) (executed c.loop-found.run.machine) c.in-Some.glyph
      c.loop-found.run.machine.counted c.next.new.self.machine.counted c.args.rule c.in-Some-next.found c.loop-found.invariant.font
      c.in-Some-next.ensures.found c.in-Some-next.ensures.counted (sym c.has.ensures ∙ c.if-has.false) c.loop-found.invariant.quiet;
}

pub returns-clause-used : goal.returns-clause-used
returns-clause-used c =
    sym (use_none (checked c.args.font.now c.args.sidebearings.now.edition) (executed c.loop-found.run.machine) c.args.name.now c.in-Some.glyph
    c.loop-found.run.machine.counted c.args.rule c.in-Some.ensures.place c.loop-found.invariant.font
    c.in_default-next.ensures.found c.loop-found.invariant.quiet)

pub returns-clause-turns : goal.returns-clause-turns
returns-clause-turns c =
    c.counted-2.ensures.counted ∙ c.in_default-next.ensures.counted
    ∙ ap (λ font. turns_of_glyph font c.loop-found.run.machine.glyph) c.loop-found.invariant.font
    ∙ ap (turns_of_glyph (checked c.args.font.now c.args.sidebearings.now.edition)) c.loop-found.invariant.glyph
    ∙ sym (turns_unused (checked c.args.font.now c.args.sidebearings.now.edition) (executed c.loop-found.run.machine) c.args.name.now c.in-Some.glyph
    c.loop-found.run.machine.counted c.args.rule c.in-Some.ensures.place c.loop-found.invariant.font
    c.in_default-next.ensures.found c.loop-found.invariant.quiet)
