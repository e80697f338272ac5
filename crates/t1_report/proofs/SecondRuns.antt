-- Whether a waiver is used, by a second run of its glyph.
use Rattle.std.proofs.Common.{◌≡◌, ℕ, suc, ◌+◌, ◌≤◌, inl, inr, true, false, List, Some, sym, ap, subst, ◌∙◌, arith}
use Rattle.std.proofs.lemmas.Bool.{cases_lt}
use Rattle.t1_report.specs.Checked.{CheckedFont, step_limit}
use Rattle.t1_rules.specs.declared.rule.Rule.{Rule}
use Rattle.t1_rules.specs.Book.{number_of}
use Rattle.t1_rules.specs.Components.{glyph_named}
use Rattle.t1_rules.specs.Mask.{has}
use Rattle.t1_report.specs.declared.walk.found.Found.{Found}
use Rattle.t1_report.specs.Reports.{is_broken, is_used, is_used_by}
use Rattle.t1_report.specs.Private.Units.{IsFirst, IsQuietFrom}
use Rattle.t1_report.specs.Walks.{turns_for, turns_of_glyph, turns_of_waiver}
use Rattle.t1_report.proofs.Asked.{all_turns, turns_to_first}
use Rattle.t1_report.proofs.Told.{none_below, some_below}

-- The rule isn't broken up to a step of the glyph.
abbrev pub IsUnused : CheckedFont → ℕ → Rule → ℕ → Type 0
IsUnused font glyph rule to = (s : ℕ) → s ≤ to → is_broken font (glyph + 1) s (number_of rule) ≡ false

pub unused_more : (font run : CheckedFont) (glyph old new : ℕ) (rule : Rule) (found : Found) → run ≡ font → IsFirst run (glyph + 1) (old + 1) found
    → new ≡ found.step → has found.rules (number_of rule) ≡ false
    → IsUnused font glyph rule old → IsUnused font glyph rule new
unused_more font run glyph old new rule found same first at none so_far s low =
    elim (cases_lt old s) [
      | inr before ↦ so_far s before
      | inl behind ↦ subst (λ f. is_broken f (glyph + 1) s (number_of rule) ≡ false) same
          (elim (cases_lt s found.step) [
            | inl less ↦ first.quiet s rule (omega (arith, behind)) less
            | inr past ↦
                let here : s ≡ found.step = omega (arith, past, low, at) in
                ap (λ t. is_broken run (glyph + 1) t (number_of rule)) here ∙ sym (first.rules (number_of rule)) ∙ none
          ])
    ]

used_by : (font : CheckedFont) (name : List ℕ) (rule : Rule) (glyph : ℕ) → Some glyph ≡ glyph_named font.value name → is_used font (name, rule) ≡ is_used_by
    font (number_of rule) (Some glyph)
used_by font name rule glyph is = ap (is_used_by font (number_of rule)) (sym is)

pub use_found : (font run : CheckedFont) (name : List ℕ) (glyph old : ℕ) (rule : Rule) (found : Found) → Some glyph ≡ glyph_named font.value name → run ≡ font
    → IsFirst run (glyph + 1) (old + 1) found → found.step ≤ step_limit font + 1
    → has found.rules (number_of rule) ≡ true → is_used font (name, rule) ≡ true
use_found font run name glyph old rule found named same first few there =
    let unit : glyph + 1 ≡ suc glyph = omega arith in
    let broken : is_broken font (suc glyph) found.step (number_of rule) ≡ true =
    subst (λ u. is_broken font u found.step (number_of rule) ≡ true) unit
    (subst (λ f. is_broken f (glyph + 1) found.step (number_of rule) ≡ true) same (sym (first.rules (number_of rule)) ∙ there)) in
    used_by font name rule glyph named ∙ some_below font (suc glyph) (step_limit font + 2) (number_of rule) found.step (omega (arith, few)) broken

pub use_none : (font run : CheckedFont) (name : List ℕ) (glyph old : ℕ) (rule : Rule) → Some glyph ≡ glyph_named font.value name → run ≡ font
    → IsQuietFrom run (glyph + 1) (old + 1)
    → IsUnused font glyph rule old → is_used font (name, rule) ≡ false
use_none font run name glyph old rule named same quiet so_far =
    let unit : glyph + 1 ≡ suc glyph = omega arith in
    used_by font name rule glyph named
    ∙ none_below font (suc glyph) (step_limit font + 2) (number_of rule)
    (λ s less. subst (λ u. is_broken font u s (number_of rule) ≡ false) unit
    (elim (cases_lt old s) [
      | inr before ↦ so_far s before
      | inl behind ↦ subst (λ f. is_broken f (glyph + 1) s (number_of rule) ≡ false) same (quiet s rule (omega (arith, behind)))
    ]))

-- ---- how many steps are requested of its machine

turns_by : (font : CheckedFont) (name : List ℕ) (rule : Rule) (glyph : ℕ) → Some glyph ≡ glyph_named font.value name → turns_of_waiver font (name, rule)
    ≡ turns_for font (number_of rule) (Some glyph)
turns_by font name rule glyph is = ap (turns_for font (number_of rule)) (sym is)

-- Up to the step that was found.
pub turns_used : (font run : CheckedFont) (name : List ℕ) (glyph old : ℕ) (rule : Rule) (found : Found) → Some glyph ≡ glyph_named font.value name → run ≡ font
    → IsFirst run (glyph + 1) (old + 1) found → found.step ≤ turns_of_glyph run glyph
    → has found.rules (number_of rule) ≡ true → IsUnused font glyph rule old → turns_of_waiver font (name, rule) ≡ found.step
turns_used font run name glyph old rule found named same first few there so_far =
    let unit : glyph + 1 ≡ suc glyph = omega arith in
    let broken : is_broken font (suc glyph) found.step (number_of rule) ≡ true =
    subst (λ u. is_broken font u found.step (number_of rule) ≡ true) unit
    (subst (λ f. is_broken f (glyph + 1) found.step (number_of rule) ≡ true) same (sym (first.rules (number_of rule)) ∙ there)) in
    turns_by font name rule glyph named
    ∙ turns_to_first font (suc glyph) (number_of rule) found.step (turns_of_glyph font glyph)
    (λ s less. subst (λ u. is_broken font u s (number_of rule) ≡ false) unit
    (elim (cases_lt old s) [
      | inr before ↦ so_far s before
      | inl behind ↦ subst (λ f. is_broken f (glyph + 1) s (number_of rule) ≡ false) same (first.quiet s rule (omega (arith, behind)) less)
    ]))
    broken (subst (λ f. found.step ≤ turns_of_glyph f glyph) same few)

-- All of them, where none was found.
pub turns_unused : (font run : CheckedFont) (name : List ℕ) (glyph old : ℕ) (rule : Rule) → Some glyph ≡ glyph_named font.value name → run ≡ font
    → IsQuietFrom run (glyph + 1) (old + 1)
    → IsUnused font glyph rule old → turns_of_waiver font (name, rule) ≡ turns_of_glyph font glyph
turns_unused font run name glyph old rule named same quiet so_far =
    let unit : glyph + 1 ≡ suc glyph = omega arith in
    turns_by font name rule glyph named
    ∙ all_turns font (suc glyph) (number_of rule) (turns_of_glyph font glyph)
    (λ s less. subst (λ u. is_broken font u s (number_of rule) ≡ false) unit
    (elim (cases_lt old s) [
      | inr before ↦ so_far s before
      | inl behind ↦ subst (λ f. is_broken f (glyph + 1) s (number_of rule) ≡ false) same (quiet s rule (omega (arith, behind)))
    ]))
