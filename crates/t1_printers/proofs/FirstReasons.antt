-- The reason of a group's first line.
use Rattle.std.proofs.Common.{◌≡◌, ◌-◌, ◌==◌, ◌&&◌, ℕ, suc, nat_lt, Bool, false, List, [], ◌∷◌, ◌++◌, Option, ap, arith, cond, inl, inr, length, refl, set, ◌∙◌}
use Rattle.std.proofs.lemmas.Bool.{cases_Bool, ne_eqb}
use Rattle.t1_printers.proofs.GroupTails.{run_count}
use Rattle.t1_printers.specs.FaultUnits.{unit_name, unit_number}
use Rattle.t1_printers.specs.Groups.{GroupValue, added, with_run}
use Rattle.t1_printers.specs.Held.{HeldLine, held_line, line_with, reason_of}
use Rattle.t1_printers.specs.RuleGroups.{group_of, with_line}
use Rattle.t1_printers.specs.TerminalNames.{terminal_name}
use Rattle.t1_printers.specs.Units.{begins_run}
use Rattle.t1_printers.specs.Widths.{width_of}
use Rattle.t1_printers.specs.declared.unit.UnitNumber.{UnitNumber}
use Rattle.t1_many.specs.Reasons.{told_text}
use Rattle.t1_report.specs.Checked.{CheckedFont}
use Rattle.t1_report.specs.Faults.{FaultValue}
use Rattle.t1_lines.specs.Lines.{place_in}
use Rattle.t1_report.specs.Waivers.{Waiver}
use Rattle.t1_rules.specs.Book.{number_of}

run_reason : (g : GroupValue) (name : List ℕ) → (with_run g name).reason ≡ g.reason
run_reason g name = elim (cases_Bool (length g.names == g.runs)) [
  | inl all ↦ elim (cases_Bool (nat_lt (width_of name) (g.left - 1))) [ inl fits ↦ rw all (rw fits refl) | inr wide ↦ rw all (rw wide refl) ]
  | inr some ↦ rw some refl
]

-- The reason that a group has with a line more.
pub added_reason : (g : GroupValue) (number : UnitNumber) (name : List ℕ) (reason : Option (List ℕ))
    → (added g number name reason).reason ≡ cond (g.count == 0) reason g.reason
added_reason g number name reason = elim (cases_Bool (begins_run g.last number)) [
  | inl begins ↦
      rw begins
      (ap (λ k. cond (k == 0) reason (with_run g name).reason) (run_count g name) ∙ ap (λ r. cond (g.count == 0) reason r) (run_reason g name))
  | inr goes_on ↦ rw goes_on refl
]

-- a reason that is requested only where there is no line
requested : (g : GroupValue) (number : UnitNumber) (name : List ℕ) (reason : Bool → Option (List ℕ)) (reasons : Bool)
    → added g number name (reason ((g.count == 0) && reasons)) ≡ added g number name (reason reasons)
requested g number name reason reasons = elim (cases_Bool (g.count == 0)) [
  | inl none ↦ rw none refl
  | inr some ↦ elim (cases_Bool (begins_run g.last number)) [
    | inl begins ↦ (
        let count : ((with_run g name).count == 0) ≡ false = ap (λ k. k == 0) (run_count g name) ∙ some in
        rw (begins, count) refl)
    | inr goes_on ↦ rw (goes_on, some) refl
  ]
]

pub line_requested : (groups : List GroupValue) (reasons : Bool) (font : CheckedFont) (waivers : List Waiver) (fault : FaultValue)
    → with_line groups (line_with font.value waivers fault (told_text (((group_of groups fault.rule).count == 0) && reasons) font waivers fault))
    ≡ with_line groups (held_line reasons font waivers fault)
line_requested groups reasons font waivers fault =
    ap (set groups (number_of fault.rule - 1))
    (requested (group_of groups fault.rule) (unit_number fault (place_in font.value waivers fault)) (terminal_name (unit_name (place_in font.value waivers fault)))
    (λ is_told. told_text is_told font waivers fault) reasons)

-- The reason of the first of some lines and one more.
pub reason_push : (held : List HeldLine) (l : HeldLine) → reason_of (held ++ l ∷ []) ≡ cond (length held == 0) l.reason (reason_of held)
reason_push [] l = refl
reason_push (first ∷ held) l =
    let some : (suc (length held) == 0) ≡ false = ne_eqb (suc (length held)) 0 (λ e. omega (arith, e)) in
    rw some refl
