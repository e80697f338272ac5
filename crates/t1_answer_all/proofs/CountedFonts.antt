-- Fonts that were checked with a form that counts.
use Rattle.std.proofs.Common.{◌≡◌, List, [], ◌∷◌, ◌++◌, ℕ, Option, None, inl, inr, refl, sym, ap, ap₂, ◌∙◌, append-nil, append_assoc, map, filter}
use Rattle.std.proofs.lemmas.Grind.{flat_map-append}
use Rattle.std.proofs.lemmas.Option.{none-some}
use Rattle.t1_many.specs.Told.{all_handed, founds_of}
use Rattle.t1_report.specs.Checked.{CheckedFont, checked}
use Rattle.t1_many.specs.Counting.{Counts, all_fonts, all_lines, fonts_of, lines_of}
use Rattle.t1_many.specs.Handing.{Handed, HandsOn, found_of, handed_of, is_told, line}
use Rattle.t1_many.specs.Outcomes.{Entry, Outcome, Report, failed, reported}
use Rattle.t1_many.specs.declared.policy.Lost.{Lost}
use Rattle.t1_many.specs.declared.verdict.Verdict.{Verdict}
use Rattle.t1_report.specs.Faults.{FaultValue}
use Rattle.t1_report.specs.Waivers.{Waiver}
use Rattle.t1_rules.specs.declared.rule.Rule.{Rule}
use Rattle.t1_summary.specs.Tallies.{tally_of}
use Rattle.t1_summary.specs.declared.found.FontClass.{FontClass}
use Rattle.t1_summary.specs.declared.tally.Tally.{Tally}

-- ---- how fonts were found is handed on once of each

no_fonts : (name : List ℕ) (font : CheckedFont) (waivers : List Waiver) (faults : List FaultValue) → all_fonts (map (line name font waivers) faults) ≡ []
no_fonts name font waivers [] = refl
no_fonts name font waivers (fault ∷ faults) = no_fonts name font waivers faults

one_font : (judge : Report → FaultValue → Verdict) (name : List ℕ) (outcome : Outcome)
    → all_fonts (handed_of judge name outcome) ≡ found_of judge outcome ∷ []
one_font judge name (reported report) =
    flat_map-append fonts_of (map (line name (checked report.font report.edition) report.waivers) (filter (λ fault. is_told (judge report fault)) report.faults)) _
    ∙ ap (λ (fs : List FontClass). fs ++ found_of judge (reported report) ∷ [])
    (no_fonts name (checked report.font report.edition) report.waivers (filter (λ fault. is_told (judge report fault)) report.faults))
one_font judge name (failed reason) = refl

pub fonts_are : (judges : List ℕ → Report → FaultValue → Verdict) (entries : List Entry)
    → all_fonts (all_handed judges entries) ≡ founds_of judges entries
fonts_are judges [] = refl
fonts_are judges (entry ∷ entries) =
    flat_map-append fonts_of (handed_of (judges entry.name) entry.name entry.outcome) (all_handed judges entries)
    ∙ ap₂ (λ (a b : List FontClass). a ++ b) (one_font (judges entry.name) entry.name entry.outcome) (fonts_are judges entries)

module _ {T F : Type 0} (takes : F → F → Handed → Option Lost → Type 0) (form : T → F) (tally : T → Tally) where
  -- What a form takes that counts.
  abbrev pub Takes : T → T → Handed → Option Lost → Type 0
  Takes old new handed lost = takes (form old) (form new) handed lost × Counts (tally old) (tally new) handed lost

  pub handed_on : (old new : T) (handed : List Handed) (lost : Option Lost) → HandsOn Takes old new handed lost
      → HandsOn takes (form old) (form new) handed lost
  handed_on old new [] lost (same, none) = (ap form same, none)
  handed_on old new (x ∷ xs) lost (inl (next, (took, count), rest)) = inl (form next, took, handed_on next new xs lost rest)
  handed_on old new (x ∷ xs) lost (inr (reason, (took, count), is)) = inr (reason, took, is)

  pub counted : (old new : T) (handed : List Handed) (founds : List FontClass) (lines : List Rule) → HandsOn Takes old new handed None
      → tally old ≡ tally_of founds lines → tally new ≡ tally_of (founds ++ all_fonts handed) (lines ++ all_lines handed)
  counted old new [] founds lines (same, none) is =
      ap tally same ∙ is ∙ ap₂ tally_of (sym (append-nil founds)) (sym (append-nil lines))
  counted old new (x ∷ xs) founds lines (inl (next, (took, count), rest)) is =
      counted next new xs (founds ++ fonts_of x) (lines ++ lines_of x) rest (count founds lines is)
      ∙ ap₂ tally_of (append_assoc founds (fonts_of x) (all_fonts xs)) (append_assoc lines (lines_of x) (all_lines xs))
  counted old new (x ∷ xs) founds lines (inr (reason, (took, count), none)) is = absurd (none-some reason none)
