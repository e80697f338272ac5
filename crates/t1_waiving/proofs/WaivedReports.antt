-- What is done with a font's report: of standard input all is reported, of other fonts the waivers are kept.
use Rattle.std.proofs.Common.{◌≡◌, ◌++◌, ◌∙◌, Bool, true, false, ℕ, List, [], if◌then◌else◌, Option, append-nil, ap, subst, sym}
use Rattle.t1_many.specs.Handing.{Handed, HandsFont, Keeping}
use Rattle.t1_many.specs.Outcomes.{Entry, Report, reported}
use Rattle.t1_many.specs.Recipients.{recipient_by}
use Rattle.t1_many.specs.Verdicts.{of_rules}
use Rattle.t1_many.specs.declared.policy.Lost.{Lost}
use Rattle.t1_names.specs.Words.{is_input}
use Rattle.t1_rules.specs.declared.mask.Mask.{Mask}
use Rattle.t1_waiving.specs.FontTexts.{FontText, texts_of}
use Rattle.t1_waiving.specs.GlyphLines.{outside_glyphs}
use Rattle.t1_waiving.specs.Reports.{report_text}
use Rattle.t1_waiving.specs.Waived.{WaivesFont}

module _ {F : Type 0} (takes : F → F → Handed → Option Lost → Type 0) (rules : Mask) (old new : F) (kept kept' : List FontText)
    (name : List ℕ) (report : Report) (lost : Option Lost) where
  abbrev keeping : Keeping FontText
  keeping = record { printer = recipient_by takes old new; old = kept; new = kept' }

  abbrev entry : Entry
  entry = record { name = name; outcome = reported report }

  abbrev kept_of : List FontText
  kept_of = texts_of name (report_text rules report.font report.waivers report.faults)

  by_name : (is : Bool) → is_input name ≡ is
      → HandsFont keeping.printer (if is then of_rules rules else outside_glyphs rules) entry lost
      → kept' ≡ kept ++ (if is then [] else kept_of) → WaivesFont keeping rules entry lost
  by_name is name_is hands keeps = record {
    hands = subst (λ (b : Bool). HandsFont keeping.printer (if b then of_rules rules else outside_glyphs rules) entry lost) (sym name_is) hands;
    keeps = keeps ∙ ap (λ (b : Bool). kept ++ (if b then [] else kept_of)) (sym name_is);
  }

  pub input_told : is_input name ≡ true → HandsFont keeping.printer (of_rules rules) entry lost → kept' ≡ kept → WaivesFont keeping rules entry lost
  input_told is hands same = by_name true is hands (same ∙ sym (append-nil kept))

  pub font_waived : is_input name ≡ false → HandsFont keeping.printer (outside_glyphs rules) entry lost → kept' ≡ kept ++ kept_of
      → WaivesFont keeping rules entry lost
  font_waived = by_name false
