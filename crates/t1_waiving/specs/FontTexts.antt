-- The texts of waivers that are kept of fonts, to be written beside them.
use Rattle.std.specs.Prelude.{ℕ, nat_le, List, [], ◌∷◌, if◌then◌else◌, length, string_bytes, Option, None, Some, option_map}
use Rattle.std.specs.List.{flat_map}
use Rattle.t1_many.specs.Outcomes.{Entry, Outcome, failed, reported}
use Rattle.t1_names.specs.Words.{is_input}
use Rattle.t1_report.specs.Waivers.{largest_waivers}
use Rattle.t1_rules.specs.declared.mask.Mask.{Mask}
use Rattle.t1_waiving.specs.Reports.{report_text}
use Rattle.t1_waiving.specs.declared.kept.FontWaivers.{FontWaivers}

-- A font and its text of waivers: none where it's longer than a text that is read.
pub record FontText : Type 0 where
  pub name : List ℕ
  pub text : Option (List ℕ)

abbrev pub font_text : FontWaivers → FontText
font_text waivers = record { name = string_bytes waivers.name; text = option_map (λ text. text.items) waivers.text }

abbrev pub readable : List ℕ → Option (List ℕ)
readable text = if nat_le (length text) largest_waivers then Some text else None

-- What is kept of a font with this text: nothing where it has no waiver.
abbrev pub texts_of : List ℕ → List ℕ → List FontText
texts_of name [] = []
texts_of name (byte ∷ text) = record { name = name; text = readable (byte ∷ text) } ∷ []

-- What is kept by how its check ended: the waivers of the lines of its glyphs whose rules are reported; nothing of standard input, and nothing
-- where there is no report.
abbrev pub outcome_texts : Mask → List ℕ → Outcome → List FontText
outcome_texts rules name (reported report) =
    if is_input name then [] else texts_of name (report_text rules report.font report.waivers report.faults)
outcome_texts rules name (failed reason) = []

abbrev pub entry_texts : Mask → Entry → List FontText
entry_texts rules entry = outcome_texts rules entry.name entry.outcome

-- Of fonts, one after the other.
abbrev pub all_texts : Mask → List Entry → List FontText
all_texts rules entries = flat_map (entry_texts rules) entries
