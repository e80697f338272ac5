-- The lines of a summary.
use Rattle.std.proofs.Common.{◌≡◌, ◌==◌, ◌&&◌, ◌-◌, ℕ, nat_lt, Bool, true, false, codes, decimal, List, [], ◌∷◌, ◌++◌, drop, filter, flat_map, length, min, replicate, if◌then◌else◌, inl, inr, refl, sym, ap, ◌∙◌, append_assoc, arith}
use Rattle.std.proofs.lemmas.Bool.{cases_Bool}
use Rattle.std.proofs.lemmas.Bool.Decides.{nat_tests}
use Rattle.std.proofs.KnownBytes.{Appends-nil}
use Rattle.std.proofs.lemmas.List.{drop-replicate}
use Rattle.t1_io.specs.Devices.{SinkState, Wrote}
use Rattle.t1_rules.specs.declared.rule.Rule.{Rule}
use Rattle.t1_rules.specs.Book.{code_of, level_of, text_of}
use Rattle.t1_rules.specs.Levels.{level_text}
use Rattle.t1_summary.specs.Private.Lines.{told_line}
use Rattle.t1_summary.specs.Summaries.{fonts_line, one_or_many, rule_line}
use Rattle.t1_summary.specs.Tallies.{all_fonts, fonts_in, lines_in}
use Rattle.t1_summary.specs.declared.found.FontClass.TheVariants.{Clean, Known, Faulty, Refused, Unchecked}
use Rattle.t1_summary.specs.declared.tally.Tally.{Tally}

-- rules without lines have none in the summary
pub told_lines : (tally : Tally) (order : List Rule)
    → flat_map (told_line tally) order ≡ flat_map (rule_line tally) (filter (λ rule. nat_lt 0 (lines_in tally rule)) order)
unfolding told_line
told_lines tally [] = refl
told_lines tally (rule ∷ order) = elim (cases_Bool (lines_in tally rule == 0)) [
  | inl none ↦ (let not_told : nat_lt 0 (lines_in tally rule) ≡ false = grind (arith, nat_tests) in rw (none, not_told) (told_lines tally order))
  | inr some ↦ (let told : nat_lt 0 (lines_in tally rule) ≡ true = grind (arith, nat_tests) in
      rw (some, told) (ap (λ (text : List ℕ). rule_line tally rule ++ text) (told_lines tally order)))
]

-- two parts that are there together
pub both_there : (has : Bool) (a b rest : List ℕ)
    → (if has then a else []) ++ ((if has then b else []) ++ rest) ≡ (if has then a ++ b else []) ++ rest
both_there true a b rest = sym (append_assoc a b rest)
both_there false a b rest = refl

waits-nil : (b : Bool) → b ≡ (b && true)
waits-nil true = refl
waits-nil false = refl

-- nothing is written
pub Wrote-nil : (s : SinkState) → Wrote s s []
Wrote-nil s = record { bytes = Appends-nil s.written; waits = waits-nil s.flushed; flushes = refl; failed_puts = refl; failed = refl }

pub none_told : (tally : Tally) (rule : Rule) (lines : ℕ) → lines ≡ lines_in tally rule → lines ≡ 0 → told_line tally rule ≡ []
unfolding told_line
none_told tally rule lines is none =
    let zero_is : (lines_in tally rule == 0) ≡ true = grind (arith, nat_tests) in rw zero_is refl

-- what is left of seven blanks
pub blanks_left : (n width : ℕ) → width ≡ min n 7 → drop {A = ℕ} width (replicate 7 32) ≡ replicate (7 - n) 32
blanks_left n width is =
    let same : 7 - width ≡ 7 - n = omega (arith, is) in
    let left : drop {A = ℕ} width (replicate 7 32) ≡ replicate (7 - width) 32 = drop-replicate width 7 32 in
    rw same at left

pub rule_told : (tally : Tally) (rule : Rule) (lines : ℕ) (blanks digits code text level : List ℕ) → lines ≡ lines_in tally rule → ¬ (lines ≡ 0)
    → digits ≡ decimal lines → blanks ≡ replicate (7 - length digits) 32 → code ≡ code_of rule → text ≡ text_of rule
    → level ≡ level_text (level_of rule)
    → blanks ++ (digits ++ (codes " " ++ (code ++ (codes " " ++ (text ++ (codes " (" ++ (level ++ (codes ")\n" ++ []))))))))
    ≡ told_line tally rule
unfolding told_line rule_line
rule_told tally rule lines blanks digits code text level is some are_digits are_blanks is_code is_text is_level =
    let not_none : (lines_in tally rule == 0) ≡ false = grind (arith, nat_tests) in
    let digits_are : digits ≡ decimal (lines_in tally rule) = are_digits ∙ ap decimal is in
    rw (not_none, is_code, is_text, is_level, are_blanks, digits_are)
    (sym (append_assoc (replicate (7 - length (decimal (lines_in tally rule))) 32) (decimal (lines_in tally rule)) _))

pub fonts_told : (has_known : Bool) (tally : Tally) (all clean known faulty refused unchecked name known_number known_words : List ℕ)
    → all ≡ decimal (all_fonts tally) → clean ≡ decimal (fonts_in tally Clean) → known ≡ decimal (fonts_in tally Known)
    → faulty ≡ decimal (fonts_in tally Faulty) → refused ≡ decimal (fonts_in tally Refused) → unchecked ≡ decimal (fonts_in tally Unchecked)
    → name ≡ one_or_many (all_fonts tally) (codes " font: ") (codes " fonts: ") → known_number ≡ (if has_known then known else [])
    → known_words ≡ (if has_known then codes " with known faults alone, " else [])
    → all ++ (name ++ (clean ++ (codes " clean, " ++ (known_number ++ (known_words ++ (faulty ++ (codes " with faults, "
    ++ (refused ++ (codes " refused, " ++ (unchecked ++ (codes " not checked\n" ++ [])))))))))))
    ≡ fonts_line has_known tally
unfolding fonts_line
fonts_told has_known tally all clean known faulty refused unchecked name known_number known_words
    are_all are_clean are_known are_faulty are_refused are_unchecked is_name is_number are_words =
    rw (
      is_number,
      are_words,
      is_name,
      are_all,
      are_clean,
      are_known,
      are_faulty,
      are_refused,
      are_unchecked,
      both_there has_known (decimal (fonts_in tally Known)) (codes " with known faults alone, "),
    ) refl
