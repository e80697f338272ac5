-- What results are counted by.
use Rattle.std.proofs.Common.{◌≡◌, ◌<◌, ◌+◌, ◌-◌, ℕ, true, List, Option, bytes_eq, length, get_or, slice_index_or, slice_set, inl, inr, refl, sym, ap, ◌∙◌, arith}
use Rattle.std.specs.Option.{option_map_or}
use Rattle.std.proofs.lemmas.Bool.{cases_Bool}
use Rattle.std.proofs.lemmas.List.{get_or-replicate, get_or-set_other, get_or-set_same, length-replicate}
use Rattle.std.proofs.lemmas.Slice.Eq.{bytes_eq-Decides}
use Rattle.t1_io.specs.Devices.{one_more}
use Rattle.t1_lines.specs.Lines.{LineValue, of_fault, of_refusal}
use Rattle.t1_font.specs.declared.unread.RefusalCode.{RefusalCode}
use Rattle.t1_font.specs.declared.unread.RefusalCode.TheVariants.{E01, E15}
use Rattle.t1_rules.proofs.Lemmas.Book.{in_book, one_rule}
use Rattle.t1_rules.proofs.Lemmas.RuleCodes.{rule_is_found}
use Rattle.t1_rules.specs.Book.{code_of, coded_in, last_number, number_of, rule_coded}
use Rattle.t1_rules.specs.declared.rule.Rule.{Rule}
use Rattle.t1_forms.proofs.OneObject.{refusal_among, refusals}
use Rattle.t1_forms.specs.Objects.{refusal_code_of}
use Rattle.t1_forms.specs.Sarif.{SarifState, after_result, code_count, code_number, count_of, counts_in, no_counts, refusal_number}
use Rattle.t1_forms.specs.SarifDocuments.{CountsAreOfTheirUnits}
use Rattle.t1_forms.specs.SarifObjects.{line_code, unit_of}

-- ---- codes and their numbers

abbrev number_coded : List ℕ → ℕ
number_coded code = option_map_or (λ rule. number_of rule - 1) (rule_coded code) (last_number + option_map_or refusal_number (refusal_among refusals code) 0)

of_rule : (rule : Rule) → number_coded (code_of rule) ≡ number_of rule - 1
of_rule rule =
    ap (λ (found : Option Rule).
    option_map_or (λ r. number_of r - 1) found (last_number + option_map_or refusal_number (refusal_among refusals (code_of rule)) 0)) (rule_is_found rule)

of_code : (code : RefusalCode) → number_coded (refusal_code_of code) ≡ last_number + refusal_number code
unfolding coded_in
of_code E01 = refl
of_code _ = refl

number_of_code : (l : LineValue) → number_coded (line_code l) ≡ code_number l
number_of_code (of_fault l) = of_rule l.rule
number_of_code (of_refusal code) = of_code code

same_number : (l other : LineValue) → line_code l ≡ line_code other → code_number l ≡ code_number other
same_number l other same = sym (number_of_code l) ∙ ap number_coded same ∙ number_of_code other

refusal_numbered : (code : RefusalCode) → slice_index_or refusals (refusal_number code) E15 ≡ code
refusal_numbered E01 = refl
refusal_numbered _ = refl

one_refusal : (a b : RefusalCode) → refusal_number a ≡ refusal_number b → a ≡ b
one_refusal a b same = sym (refusal_numbered a) ∙ ap (λ (n : ℕ). slice_index_or refusals n E15) same ∙ refusal_numbered b

same_code : (l other : LineValue) → code_number l ≡ code_number other → line_code l ≡ line_code other
same_code (of_fault l) (of_fault other) same =
    let one = in_book l.rule in let two = in_book other.rule in
    ap code_of (one_rule l.rule other.rule (omega (arith, same, one.0, two.0)))
same_code (of_fault l) (of_refusal code) same = let one = in_book l.rule in absurd (omega (arith, same, one.1))
same_code (of_refusal code) (of_fault other) same = let two = in_book other.rule in absurd (omega (arith, same, two.1))
same_code (of_refusal a) (of_refusal b) same = ap refusal_code_of (one_refusal a b (omega (arith, same)))

few_refusals : (code : RefusalCode) → refusal_number code < 15
few_refusals E01 = omega arith
few_refusals _ = omega arith

number_within : (l : LineValue) → code_number l < code_count
number_within (of_fault l) = let one = in_book l.rule in omega (arith, one.0, one.1)
number_within (of_refusal code) = let few = few_refusals code in omega (arith, few)

none_counted : (l : LineValue) → get_or no_counts (code_number l) 0 ≡ 0
none_counted l = get_or-replicate code_count (code_number l) 0 0 (number_within l)

-- ---- counts

-- After a result of the same unit its counts continue.
same_unit : (state : SarifState) (font : Option (List ℕ)) (l other : LineValue) → unit_of font other ≡ unit_of font l
    → counts_in (after_result state font other) (unit_of font l)
    ≡ slice_set (counts_in state (unit_of font l)) (code_number other) (count_of state font other)
same_unit state font l other same =
    let is : bytes_eq (unit_of font l) (unit_of font other) ≡ true = (bytes_eq-Decides (unit_of font l) (unit_of font other)).1 (sym same) in
    rw is (ap (λ u. slice_set (counts_in state u) (code_number other) (count_of state font other)) same)

kept_length : (state : SarifState) (unit : List ℕ) → length state.counts ≡ code_count → length (counts_in state unit) ≡ code_count
kept_length state unit long = elim (cases_Bool (bytes_eq unit state.unit)) [
  | inl e ↦ rw e long
  | inr e ↦ rw e (length-replicate {A = ℕ} code_count 0)
]

pub counts : CountsAreOfTheirUnits
counts state font l other =
    let p = code_number l in
    record {
      begins = λ new. rw new (ap one_more (none_counted l));
      stays = λ same apart.
          ap (λ cs. one_more (get_or cs p 0)) (same_unit state font l other same)
          ∙ ap one_more (get_or-set_other (counts_in state (unit_of font l)) (code_number other) p (count_of state font other) 0 (λ same_numbers. apart (same_code l other same_numbers)));
      goes_on = λ same alike long.
          ap (λ cs. one_more (get_or cs p 0)) (same_unit state font l other same)
          ∙ ap (λ q. one_more (get_or (slice_set (counts_in state (unit_of font l)) q (count_of state font other)) p 0)) (sym (same_number l other alike))
          ∙ ap one_more (get_or-set_same (counts_in state (unit_of font l)) p (count_of state font other) 0
          (let all = kept_length state (unit_of font l) long in let at = number_within l in omega (arith, all, at)))
          ∙ ap (λ u. one_more (one_more (get_or (counts_in state u) (code_number other) 0))) same
          ∙ ap (λ q. one_more (one_more (get_or (counts_in state (unit_of font l)) q 0))) (sym (same_number l other alike));
    }
