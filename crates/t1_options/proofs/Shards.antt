-- Parts that `--shard` names.
use Rattle.std.proofs.Common.{◌≡◌, ◌≤◌, ℕ, Bool, true, false, nat_lt, if◌then◌else◌, Option, None, Some, option_and_then, inl, inr, refl, ap, arith}
use Rattle.std.proofs.lemmas.Bool.{cases_Bool}
use Rattle.std.proofs.lemmas.Bool.Decides.{nat_tests}
use Rattle.std.specs.List.{after_first, before_first, list_any}
use Rattle.t1_options.proofs.Numbers.{number_within}
use Rattle.t1_options.specs.Laws.{IsPart, ShardsAreParts}
use Rattle.t1_options.specs.Values.{is_slash, number_in, part_of, shard_of}
use Rattle.t1_options.specs.declared.asked.Shard.{Shard}

-- a choice that has something
chosen : {X : Type 0} (b : Bool) (o : Option X) (x : X) → (if b then o else None) ≡ Some x → o ≡ Some x
chosen true o x is = is
chosen false o x is = cc

-- such a part of so many
is_part : (part parts : ℕ) (shard : Shard) → (1 ≤ part) × (part ≤ 99999) → (1 ≤ parts) × (parts ≤ 99999) → part_of part parts ≡ Some shard
    → IsPart shard
is_part part parts shard low high is = elim (cases_Bool (nat_lt parts part)) [
  | inl less ↦ (let never : None ≡ Some shard = rw less at is in cc)
  | inr within ↦
      let same : Some (record { part = part; parts = parts }) ≡ Some shard = rw within at is in
      let one : part ≡ shard.part = ap (λ o. elim o [ Some s ↦ s.part | None ↦ 0 ]) same in
      let all : parts ≡ shard.parts = ap (λ o. elim o [ Some s ↦ s.parts | None ↦ 0 ]) same in
      let last : part ≤ parts = grind (arith, nat_tests, within) in
      record { first = omega (arith, one, low.0); last = omega (arith, one, all, last); few = omega (arith, all, high.1) }
]

-- the two numbers
of_numbers : (part parts : Option ℕ) (shard : Shard) → ((n : ℕ) → part ≡ Some n → (1 ≤ n) × (n ≤ 99999))
    → ((n : ℕ) → parts ≡ Some n → (1 ≤ n) × (n ≤ 99999))
    → option_and_then (λ p. option_and_then (λ n. part_of p n) parts) part ≡ Some shard → IsPart shard
of_numbers None parts shard low high is = cc
of_numbers (Some p) None shard low high is = cc
of_numbers (Some p) (Some n) shard low high is = is_part p n shard (low p refl) (high n refl) is

pub shards_are_parts : ShardsAreParts
shards_are_parts text shard is =
    let part = before_first is_slash text in
    let parts = after_first is_slash text in
    of_numbers (number_in part) (number_in parts) shard (number_within part) (number_within parts)
    (chosen (list_any is_slash text) (shard_of part parts) shard is)
