-- Sets of rules, by the numbers of their members.
use Rattle.std.specs.Prelude.{◌≡◌, ℕ, ◌<◌, ◌≤◌, Bool, true, false, nat_eq}
use Rattle.std.specs.Int.{bit_at}
use Rattle.t1_rules.specs.declared.mask.Mask.{Mask}
use Rattle.t1_rules.specs.declared.rule.Rule.{Rule}
use Rattle.t1_rules.specs.Book.{number_of, last_number}

-- The rule of this number is in the set.
abbrev pub has : Mask → ℕ → Bool
has mask n = nat_eq (bit_at mask.bits n) 1

-- The set has no rule of a greater number.
abbrev pub HasNoneAbove : Mask → ℕ → Type 0
HasNoneAbove mask floor = (n : ℕ) → floor < n → n ≤ last_number → has mask n ≡ false

-- A rule is in the set, its number is greater, and it is the least such.
pub record IsLeastAbove (mask : Mask) (floor : ℕ) (rule : Rule) : Type 0 where
  pub is_in : has mask (number_of rule) ≡ true
  pub greater : floor < number_of rule
  pub least : (n : ℕ) → floor < n → n < number_of rule → has mask n ≡ false
