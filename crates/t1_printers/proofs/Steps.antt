-- Steps of loops over rules and groups.
use Rattle.std.proofs.Common.{◌≡◌, ◌-◌, ◌<◌, ◌≤◌, ℕ, List, Option, [], ◌++◌, ap, append-nil, append_assoc, arith, flat_map, get_or, length, map, set, sym, take, ◌∙◌}
use Rattle.std.proofs.Math.ListN.{get_or-map}
use Rattle.std.proofs.lemmas.List.{get_or_default, length-map, map-set, take_all}
use Rattle.t1_printers.specs.Groups.{added, empty_group, group_value}
use Rattle.t1_printers.specs.RuleGroups.{with_line}
use Rattle.t1_printers.specs.declared.group.Group.{Group}
use Rattle.t1_printers.specs.declared.unit.UnitNumber.{UnitNumber}
use Rattle.t1_rules.specs.Book.{number_of}
use Rattle.t1_rules.specs.declared.rule.Rule.{Rule}

-- the lines of all rules are those of a loop over them
pub each_line : (old new : List ℕ) (line : Rule → List ℕ) (given all : List Rule) (i : ℕ) → new ≡ old ++ flat_map line (take i given) → given ≡ all
    → length all ≤ i → new ≡ old ++ flat_map line all
each_line old new line given all i is same past =
    is ∙ ap (λ rs. old ++ flat_map line rs) (ap (take i) same ∙ take_all i all past)

-- three texts
pub three_texts : (none first second third a b c : List ℕ) → none ≡ [] → first ≡ none ++ a → second ≡ first ++ b → third ≡ second ++ c
    → third ≡ a ++ (b ++ (c ++ []))
three_texts none first second third a b c start one two three =
    three ∙ ap (λ t. t ++ c) (two ∙ ap (λ t. t ++ b) (one ∙ ap (λ t. t ++ a) start))
    ∙ append_assoc a b c
    ∙ ap (λ t. a ++ (b ++ t)) (sym (append-nil c))

-- a line more in the group of its rule
pub item_added : (items : List Group) (i n : ℕ) (old new : Group) (rule : Rule) (number : UnitNumber) (name : List ℕ)
    (reason : Option (List ℕ)) → i ≡ n - 1 → n ≡ number_of rule → i < length items → old ≡ get_or items i old
    → group_value new ≡ added (group_value old) number name reason
    → map group_value (set items i new)
    ≡ with_line (map group_value items) (record { rule = rule; unit = record { number = number; name = name }; reason = reason })
item_added items i n old new rule number name reason at is less read grown =
    let groups = map group_value items in
    let long : i < length groups = omega (arith, less, length-map items group_value) in
    let here : group_value old ≡ get_or groups i (empty_group 0) =
    ap group_value read ∙ sym (get_or-map group_value items i old) ∙ get_or_default groups i (group_value old) (empty_group 0) long in
    map-set group_value items i new
    ∙ ap (set groups i) (grown ∙ ap (λ g. added g number name reason) here)
    ∙ ap (λ k. set groups k (added (get_or groups k (empty_group 0)) number name reason)) (at ∙ ap (λ k. k - 1) is)
