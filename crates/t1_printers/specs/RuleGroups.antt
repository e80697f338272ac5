-- The groups of all rules, in the order of their numbers.
use Rattle.std.specs.Prelude.{ℕ, ◌-◌, List, Option, None, Some, map, replicate, slice_index_or, slice_set}
use Rattle.t1_printers.specs.Groups.{GroupValue, added, empty_group, group_value}
use Rattle.t1_printers.specs.Held.{HeldLine}
use Rattle.t1_printers.specs.declared.groups.Groups.{Groups}
use Rattle.t1_rules.specs.Book.{last_number, number_of}
use Rattle.t1_rules.specs.declared.rule.Rule.{Rule}

abbrev pub group_values : Groups → List GroupValue
group_values groups = map group_value groups.groups.items

abbrev pub no_groups : ℕ → List GroupValue
no_groups room = replicate last_number (empty_group room)

-- Groups that are made with the first line.
abbrev pub values_of : ℕ → Option Groups → List GroupValue
values_of room None = no_groups room
values_of room (Some groups) = group_values groups

abbrev pub group_of : List GroupValue → Rule → GroupValue
group_of groups rule = slice_index_or groups (number_of rule - 1) (empty_group 0)

-- A line more, in the group of its rule.
abbrev pub with_line : List GroupValue → HeldLine → List GroupValue
with_line groups l = slice_set groups (number_of l.rule - 1) (added (group_of groups l.rule) l.unit.number l.unit.name l.reason)
