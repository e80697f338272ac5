-- What is kept of the lines of a font that break one rule.
use Rattle.std.specs.Prelude.{ℕ, ◌+◌, ◌-◌, ◌==◌, nat_le, nat_lt, Bool, if◌then◌else◌, List, [], ◌∷◌, ◌++◌, length, map, take, Option, None, Some, option_map, string_bytes}
use Rattle.t1_printers.specs.Tails.{count_text, greatest, more_text, names_text}
use Rattle.t1_printers.specs.Units.{begins_run}
use Rattle.t1_printers.specs.Widths.{width_of}
use Rattle.t1_printers.specs.declared.group.Group.{Group}
use Rattle.t1_printers.specs.declared.unit.UnitNumber.{UnitNumber}

-- How many lines there are; how many runs of lines at one unit; the last unit; the names of the first units, as far as there was room for
-- them; the room that is left; and the text of the first line's reason, if it has one.
pub record GroupValue : Type 0 where
  pub count : ℕ
  pub runs : ℕ
  pub last : Option UnitNumber
  pub names : List (List ℕ)
  pub left : ℕ
  pub reason : Option (List ℕ)

abbrev pub group_value : Group → GroupValue
group_value g = record {
  count = g.count;
  runs = g.runs;
  last = g.last;
  names = map string_bytes g.names.items;
  left = g.left;
  reason = option_map (λ t. t.bytes) g.reason;
}

-- No line.
abbrev pub empty_group : ℕ → GroupValue
empty_group room = record { count = 0; runs = 0; last = None; names = []; left = room; reason = None }

-- A name more is kept, if it is in the room that is left with a separator of two characters.
abbrev pub with_kept : GroupValue → List ℕ → GroupValue
with_kept g name =
    if nat_lt (width_of name) (g.left - 1)
    then record {
      count = g.count;
      runs = g.runs;
      last = g.last;
      names = g.names ++ name ∷ [];
      left = g.left - (width_of name + 2);
      reason = g.reason;
    }
    else g

-- A run more. Its name is kept only if all names before are.
abbrev pub with_run : GroupValue → List ℕ → GroupValue
with_run g name =
    let kept = if length g.names == g.runs then with_kept g name else g in
    record { count = kept.count; runs = kept.runs + 1; last = kept.last; names = kept.names; left = kept.left; reason = kept.reason }

-- A line more, with the text of its reason. That of the first line is kept.
abbrev pub added : GroupValue → UnitNumber → List ℕ → Option (List ℕ) → GroupValue
added g number name reason =
    let kept = if begins_run g.last number then with_run g name else g in
    record {
      count = kept.count + 1;
      runs = kept.runs;
      last = Some number;
      names = kept.names;
      left = kept.left;
      reason = if kept.count == 0 then reason else kept.reason;
    }

-- The count, so many of the names that are kept, and how many more there are.
abbrev pub tail_at : GroupValue → ℕ → List ℕ
tail_at g shown = count_text g.count ++ (names_text (take shown g.names) ++ more_text (g.runs - shown))

abbrev pub tail_fits : ℕ → GroupValue → ℕ → Bool
tail_fits room g shown = nat_le (width_of (tail_at g shown)) room

-- As many of these names as fit.
abbrev pub tail_of : ℕ → GroupValue → List ℕ
tail_of room g = tail_at g (greatest (tail_fits room g) (length g.names))
