-- How often kinds were counted: each kind once, with a number.
use Rattle.std.specs.Prelude.{ℕ, ◌+◌, Bool, List, [], ◌∷◌, map, if◌then◌else◌}
use Rattle.std.specs.List.{list_any}
use Rattle.indexmap.specs.IndexMap.{insert_entry}
use Rattle.t1_many.specs.Kinds.{KindValue, kind_text, kind_value, same_kind}
use Rattle.t1_many.specs.declared.kinds.Kind.{Kind}

-- As the program keeps them.
abbrev pub kind_counts : List (Kind × ℕ) → List (KindValue × ℕ)
kind_counts entries = map (λ e. (kind_value e.0, e.1)) entries

-- How often a kind was counted, 0 where it wasn't.
abbrev pub count_in : List (KindValue × ℕ) → KindValue → ℕ
count_in [] kind = 0
count_in (c ∷ counts) kind = if same_kind kind c.0 then c.1 else count_in counts kind

-- It was counted.
abbrev pub has_kind : List (KindValue × ℕ) → KindValue → Bool
has_kind counts kind = list_any (λ c. same_kind kind c.0) counts

-- It is counted once more.
abbrev pub counted_more : List (KindValue × ℕ) → KindValue → List (KindValue × ℕ)
counted_more counts kind = insert_entry same_kind counts kind (count_in counts kind + 1)

-- The same by the texts of the kinds.
abbrev pub text_counts : List (KindValue × ℕ) → List (List ℕ × ℕ)
text_counts counts = map (λ c. (kind_text c.0, c.1)) counts
