-- Kinds in the program's map: what a look-up and an insertion are to the counts that it has.
use Rattle.std.proofs.Common.{◌≡◌, ℕ, ◌&&◌, nat_eq, Bool, true, false, cond, Some, List, [], ◌∷◌, refl, sym, ap, ◌∙◌}
use Rattle.std.specs.Map.{count_at, lookup}
use Rattle.indexmap.specs.IndexMap.{insert_entry}
use Rattle.t1_many.specs.Counts.{count_in, kind_counts}
use Rattle.t1_many.specs.Kinds.{KindValue, kind_value, same_kind, same_unit, unit_value}
use Rattle.t1_many.specs.contracts.kinds.KindPartialEq.TheImpl as of_kinds
use Rattle.t1_many.specs.contracts.kinds.KindUnitPartialEq.TheImpl as of_units
use Rattle.t1_many.specs.declared.kinds.Kind.{Kind}
use Rattle.t1_many.specs.declared.kinds.KindUnit.{KindUnit}
use Rattle.t1_many.specs.declared.kinds.KindUnit.TheVariants.{Glyph, Key, Waiver}
use Rattle.t1_rules.specs.Book.{number_of}

-- the derived tests are those of the definition
units : (a b : KindUnit) → (of_units.ghosts).eq a b ≡ same_unit (unit_value a) (unit_value b)
units (Key a) (Key b) = refl
units (Key a) (Glyph b) = refl
units (Key a) (Waiver b q) = refl
units (Glyph a) (Key b) = refl
units (Glyph a) (Glyph b) = refl
units (Glyph a) (Waiver b q) = refl
units (Waiver a p) (Key b) = refl
units (Waiver a p) (Glyph b) = refl
units (Waiver a p) (Waiver b q) = refl

abbrev eq : Kind → Kind → Bool
eq = (of_kinds.ghosts).eq

pub eq_is : (a b : Kind) → eq a b ≡ same_kind (kind_value a) (kind_value b)
eq_is a b = ap (λ (u : Bool). nat_eq (number_of a.rule) (number_of b.rule) && u) (units a.unit b.unit)

pub count_now : (entries : List (Kind × ℕ)) (kind : Kind)
    → count_at (λ (k : Kind). lookup (eq k) entries) kind ≡ count_in (kind_counts entries) (kind_value kind)
count_now [] kind = refl
count_now (e ∷ entries) kind = by (eq kind e.0) (eq_is kind e.0) (count_now entries kind)
  where
    by : (b : Bool) → b ≡ same_kind (kind_value kind) (kind_value e.0)
        → count_at (λ (k : Kind). lookup (eq k) entries) kind ≡ count_in (kind_counts entries) (kind_value kind)
        → count_at (λ (k : Kind). cond b (Some e.1) (lookup (eq k) entries)) kind ≡ count_in (kind_counts (e ∷ entries)) (kind_value kind)
    by true same rest = ap (λ t. cond t e.1 (count_in (kind_counts entries) (kind_value kind))) same
    by false other rest = rest ∙ ap (λ t. cond t e.1 (count_in (kind_counts entries) (kind_value kind))) other

pub insert_now : (entries : List (Kind × ℕ)) (kind : Kind) (n : ℕ)
    → kind_counts (insert_entry eq entries kind n) ≡ insert_entry same_kind (kind_counts entries) (kind_value kind) n
insert_now [] kind n = refl
insert_now (e ∷ entries) kind n = by (eq kind e.0) (eq_is kind e.0) (insert_now entries kind n)
  where
    by : (b : Bool) → b ≡ same_kind (kind_value kind) (kind_value e.0)
        → kind_counts (insert_entry eq entries kind n) ≡ insert_entry same_kind (kind_counts entries) (kind_value kind) n
        → kind_counts (cond b ((e.0, n) ∷ entries) (e ∷ insert_entry eq entries kind n))
        ≡ insert_entry same_kind (kind_counts (e ∷ entries)) (kind_value kind) n
    by true same rest = rw (sym same) refl
    by false other rest = rw (sym other) (ap (λ (cs : List (KindValue × ℕ)). (kind_value e.0, e.1) ∷ cs) rest)
