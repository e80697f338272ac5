-- Faults that are numbered one after another, place by place; and the fault of a number.
use Rattle.std.proofs.Common.{◌≡◌, ℕ, zero, suc, ◌+◌, ◌<◌, List, [], ◌∷◌, None, drop, length, map, slice_get, slice_index_or, refl, ap, ◌∙◌, arith}
use Rattle.std.proofs.lemmas.Option.{slice_get_past}
use Rattle.std.specs.List.{range_with_len}
use Rattle.t1_report.specs.Faults.{FaultValue}
use Rattle.t1_report.specs.Numbered.{numbered}
use Rattle.t1_report.specs.Reports.{AreNumbered}
use native.Mathlib.Numerals.{unary_clauses}

abbrev numbers : List FaultValue → List ℕ
numbers faults = map (λ (fault : FaultValue). fault.number) faults

pub numbered_head : (n : ℕ) (fault : FaultValue) (faults : List FaultValue) → AreNumbered n (fault ∷ faults) → fault.number ≡ n
numbered_head n fault faults numbered = ap (λ (l : List ℕ). slice_index_or l 0 0) numbered

pub numbered_tail : (n : ℕ) (fault : FaultValue) (faults : List FaultValue) → AreNumbered n (fault ∷ faults) → AreNumbered (n + 1) faults
numbered_tail n fault faults numbered = ap (λ (l : List ℕ). drop 1 l) numbered

pub number_there : (n : ℕ) (faults : List FaultValue) → AreNumbered n faults → (i : ℕ) (d : FaultValue) → i < length faults
    → (slice_index_or faults i d).number ≡ i + n
number_there n [] numbered i d less = absurd (omega arith)
number_there n (fault ∷ faults) numbered zero d less = numbered_head n fault faults numbered ∙ omega arith
number_there n (fault ∷ faults) numbered (suc i) d less =
    number_there (n + 1) faults (numbered_tail n fault faults numbered) i d (omega (arith, less)) ∙ omega arith

pub numbered_by_places : (n : ℕ) (faults : List FaultValue) → ((i : ℕ) (d : FaultValue) → i < length faults → (slice_index_or faults i d).number ≡ i + n)
    → AreNumbered n faults
numbered_by_places n [] all = refl
numbered_by_places n (fault ∷ faults) all =
    let first : fault.number ≡ n = all 0 fault (omega arith) ∙ omega arith in
    let rest : numbers faults ≡ range_with_len (n + 1) (length faults) = numbered_by_places (n + 1) faults (λ i d less. all (suc i) d (omega (arith, less))
    ∙ omega arith) in
    ap (λ m. m ∷ numbers faults) first ∙ ap (λ l. n ∷ l) rest

-- ---- by a number

pub one_numbered : (faults : List FaultValue) (count : ℕ) → numbered faults (count + 1) ≡ slice_get faults count
one_numbered faults count = simp unary_clauses refl

pub none_numbered : (faults : List FaultValue) (count number : ℕ) → count ≡ length faults → count < number → numbered faults number ≡ None
none_numbered faults count zero all more = absurd (omega (arith, more))
none_numbered faults count (suc place) all more = slice_get_past faults place (omega (arith, all, more))
