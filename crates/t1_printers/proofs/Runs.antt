-- Runs of lines at one unit.
use Rattle.std.proofs.Common.{◌≡◌, List, [], ◌∷◌, ◌++◌, Option, Some, append-nil, append_assoc, cond, refl, sym}
use Rattle.t1_printers.specs.Units.{NamedUnit, begins_run, names_after}
use Rattle.t1_printers.specs.declared.unit.UnitNumber.{UnitNumber}

-- The last unit.
abbrev pub last_after : Option UnitNumber → List NamedUnit → Option UnitNumber
last_after last [] = last
last_after last (u ∷ units) = last_after (Some u.number) units

pub last_push : (last : Option UnitNumber) (units : List NamedUnit) (u : NamedUnit) → last_after last (units ++ u ∷ []) ≡ Some u.number
last_push last [] u = refl
last_push last (v ∷ units) u = last_push (Some v.number) units u

pub names_after_push : (last : Option UnitNumber) (units : List NamedUnit) (u : NamedUnit)
    → names_after last (units ++ u ∷ []) ≡ names_after last units ++ cond (begins_run (last_after last units) u.number) (u.name ∷ []) []
names_after_push last [] u = append-nil (cond (begins_run last u.number) (u.name ∷ []) [])
names_after_push last (v ∷ units) u =
    let first = cond (begins_run last v.number) (v.name ∷ []) [] in
    let more = cond (begins_run (last_after (Some v.number) units) u.number) (u.name ∷ []) [] in
    rw (names_after_push (Some v.number) units u) (sym (append_assoc first (names_after (Some v.number) units) more))
