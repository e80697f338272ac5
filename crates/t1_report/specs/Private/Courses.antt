-- What a walk has in hand.
use Rattle.std.specs.Prelude.{◌≡◌, ℕ, ◌+◌, ◌<◌, ◌≤◌, ◌⊎◌, true}
use Rattle.t1_rules.specs.Book.{number_of, last_number}
use Rattle.t1_rules.specs.Mask.{has}
use Rattle.t1_report.specs.declared.marks.Mark.{Mark}
use Rattle.t1_report.specs.declared.walk.course.Course.{Course}
use Rattle.t1_report.specs.declared.walk.found.Found.{Found}
use Rattle.t1_report.specs.declared.walk.search.Search.{Search}
use Rattle.t1_report.specs.Reports.{Comes, Place, path_in, IsTold, is_told, spot}
use Rattle.t1_report.specs.Private.Searches.{IsFrom, IsSearch, checked_in, step_of_part, turns_in}
use Rattle.t1_report.specs.Walks.{IsLater}

-- The place and its rule are in hand.
abbrev pub IsInHand : Found → Place → Type 0
IsInHand found p = (p.unit ≡ found.unit) × (p.step ≡ found.step) × (has found.rules (number_of p.rule) ≡ true)

-- The floor of a place: of the rules that are broken there those of a greater number come after the mark, and no
-- others. (It is the mark's rule at the mark's own place, 0 after it, and past all rules before it.)
pub record IsFloor (mark : Mark) (unit step floor : ℕ) : Type 0 where
  pub above : (r : ℕ) → floor < r → r ≤ last_number → Comes (spot mark.unit mark.step mark.rule) (spot unit step r)
  pub below : (r : ℕ) → 0 < r → Comes (spot mark.unit mark.step mark.rule) (spot unit step r) → floor < r

-- The rules in hand are broken at the place before the next one that is searched; every violation after the
-- mark is in hand or still to be found.
pub record HasInHand (search : Search) (found : Found) (mark : Mark) : Type 0 where
  pub broken : (n : ℕ) → has found.rules n ≡ true → is_told (checked_in search) search.waivers.now found.unit found.step n ≡ true
  pub path : (n : ℕ) → has found.rules n ≡ true → found.path.items ≡ path_in search.font.now found.unit found.step
  pub ahead : (n : ℕ) → has found.rules n ≡ true → (search.unit ≡ found.unit) × (step_of_part search.part ≡ found.step + 1)
  pub complete : (p : Place) → IsTold (checked_in search) search.waivers.now p → IsLater mark p →
      IsInHand found p ⊎ IsFrom search.unit (step_of_part search.part) p.unit p.step

-- Nothing in hand comes after the mark: every violation after it is still to be found.
abbrev pub AreToBeFound : Search → Mark → Type 0
AreToBeFound search mark =
    (p : Place) → IsTold (checked_in search) search.waivers.now p → IsLater mark p →
    IsFrom search.unit (step_of_part search.part) p.unit p.step

pub record IsCourse (c : Course) : Type 0 where
  pub searches : IsSearch c.search
  pub hand : HasInHand c.search c.found c.mark

-- A course that began with the unit that it searches, at its first step.
pub record IsUnitCourse (c : Course) : Type 0 where
  pub course : IsCourse c
  pub begins : c.search.from ≡ c.search.unit
  pub first : c.search.first ≡ 0

abbrev pub turns_so_far : Search → ℕ
turns_so_far search = search.passed + turns_in search.part + search.checked
