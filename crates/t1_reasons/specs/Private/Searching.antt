-- What searches keep of the steps that they have seen.
use Rattle.std.specs.Prelude.{◌≡◌, ℕ, ℤ, ◌+◌, ◌≤◌, ◌==◌, if◌then◌else◌, Option, Some, None, List, length}
use Rattle.t1_char.specs.Steps.{StepView}
use Rattle.t1_drawing.specs.declared.touching.UntouchedStem.{UntouchedStem}
use Rattle.t1_drawing.specs.Areas.{drawn_area}
use Rattle.t1_drawing.specs.Strokes.{segments_of}
use Rattle.t1_drawing.specs.Touching.{sidebearing_point}
use Rattle.t1_reasons.specs.declared.reason.SubpathTurns.{SubpathTurns}
use Rattle.t1_reasons.specs.declared.stem_search.StemSearch.{StemSearch}
use Rattle.t1_reasons.specs.declared.subpath_turns.Beginning.{Beginning}
use Rattle.t1_reasons.specs.declared.subpath_turns.TurnSearch.{TurnSearch}
use Rattle.t1_reasons.specs.StemSearches.{nearest_end, set_first}
use Rattle.t1_reasons.specs.SubpathTurns.{lessens, subpaths_of, turns_among}

pub record StemSearched (stem : UntouchedStem) (search : StemSearch) (before : List StepView) : Type 0 where
  pub stem_is : search.stem ≡ stem
  pub sidebearing : search.sidebearing ≡ sidebearing_point before
  pub step : search.step ≡ set_first stem before
  pub nearest : search.nearest ≡ nearest_end stem before

-- One subpath more that runs clockwise.
abbrev pub with_one : SubpathTurns → ℕ → SubpathTurns
with_one turns step = record turns { clockwise = turns.clockwise + 1; first = if turns.clockwise == 0 then step else turns.first }

-- One subpath more.
abbrev pub with_subpath : SubpathTurns → SubpathTurns
with_subpath turns = record turns { subpaths = turns.subpaths + 1 }

-- The last subpath ends where the area is this.
abbrev pub with_last : SubpathTurns → Option Beginning → Option ℤ → SubpathTurns
with_last turns None area = turns
with_last turns (Some subpath) area = if lessens subpath.area area then with_one turns subpath.step else turns

abbrev pub begun : ℕ → Option ℤ → TurnSearch → TurnSearch
begun number area search = record {
  turns = with_subpath (with_last search.turns search.last search.area);
  last = Some (record { step = number; area = search.area });
  area = area;
}

-- The last subpath is among those that are counted, but not among the clockwise ones: where it ends is still unknown.
pub record TurnsSearched (search : TurnSearch) (before : List StepView) : Type 0 where
  pub area : search.area ≡ drawn_area (segments_of before)
  pub turns : (whole : Option ℤ) → with_last search.turns search.last whole ≡ turns_among whole (subpaths_of before)
  pub few : search.turns.subpaths ≤ length before
  pub fewer : search.turns.clockwise ≤ length before
