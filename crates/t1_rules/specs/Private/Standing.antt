-- What watchers keep of the steps that they have seen: the relations by which the law of `Watch` is said.
use Rattle.std.specs.Prelude.{◌≡◌, ⊤, true, ◌&&◌, ◌≤◌, List, length}
use Rattle.t1_char.specs.declared.edition.Edition.{Edition}
use Rattle.t1_char.specs.Arguments.{is_flex_end}
use Rattle.t1_char.specs.Editions.{has_later_rules}
use Rattle.t1_char.specs.Since.{any_so_far, was}
use Rattle.t1_char.specs.Steps.{StepView}
use Rattle.t1_rules.specs.declared.step_rules.counters.CounterWatcher.{CounterWatcher}
use Rattle.t1_rules.specs.declared.step_rules.flex.FlexWatcher.{FlexWatcher}
use Rattle.t1_rules.specs.declared.step_rules.paths.PathWatcher.{PathWatcher}
use Rattle.t1_rules.specs.declared.step_rules.seac.SeacWatcher.{SeacWatcher}
use Rattle.t1_rules.specs.declared.step_rules.stems.StemWatcher.{StemWatcher}
use Rattle.t1_rules.specs.declared.step_rules.triples.TripleWatcher.{TripleWatcher}
use Rattle.t1_rules.specs.declared.watches.Watches.{Watches}
use Rattle.t1_rules.specs.StepRules.Counters.{goes_on_counting, is_counted, last_told_is, opens_counting}
use Rattle.t1_rules.specs.StepRules.Flex.{current_point, flex_moves, flex_points, is_ended_and_popped}
use Rattle.t1_rules.specs.StepRules.Paths.{clearing_step, in_flex, is_moved, is_open}
use Rattle.t1_rules.specs.StepRules.Seac.{makes_outline}
use Rattle.t1_rules.specs.StepRules.Stems.{lies_across, stands_upright, hint_set, is_drawn, is_replaced, is_replaced_and_popped, popping}
use Rattle.t1_rules.specs.StepRules.Triples.{came, is_hstem, is_hstem3, is_vstem, is_vstem3, last_triple}
use Rattle.t1_rules.specs.Watches.{IsNear}

-- A watcher that keeps nothing matches any steps.
abbrev pub StandsForAny : {W : Type 0} → W → List StepView → Type 0
StandsForAny watcher before = ⊤

pub record PathsStandFor (watcher : PathWatcher) (before : List StepView) : Type 0 where
  pub begun : watcher.begun ≡ any_so_far clearing_step before
  pub in_flex : watcher.in_flex ≡ in_flex before
  pub moved : watcher.moved ≡ is_moved before
  pub drawn : watcher.drawn ≡ is_open before

pub record StemsStandFor (edition : Edition) (watcher : StemWatcher) (before : List StepView) : Type 0 where
  pub edition_is : watcher.edition ≡ edition
  pub across : watcher.across.items ≡ hint_set lies_across before
  pub upright : watcher.upright.items ≡ hint_set stands_upright before
  pub in_flex : watcher.in_flex ≡ in_flex before
  pub drawn : watcher.drawn ≡ is_drawn before
  pub replaced : watcher.replaced ≡ is_replaced before
  pub popped : watcher.popped ≡ is_replaced_and_popped before

pub record FlexStandsFor (watcher : FlexWatcher) (before : List StepView) : Type 0 where
  pub in_flex : watcher.in_flex ≡ in_flex before
  pub moves : watcher.moves ≡ flex_moves before
  pub points : watcher.points ≡ flex_points before
  pub point : watcher.point ≡ current_point before
  pub ended : watcher.ended ≡ was 0 is_flex_end before
  pub popped : watcher.popped ≡ (was 1 is_flex_end before && was 0 popping before)
  pub popped_twice : watcher.popped_twice ≡ is_ended_and_popped before
  pub few_moves : watcher.moves ≤ length before
  pub few_points : watcher.points ≤ length before
  pub near : IsNear (length before) watcher.point

pub record SeacStandsFor (watcher : SeacWatcher) (before : List StepView) : Type 0 where
  pub in_flex : watcher.in_flex ≡ in_flex before
  pub outlined : watcher.outlined ≡ any_so_far makes_outline before

-- What the watchers of rules after number 70 keep where the edition has these; else they keep nothing, and counter
-- control goes on nowhere.
pub record TriplesKeep (watcher : TripleWatcher) (before : List StepView) : Type 0 where
  pub hstem : watcher.hstem ≡ came is_hstem before
  pub hstem3 : watcher.hstem3 ≡ last_triple is_hstem3 before
  pub vstem : watcher.vstem ≡ came is_vstem before
  pub vstem3 : watcher.vstem3 ≡ last_triple is_vstem3 before

pub record TriplesStandFor (edition : Edition) (watcher : TripleWatcher) (before : List StepView) : Type 0 where
  pub is_on : watcher.is_on ≡ has_later_rules edition
  pub kept : has_later_rules edition ≡ true → TriplesKeep watcher before

pub record CountersKeep (watcher : CounterWatcher) (before : List StepView) : Type 0 where
  pub begun : watcher.begun ≡ any_so_far clearing_step before
  pub opened : watcher.opened ≡ last_told_is opens_counting before
  pub going_on : watcher.going_on ≡ last_told_is goes_on_counting before
  pub ended : watcher.ended ≡ is_counted before

pub record CountersStandFor (edition : Edition) (watcher : CounterWatcher) (before : List StepView) : Type 0 where
  pub is_on : watcher.is_on ≡ has_later_rules edition
  pub kept : has_later_rules edition ≡ true → CountersKeep watcher before
  pub going_on : watcher.going_on ≡ (has_later_rules edition && last_told_is goes_on_counting before)

-- All watchers match the same steps; those of arguments, calls and OtherSubrs keep nothing.
unfoldable pub WatchesStandFor : Edition → Watches → List StepView → Type 0
WatchesStandFor edition watches before =
    PathsStandFor watches.paths before × (StemsStandFor edition watches.stems before
    × (FlexStandsFor watches.flex before × (SeacStandsFor watches.seac before
    × (TriplesStandFor edition watches.triples before × CountersStandFor edition watches.counters before))))
