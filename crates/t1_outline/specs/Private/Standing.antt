-- What a pen and its nib keep of the steps that it has seen.
use Rattle.std.specs.Prelude.{◌≡◌, List, take}
use Rattle.t1_char.specs.declared.edition.Edition.{Edition}
use Rattle.t1_char.specs.Steps.{StepView}
use Rattle.t1_outline.specs.declared.flex_run.FlexRun.{FlexRun}
use Rattle.t1_outline.specs.declared.nib.Nib.{Nib}
use Rattle.t1_outline.specs.declared.pen.Pen.{Pen}
use Rattle.t1_outline.specs.Outlines.{flex_places, has_subpath, is_spoiled}
use Rattle.t1_rules.specs.Private.Standing.{FlexStandsFor, PathsStandFor, StemsStandFor}

-- The places of the last flex, the first eight of them, and whether it is spoiled.
pub record FlexRunStandsFor (run : FlexRun) (before : List StepView) : Type 0 where
  pub places : run.places.items ≡ take 8 (flex_places before)
  pub spoiled : run.spoiled ≡ is_spoiled before

pub record NibStandsFor (nib : Nib) (before : List StepView) : Type 0 where
  pub run : FlexRunStandsFor nib.run before
  pub subpath : nib.has_subpath ≡ has_subpath before

-- The rules' own watchers, and the nib.
pub record PenStandsFor (edition : Edition) (pen : Pen) (before : List StepView) : Type 0 where
  pub paths : PathsStandFor pen.paths before
  pub stems : StemsStandFor edition pen.stems before
  pub flex : FlexStandsFor pen.flex before
  pub nib : NibStandsFor pen.nib before
