-- What a machine may pass, by its watchers.
use Rattle.std.specs.Prelude.{◌≡◌, ⊤, false}
use Rattle.t1_char.specs.declared.edition.Edition.{Edition}
use Rattle.t1_char.specs.declared.lines.Passing.{Passing}
use Rattle.t1_char.specs.declared.lines.Passing.TheVariants as passing
use Rattle.t1_char.specs.Editions.{has_latest_rules}
use Rattle.t1_rules.specs.declared.watches.Watches.{Watches}
use Rattle.t1_rules.specs.Steady.{IsSteady, IsUndrawn}
use Rattle.t1_rules.specs.Watches.{IsCalm}

-- They are steady, and the edition has no rules on the drawing.
abbrev pub IsSteadyIn : Edition → Watches → Type 0
IsSteadyIn edition watches = (has_latest_rules edition ≡ false) × IsSteady watches

-- Numbers where they are calm; in an edition without rules on the drawing also lines in the midst of a path, and moves where nothing is drawn
-- of it.
abbrev pub IsFit : Edition → Passing → Watches → Type 0
IsFit edition passing.Returned watches = ⊤
IsFit edition passing.Numbers watches = IsCalm watches
IsFit edition passing.Lines watches = IsCalm watches × IsSteadyIn edition watches
IsFit edition passing.Moves watches = IsCalm watches × (IsSteadyIn edition watches × IsUndrawn watches)
