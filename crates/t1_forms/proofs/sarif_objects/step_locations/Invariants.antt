use Rattle.std.proofs.Common.{◌≡◌, ◌∷◌, codes, decimal, map, take}
use Rattle.serde_json.specs.View.{view}
use Rattle.t1_forms.specs.SarifObjects.{logical_location}
use Rattle.t1_forms.specs.Shown.{shown}
use Rattle.t1_forms.proofs.sarif_objects.step_locations.Given as goal

abbrev pub invariant-loop-number : goal.invariant-loop-number
invariant-loop-number l =
    map view l.places.items
    ≡ logical_location (codes "glyph") (shown l.name) ∷ map (λ subr. logical_location (codes "subr") (decimal subr)) (take l.number-index l.path)
