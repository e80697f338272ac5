use Rattle.std.proofs.Common.{◌≡◌, map, option_map, take}
use Rattle.serde_json.specs.View.{view}
use Rattle.t1_forms.specs.PageValues.{page_value}
use Rattle.t1_forms.specs.SarifObjects.{page_object}
use Rattle.t1_forms.proofs.sarif_objects.page_objects.Given as goal

abbrev pub invariant-loop-page : goal.invariant-loop-page
invariant-loop-page l =
    map view l.objects.items
    ≡ map (page_object (option_map (λ docs. docs.now) l.docs)) (map page_value (take l.page-index l.pages))
