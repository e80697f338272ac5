use Rattle.std.proofs.Common.{◌≡◌, ◌+◌, drop, map}
use Rattle.t1_forms.specs.PageValues.{page_value, place_among}
use Rattle.t1_forms.proofs.sarif_objects.place_among.Given as goal

abbrev pub invariant-loop-page : goal.invariant-loop-page
invariant-loop-page l = record {
  at : l.place ≡ l.page-index;
  same : place_among (map page_value l.pages) l.code
      ≡ l.page-index + place_among (map page_value (drop l.page-index l.pages)) l.code;
}
