use Rattle.std.proofs.Common.{◌≡◌, map, string_bytes, take}
use Rattle.std.specs.List.{flat_map}
use Rattle.t1_answer_all.specs.Explaining.{page_line}
use Rattle.t1_forms.specs.PageValues.{page_value}
use Rattle.t1_answer_all.proofs.explaining.list_text.Given as goal

abbrev pub invariant-loop-page : goal.invariant-loop-page
invariant-loop-page l = string_bytes l.text ≡ flat_map page_line (map page_value (take l.page-index l.pages))
