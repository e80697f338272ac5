use Rattle.std.proofs.Common.{◌≡◌, ◌++◌, ◌∷◌, map, string_bytes, take}
use Rattle.std.specs.List.{flat_map}
use Rattle.t1_answer_all.specs.Explaining.{page_text}
use Rattle.t1_forms.specs.PageValues.{page_value}
use Rattle.t1_answer_all.proofs.explaining.pages_text.Given as goal

abbrev pub invariant-loop-page : goal.invariant-loop-page
invariant-loop-page l =
    string_bytes l.text
    ≡ page_text (page_value l.first) ++ flat_map (λ page. 10 ∷ page_text page) (map (λ page. page_value page.now) (take l.page-index l.others))
