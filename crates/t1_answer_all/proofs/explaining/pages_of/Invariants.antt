use Rattle.std.proofs.Common.{◌≡◌, map, string_bytes, take}
use Rattle.t1_answer_all.specs.Explaining.{pages_of}
use Rattle.t1_forms.specs.PageValues.{page_value}
use Rattle.t1_answer_all.proofs.explaining.pages_of.Given as goal

abbrev pub invariant-loop-word : goal.invariant-loop-word
invariant-loop-word l =
    map (λ page. page_value page.now) l.named.items ≡ pages_of (map page_value l.pages) (map string_bytes (take l.word-index l.words))
