use Rattle.std.proofs.Common.{Bor, Global, String, is_some, map, not, rules, string_bytes, tests}
use Rattle.std.proofs.lemmas.Iterator.{YieldsList-from_slice}
use Rattle.std.proofs.lemmas.Iterator.Search.{find_from_yields_List}
use Rattle.t1_answer_all.specs.Explaining.{page_of}
use Rattle.t1_forms.specs.PageValues.{page_value}
use Rattle.t1_answer_all.proofs.PagesFound.{found_by, some_mapped}
use Rattle.t1_answer_all.proofs.explaining.unknown_among.Goals as goal

pub returns : goal.returns
returns c =
    let pages = map page_value c.args.pages.now in
    let words = c.args.words.now in
    found_by (λ (word : Bor (String Global)). word.now) string_bytes (λ word. not (is_some (page_of pages word))) words c.find.result
    (find_from_yields_List (λ (word : String Global). not (is_some (page_of pages (string_bytes word)))) _ _ _ c.find.ensures.ran
    (YieldsList-from_slice words cc) (λ x b q k. search (rules, tests, some_mapped)))
