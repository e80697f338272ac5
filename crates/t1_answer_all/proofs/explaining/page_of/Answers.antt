use Rattle.std.proofs.Common.{Bor, rules, tests}
use Rattle.std.proofs.lemmas.Iterator.{YieldsList-from_slice}
use Rattle.std.proofs.lemmas.Iterator.Search.{find_from_yields_List}
use Rattle.t1_forms.specs.declared.page.Page.{Page}
use Rattle.t1_answer_all.specs.Explaining.{is_code_of}
use Rattle.t1_forms.specs.PageValues.{page_value}
use Rattle.t1_answer_all.proofs.PagesFound.{found_by}
use Rattle.t1_answer_all.proofs.explaining.page_of.Goals as goal

pub returns : goal.returns
returns c =
    let pages = c.args.pages.now in
    found_by (λ (page : Bor Page). page.now) page_value (is_code_of c.args.word.now) pages c.find.result
    (find_from_yields_List (λ (page : Page). is_code_of c.args.word.now (page_value page)) _ _ _ c.find.ensures.ran (YieldsList-from_slice pages cc)
    (λ x b q k. search (rules, tests)))
