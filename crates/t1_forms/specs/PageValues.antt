-- The pages of rules and refusals, and the place of one among them.
use Rattle.std.specs.Prelude.{ℕ, suc, List, [], ◌∷◌, Option, bytes_eq, if◌then◌else◌, map, option_map}
use Rattle.t1_forms.specs.declared.page.Page.{Page}
use Rattle.t1_forms.specs.declared.page.Pages.{Pages}

-- A code, where its heading is, the heading after the code, and what is below it.
pub record PageValue : Type 0 where
  pub code : List ℕ
  pub anchor : List ℕ
  pub title : List ℕ
  pub text : List ℕ

abbrev pub page_value : Page → PageValue
page_value page = record { code = page.code.now; anchor = page.anchor.now; title = page.title.now; text = page.text.now }

-- Pages, and the address of the page that has them all.
pub record PagesValue : Type 0 where
  pub list : List PageValue
  pub docs : Option (List ℕ)

abbrev pub pages_value : Pages → PagesValue
pages_value pages = record { list = map page_value pages.list.now; docs = option_map (λ docs. docs.now) pages.docs }

-- The place of the first page with a code; after them all where there is none.
abbrev pub place_among : List PageValue → List ℕ → ℕ
place_among [] code = 0
place_among (page ∷ pages) code = if bytes_eq page.code code then 0 else suc (place_among pages code)
