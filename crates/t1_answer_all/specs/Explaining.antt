-- The pages of rules and refusals, as they are printed for `--explain`.
use Rattle.std.specs.Prelude.{◌≡◌, ◌++◌, ℕ, Bool, not, List, [], ◌∷◌, codes, find, Option, None, Some, is_some, option_map}
use Rattle.std.specs.List.{filter_map, flat_map}
use Rattle.std.specs.Str.{str_eq_ignore_ascii_case}
use Rattle.t1_answer_all.specs.Runs.{program}
use Rattle.t1_answer_all.specs.Usage.{IsToldSo, no_page_text}
use Rattle.t1_forms.specs.PageValues.{PageValue}
use Rattle.t1_rules.specs.Book.{level_of, rule_coded}
use Rattle.t1_rules.specs.Levels.{level_text}
use Rattle.t1_rules.specs.declared.rule.Rule.{Rule}
use Rattle.t1_run.specs.Opening.{Sinks}
use Rattle.t1_run.specs.Telling.{Explains, Gives}
use Rattle.t1_run.specs.declared.status.Status.{Status}
use Rattle.t1_run.specs.declared.status.Status.TheVariants.{Clean}
use Rattle.t1_run.specs.declared.usage.UsageError.{UsageError}

-- ---- which pages

-- A word is the code of a page, in capitals or small letters.
abbrev pub is_code_of : List ℕ → PageValue → Bool
is_code_of word page = str_eq_ignore_ascii_case page.code word

-- The page whose code a word is.
abbrev pub page_of : List PageValue → List ℕ → Option PageValue
page_of pages word = find (is_code_of word) pages

-- The first word that is no code.
abbrev pub unknown_among : List PageValue → List (List ℕ) → Option (List ℕ)
unknown_among pages words = find (λ word. not (is_some (page_of pages word))) words

-- The pages whose codes words are.
abbrev pub pages_of : List PageValue → List (List ℕ) → List PageValue
pages_of pages words = filter_map (page_of pages) words

-- ---- what is printed

-- The heading of a page, an empty line, and what is below it.
abbrev pub page_text : PageValue → List ℕ
page_text page = page.code ++ (codes " " ++ (page.title ++ (codes "\n\n" ++ (page.text ++ codes "\n"))))

-- The end of the line of a page in the list: after a rule's title its level, which a refusal hasn't.
abbrev pub line_end : Option Rule → List ℕ
line_end None = codes "\n"
line_end (Some rule) = codes " (" ++ (level_text (level_of rule) ++ codes ")\n")

abbrev pub page_line : PageValue → List ℕ
page_line page = page.code ++ (codes " " ++ (page.title ++ line_end (rule_coded page.code)))

-- The pages of words, an empty line between two; where there is no word, a list of all.
abbrev pub explained_text : List PageValue → List PageValue → List ℕ
explained_text pages [] = flat_map page_line pages
explained_text pages (first ∷ others) = page_text first ++ flat_map (λ page. 10 ∷ page_text page) others

-- Each word is a code, and this is the text for them.
pub record IsExplained (pages : List PageValue) (words : List (List ℕ)) (text : List ℕ) : Type 0 where
  pub known : unknown_among pages words ≡ None
  pub text_is : text ≡ explained_text pages (pages_of pages words)

-- A word is no code, and this is printed of the first such.
abbrev pub IsUnknown : List PageValue → List (List ℕ) → List ℕ → Type 0
IsUnknown pages words told = option_map no_page_text (unknown_among pages words) ≡ Some told

-- The text for words is given; or a word is no code, or memory ran out, which is printed.
pub data ExplainsPages (pages : List PageValue) (words : List (List ℕ)) (old new : Sinks) (status : Status) : Type 0 where
  given : (text : List ℕ) → IsExplained pages words text → Gives program text Clean old new status → ExplainsPages pages words old new status
  not_given :
      (error : UsageError) → IsToldSo (IsUnknown pages words) error → Explains program error old new status
      → ExplainsPages pages words old new status
