-- The words that name fonts and folders.
use Rattle.std.specs.Prelude.{◌≡◌, ◌+◌, ◌-◌, ◌^◌, ◌++◌, [], ◌∷◌, ℕ, not, List, Result, Ok, Err, count_by, filter, min}
use Rattle.std.specs.List.{flat_map, sum_by}
use Rattle.t1_names.specs.Lists.{unreadable_in, words_in}
use Rattle.t1_options.specs.Values.{is_marked}
use Rattle.t1_options.specs.Settings.Finding.{System}
use Rattle.t1_answer_all.specs.Usage.{unreadable_text}
use Rattle.t1_names.specs.declared.causes.Cause.{Cause}

-- The words of the command line that are UTF-8, and how many aren't.
abbrev pub given_words : List (List ℕ) → List (List ℕ)
given_words paths = filter (λ path. not (is_marked path)) paths

abbrev pub undecoded_in : List (List ℕ) → ℕ
undecoded_in paths = count_by is_marked paths

-- The words of the command line and of these texts, in this order.
abbrev pub words_of : List (List ℕ) → List (List ℕ) → List (List ℕ)
words_of paths texts = given_words paths ++ flat_map words_in texts

-- How many words and lines aren't UTF-8; a number of 64 bits says no more.
abbrev pub undecoded_of : List (List ℕ) → List (List ℕ) → ℕ
undecoded_of paths texts = min (undecoded_in paths + sum_by unreadable_in texts) (2 ^ 64 - 1)

-- Lists were read, each once and in this order, and have these texts.
pub data AreRead {F : Type 0} (Reads : F → F → List ℕ → Result (List ℕ) Cause → Type 0) : F → F → List (List ℕ) → List (List ℕ) → Type 0 where
  none : (files : F) → AreRead Reads files files [] []
  one_more :
      (old between new : F) → (lists texts : List (List ℕ)) → (list text : List ℕ) → AreRead Reads old between lists texts
      → Reads between new list (Ok text) → AreRead Reads old new (lists ++ list ∷ []) (texts ++ text ∷ [])

-- A list can't be read, where those before it can, and this is printed. Those after it aren't read.
pub record CannotReadOne (system : System) (lists : List (List ℕ)) (told : List ℕ) : Type 0 where
  pub before : List (List ℕ)
  pub list : List ℕ
  pub after : List (List ℕ)
  pub split : lists ≡ before ++ list ∷ after
  pub texts : List (List ℕ)
  pub between : system.State
  pub read : AreRead system.asks.ReadsList system.old between before texts
  pub cause : Cause
  pub unread : system.asks.ReadsList between system.new list (Err cause)
  pub told_is : told ≡ unreadable_text list cause
