-- The words that name fonts and folders, as the program keeps them.
use Rattle.std.specs.Prelude.{◌≡◌, ◌+◌, ◌-◌, ◌^◌, ◌++◌, ℕ, List, Err, map, min, string_bytes}
use Rattle.t1_options.specs.Settings.Finding.{System}
use Rattle.t1_answer_all.specs.Usage.{unreadable_text}
use Rattle.t1_answer_all.specs.Words.{AreRead, undecoded_of, words_of}
use Rattle.t1_names.specs.declared.lists.Words.{Words}
use Rattle.t1_names.specs.Lists.{unreadable_in, words_in}
use Rattle.t1_names.specs.declared.causes.Cause.{Cause}

-- Lists were read, and these are their words after those of the command line.
pub record AreWordsOf (system : System) (paths lists : List (List ℕ)) (words : Words) : Type 0 where
  pub texts : List (List ℕ)
  pub read : AreRead system.asks.ReadsList system.old system.new lists texts
  pub words_are : map string_bytes words.words.items ≡ words_of paths texts
  pub undecoded_is : words.undecoded ≡ undecoded_of paths texts

-- A list can't be read, and this is printed.
abbrev pub IsNoText : System → List ℕ → List ℕ → Type 0
IsNoText system list told =
    (cause : Cause) × system.asks.ReadsList system.old system.new list (Err cause) × (told ≡ unreadable_text list cause)

-- The words of one list more.
pub record AddsList (text : List ℕ) (old new : Words) : Type 0 where
  pub words_are : map string_bytes new.words.items ≡ map string_bytes old.words.items ++ words_in text
  pub undecoded_is : new.undecoded ≡ min (old.undecoded + unreadable_in text) (2 ^ 64 - 1)
