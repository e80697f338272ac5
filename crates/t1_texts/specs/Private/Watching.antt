-- What is kept of the tokens before.
use Rattle.std.specs.Prelude.{◌≡◌, ℕ, Bool, true, false, Option, Some, None, List, take}
use Rattle.std.specs.Borrow.{Bor}
use Rattle.std.specs.List.{list_all}
use Rattle.t1_font.specs.Rows.{RowToken, row_left}
use Rattle.t1_texts.specs.declared.earlier.Earlier.{Earlier}
use Rattle.t1_texts.specs.declared.faults.Watch.{Watch}
use Rattle.t1_texts.specs.Given.{is_given}
use Rattle.t1_texts.specs.RowFaults.{Placed, faults_in, faults_view}
use Rattle.t1_texts.specs.Readers.{is_reader}

-- The tokens before one.
abbrev pub tokens_before : Earlier → List RowToken
tokens_before earlier = take earlier.count (row_left earlier.row)

-- Words that are given.
abbrev pub AreGiven : List (Bor (List ℕ)) → List RowToken → Type 0
AreGiven words before = list_all (λ word. is_given word.now before) words ≡ true

-- A word that reads charstrings, if one is known.
abbrev pub Reads : Option (Bor (List ℕ)) → List RowToken → Type 0
Reads None before = Unit {0}
Reads (Some word) before = is_reader word.now before ≡ true

-- What was found, or what is found now.
abbrev pub or_here : Option Placed → Bool → Placed → Option Placed
or_here None true here = Some here
or_here None false here = None
or_here (Some found) test here = Some found

-- What is kept says of the tokens before what it should.
pub record IsWatchOf (watch : Watch) (before : List RowToken) : Type 0 where
  pub faults : faults_view watch.faults ≡ faults_in before
  pub given : AreGiven watch.given.words.items before
  pub reader : Reads watch.reader.word before
