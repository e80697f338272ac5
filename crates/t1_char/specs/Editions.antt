-- The editions of the rule book.
use Rattle.std.specs.Prelude.{ℕ, ◌==◌, if◌then◌else◌, Bool, true, false, Option, Some, None, List, codes}
use Rattle.t1_char.specs.declared.edition.Edition.{Edition}
use Rattle.t1_char.specs.declared.edition.Edition.TheVariants.{Four, One, Three, Two}

-- How many steps of a glyph are looked at.
abbrev pub limit_of : Edition → ℕ
limit_of One = 100000
limit_of Two = 1000000
limit_of Three = 1000000
limit_of Four = 1000000

-- Whether a stem of width -20 or -21 is the hint of one edge.
abbrev pub knows_one_edge : Edition → Bool
knows_one_edge One = false
knows_one_edge Two = true
knows_one_edge Three = true
knows_one_edge Four = true

-- Whether it has the rules after number 70.
abbrev pub has_later_rules : Edition → Bool
has_later_rules One = false
has_later_rules Two = false
has_later_rules Three = true
has_later_rules Four = true

-- Whether it has the rules after number 93.
abbrev pub has_latest_rules : Edition → Bool
has_latest_rules Four = true
has_latest_rules _ = false

-- The number of an edition, the same as it is written, and the edition of a number, if there is one.
abbrev pub number_of_edition : Edition → ℕ
number_of_edition One = 1
number_of_edition Two = 2
number_of_edition Three = 3
number_of_edition Four = 4

abbrev pub digit_of : Edition → List ℕ
digit_of One = codes "1"
digit_of Two = codes "2"
digit_of Three = codes "3"
digit_of Four = codes "4"

abbrev pub edition_numbered : ℕ → Option Edition
edition_numbered n = if n == 1 then Some One else (if n == 2 then Some Two else (if n == 3 then Some Three else (if n == 4 then Some Four else None)))
