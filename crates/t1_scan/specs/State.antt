-- The state of a scanner: its text, how far it has come, and whether it has failed.
use Rattle.std.specs.Prelude.{ℕ, Bool, List, drop}
use Rattle.t1_scan.specs.declared.scanner.Scanner.{Scanner}

-- the whole text
abbrev pub text_of : Scanner → List ℕ
text_of s = s.text.now

-- how many bytes of it have been read
abbrev pub place_of : Scanner → ℕ
place_of s = s.place

-- what is left of it
abbrev pub left_of : Scanner → List ℕ
left_of s = drop s.place s.text.now

-- whether it has refused a token that isn't closed
abbrev pub has_failed : Scanner → Bool
has_failed s = s.failed
