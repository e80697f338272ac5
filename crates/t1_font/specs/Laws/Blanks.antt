-- The blanks of an encrypted section and those between tokens. Type 1 Font Format 1.1, chapters 2 and 7.
use Rattle.std.specs.Prelude.{◌≡◌, ℕ}
use Rattle.t1_scan.specs.Bytes.{is_blank}
use Rattle.t1_seal.specs.Eexec.{is_blank as is_blank_in_section}

-- They are the same bytes, though neither crate that says which uses the other.
abbrev pub BlanksAgree : Type 0
BlanksAgree = (b : ℕ) → is_blank_in_section b ≡ is_blank b
