-- What the Subrs say (Type 1 Font Format, chapters 6 and 8).
use Rattle.std.specs.Prelude.{ℕ, ◌&&◌, ◌||◌, Bool, false, not, nat_eq, nat_lt, is_some, List, Option, None, Some}
use Rattle.std.specs.List.{list_any}
use Rattle.std.specs.Map.{lookup}
use Rattle.std.specs.Option.{unwrap_or}
use Rattle.t1_char.specs.Charstrings.{tokens_in}
use Rattle.t1_char.specs.Steps.{is_return}
use Rattle.t1_font.specs.Fonts.{FontValue, is_subr_twice}
use Rattle.t1_rules.specs.Keys.{index_count}

-- A Subr that is there is given twice, or its number isn't below the size of the array. Indexes are below
-- 65,536.
abbrev pub is_wrong_subr : FontValue → ℕ → Bool
is_wrong_subr font n =
    nat_lt n index_count && is_some (lookup (nat_eq n) font.subrs)
    && (is_subr_twice font n || not (nat_lt n (unwrap_or font.size 0)))

-- A Subr that is there, and none of its tokens is the command return.
abbrev pub has_no_return : FontValue → Option (List ℕ) → Bool
has_no_return font None = false
has_no_return font (Some code) = not (list_any is_return (tokens_in font code))

abbrev pub lacks_return : FontValue → ℕ → Bool
lacks_return font n = nat_lt n index_count && has_no_return font (lookup (nat_eq n) font.subrs)
