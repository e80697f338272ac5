-- A row is read word by word.
use Rattle.std.specs.Prelude.{ℕ, ◌-◌, ◌||◌, ◌==◌, not, List, codes, length, take, if◌then◌else◌, Option, Some, None, option_map}
use Rattle.std.specs.List.{list_all}
use Rattle.std.specs.Option.{option_and_then}
use Rattle.std.specs.Str.{bytes_eq}
use Rattle.t1_lines.specs.Cutting.{cut}
use Rattle.t1_many.specs.KnownFaults.{RowValue}
use Rattle.t1_scan.specs.Bytes.{is_decimal_digit}

-- What is before the blank before the end of a text.
abbrev pub front : List ℕ → List ℕ → List ℕ
front text end = take (length text - length end - 1) text

-- A kind and what follows it, by the word of its unit and what follows the next word.
unfoldable pub unit_cut : List ℕ → List ℕ → List ℕ → Option (List ℕ × List ℕ)
unit_cut text unit rest =
    if bytes_eq unit (codes "font") || bytes_eq unit (codes "glyph") then Some (front text rest, rest)
    else (if bytes_eq unit (codes "waiver") then option_map (λ p. (front text p.1, p.1)) (cut 32 rest) else None)

unfoldable pub kind_cut : List ℕ → Option (List ℕ × List ℕ)
kind_cut text =
    option_and_then (λ p. option_and_then (λ q. option_and_then (λ r. unit_cut text q.0 r.1) (cut 32 q.1)) (cut 32 p.1)) (cut 32 text)

-- A row of a count, a kind and a font's name, if these are.
abbrev pub row_if : List ℕ → List ℕ × List ℕ → Option RowValue
row_if count k =
    if (length count == 0 || length k.1 == 0) || not (list_all is_decimal_digit count) then None
    else Some (record { count = count; kind = k.0; font = k.1 })

unfoldable pub row_read : List ℕ → Option RowValue
row_read line = option_and_then (λ p. option_and_then (row_if p.0) (kind_cut p.1)) (cut 32 line)
