-- What the value of one option means, if anything.
use Rattle.std.specs.Prelude.{◌&&◌, ◌||◌, ◌==◌, ℕ, Bool, false, not, nat_lt, if◌then◌else◌, [], ◌∷◌, length, Option, None, Some, codes, option_and_then}
use Rattle.std.specs.List.{after_first, before_first, list_all, list_any}
use Rattle.std.specs.Str.{bytes_eq}
use Rattle.std.specs.Str.Parse.{digits_value}
use Rattle.clap.specs.Walk.{is_empty}
use Rattle.clap.specs.Words.{Text}
use Rattle.t1_char.specs.declared.edition.Edition.{Edition}
use Rattle.t1_char.specs.Editions.{edition_numbered}
use Rattle.t1_scan.specs.Bytes.{is_decimal_digit}
use Rattle.t1_options.specs.declared.asked.Format.{Format}
use Rattle.t1_options.specs.declared.asked.Format.TheVariants.{GitHub, JUnit, JsonLines, Sarif}
use Rattle.t1_options.specs.declared.asked.Shard.{Shard}

-- The first byte is this one.
abbrev pub begins : ℕ → Text → Bool
begins byte [] = false
begins byte (first ∷ rest) = first == byte

-- A word that isn't UTF-8 is marked by a NUL before it, which no word has.
abbrev pub is_marked : Text → Bool
is_marked word = begins 0 word

-- One to five digits, of which the first is not 0.
abbrev pub is_number : Text → Bool
is_number text =
    not (is_empty text) && not (begins 48 text) && nat_lt (length text) 6 && list_all is_decimal_digit text

-- A number from 1 to 99,999.
abbrev pub number_in : Text → Option ℕ
number_in text = if is_number text then Some (digits_value 10 text) else None

abbrev pub edition_in : Text → Option Edition
edition_in text = option_and_then edition_numbered (number_in text)

-- The name of a file is not empty.
abbrev pub file_in : Text → Option Text
file_in text = if is_empty text then None else Some text

-- A URL is not empty and does not begin with a minus, as an option does.
abbrev pub url_in : Text → Option Text
url_in text = if is_empty text || begins 45 text then None else Some text

abbrev pub form_in : Text → Option Format
form_in text =
    if bytes_eq text (codes "jsonl") then Some JsonLines
    else (if bytes_eq text (codes "sarif") then Some Sarif
    else (if bytes_eq text (codes "github") then Some GitHub
    else (if bytes_eq text (codes "junit") then Some JUnit else None)))

abbrev pub is_slash : ℕ → Bool
is_slash byte = byte == 47

-- Part I of N, where I is one of them.
abbrev pub part_of : ℕ → ℕ → Option Shard
part_of part parts = if nat_lt parts part then None else Some (record { part = part; parts = parts })

-- I and N, each by its digits.
abbrev pub shard_of : Text → Text → Option Shard
shard_of part parts =
    option_and_then (λ part. option_and_then (λ parts. part_of part parts) (number_in parts)) (number_in part)

-- I/N, cut at the first slash.
abbrev pub shard_in : Text → Option Shard
shard_in text =
    if list_any is_slash text then shard_of (before_first is_slash text) (after_first is_slash text) else None
