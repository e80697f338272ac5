-- How many bytes of a text belong together: blanks and comments, runs, strings, procedures, arrays, tokens. The
-- forms are PostScript's, as Type 1 Font Format uses it (chapters 2 and 10). The standard is silent on what is one
-- token: that a procedure or an array is, and how deep they nest, is our choice.
use Rattle.std.specs.Prelude.{ℕ, zero, suc, Bool, true, false, Option, Some, None, List, [], ◌∷◌, ◌+◌, ◌-◌, ◌==◌, ◌||◌, ◌&&◌, not, if◌then◌else◌, nat_lt, option_and_then}
use Rattle.std.specs.List.{prefix_len}
use Rattle.t1_scan.specs.Bytes.{is_line_end, is_blank, is_regular}

-- n bytes more
abbrev pub further : ℕ → Option ℕ → Option ℕ
further n None = None
further n (Some k) = Some (n + k)

-- whether a comment goes on after a byte: it runs from `%` to before the end of the line
abbrev pub is_comment_after : Bool → ℕ → Bool
is_comment_after in_comment b = if in_comment then not (is_line_end b) else b == 37

-- the leading blanks and comments
unfoldable pub blank_len : Bool → List ℕ → ℕ
blank_len in_comment [] = 0
blank_len in_comment (b ∷ s) =
    if in_comment || (is_blank b || b == 37)
    then 1 + blank_len (is_comment_after in_comment b) s
    else 0

-- the longest run of regular bytes
abbrev pub run_len : List ℕ → ℕ
run_len s = prefix_len is_regular s

-- a comment, after its `%`, to before the end of the line
abbrev pub comment_len : List ℕ → ℕ
comment_len s = prefix_len (λ c. not (is_line_end c)) s

-- how many parentheses are open after a byte; one that a backslash took with it counts for nothing
abbrev pub depth_after : Bool → ℕ → ℕ → ℕ
depth_after true b depth = depth
depth_after false b depth = if b == 40 then depth + 1 else (if b == 41 then depth - 1 else depth)

-- a string to its last parenthesis, while so many are open; a backslash takes the next byte with it
unfoldable pub string_len : Bool → ℕ → List ℕ → Option ℕ
string_len escaped depth [] = None
string_len escaped depth (b ∷ s) =
    let left = depth_after escaped b depth in
    if left == 0 then Some 1 else further 1 (string_len (not escaped && b == 92) left s)

-- to the first `>`, with it
unfoldable pub close_len : List ℕ → Option ℕ
close_len [] = None
close_len (b ∷ s) = if b == 62 then Some 1 else further 1 (close_len s)

-- what follows a `<`: the second byte of `<<`, or a hexadecimal string to its end
unfoldable pub angle_len : List ℕ → Option ℕ
angle_len [] = None
angle_len (b ∷ s) = if b == 60 then Some 1 else close_len (b ∷ s)

-- what is skipped whole: a comment, a string, `<<`, or else one byte
unfoldable pub part_len : ℕ → List ℕ → Option ℕ
part_len b s =
    if b == 37 then Some (1 + comment_len s)
    else (if b == 40 then further 1 (string_len false 1 s)
    else (if b == 60 then further 1 (angle_len s)
    else Some 1))

-- brackets count where no brace is open
abbrev pub arrays_after : ℕ → ℕ → ℕ → ℕ
arrays_after b arrays braces =
    if braces == 0 && b == 91 then arrays + 1
    else (if braces == 0 && b == 93 then arrays - 1 else arrays)

-- a brace that closes nothing is ignored
abbrev pub braces_after : ℕ → ℕ → ℕ
braces_after b braces = if b == 123 then braces + 1 else (if b == 125 then braces - 1 else braces)

-- how deep arrays and procedures nest at most; the limit is this project's own
abbrev pub most_nested : ℕ
most_nested = 32

-- an array or a procedure, after its first bracket, to its last, while so many arrays, and in them procedures, are
-- open: at most 32 together. So many bytes as are still to `skip`, of a string or a comment, open and close nothing
unfoldable pub inside_len : ℕ → ℕ → ℕ → List ℕ → Option ℕ
inside_len skip arrays braces [] = None
inside_len (suc n) arrays braces (b ∷ s) = further 1 (inside_len n arrays braces s)
inside_len zero arrays braces (b ∷ s) =
    let a = arrays_after b arrays braces in
    let p = braces_after b braces in
    if a + p == 0 then Some 1
    else (if nat_lt most_nested (a + p) then None
    else option_and_then (λ n. further 1 (inside_len (n - 1) a p s)) (part_len b s))

abbrev pub begins_with_close : List ℕ → Bool
begins_with_close [] = false
begins_with_close (c ∷ s) = c == 62

-- a token, by its first byte and what follows it: a name, an array, a procedure, `>>` or `>`, a run
-- of regular bytes, a string, `<<`, or one byte that closes nothing
unfoldable pub token_len : ℕ → List ℕ → Option ℕ
token_len b s =
    if b == 47 then Some (1 + run_len s)
    else (if b == 91 then further 1 (inside_len 0 1 0 s)
    else (if b == 123 then further 1 (inside_len 0 0 1 s)
    else (if b == 62 then Some (1 + (if begins_with_close s then 1 else 0))
    else (if is_regular b then Some (1 + run_len s)
    else part_len b s))))
