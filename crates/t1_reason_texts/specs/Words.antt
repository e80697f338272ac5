-- Words that texts share.
use Rattle.std.specs.Prelude.{ℕ, ℤ, pos, ◌==◌, List, ◌++◌, codes, if◌then◌else◌}
use Rattle.std.specs.Ordering.{int_eq}
use Rattle.std.specs.Fmt.{decimal}
use Rattle.t1_char.specs.Numbers.{unit}
use Rattle.t1_reason_texts.specs.Decimals.{coordinate_text}

-- `no numbers`, `1 number`, `3 numbers`: a count, and the word for one.
abbrev pub counted_text : ℕ → List ℕ → List ℕ
counted_text count one =
    if count == 0 then codes "no " ++ (one ++ codes "s")
    else (if count == 1 then codes "1 " ++ one else decimal count ++ (codes " " ++ (one ++ codes "s")))

abbrev pub numbers_text : ℕ → List ℕ
numbers_text count = counted_text count (codes "number")

-- `none is`, `1 is`, `3 are`.
abbrev pub are_text : ℕ → List ℕ
are_text count =
    if count == 0 then codes "none is"
    else (if count == 1 then codes "1 is" else decimal count ++ codes " are")

-- `no arguments`, `1 argument`, `3 arguments`, of a count in units of 1/65536.
abbrev pub arguments_text : ℤ → List ℕ
arguments_text count =
    if int_eq count (pos 0) then codes "no arguments"
    else (if int_eq count (pos unit) then codes "1 argument" else coordinate_text count ++ codes " arguments")
