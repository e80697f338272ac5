-- The line of a byte.
use Rattle.std.proofs.Common.{◌≡◌, ℕ, zero, suc, ◌+◌, ◌==◌, ◌&&◌, ◌||◌, not, Bool, true, false, if◌then◌else◌, None, Some, List, [], ◌∷◌, slice_get, take, ap, ◌∙◌, arith}
use Rattle.t1_reasons.specs.TextReasons.{bytes_from, line_after}
use Rattle.t1_reasons.specs.declared.reason.Reason.TheVariants.{HighByte}
use Rattle.t1_reasons.specs.NamedWords.{LinesAreCounted, ends_in}

after : (b : Bool) (line n : ℕ) → (if b then line + 1 else line) + n ≡ line + ((if b then 1 else 0) + n)
after true line n = omega arith
after false line n = omega arith

counted : (line : ℕ) (is_behind : Bool) (text : List ℕ) (place byte : ℕ) → slice_get text place ≡ Some byte
    → slice_get (bytes_from line is_behind text) place ≡ Some (HighByte (line + ends_in is_behind (take place text)) byte)
counted line is_behind [] place byte there = let no : None ≡ Some byte = there in cc
counted line is_behind (b ∷ bs) zero byte there =
    let same : b ≡ byte = cc in
    let none : line ≡ line + 0 = omega arith in
    ap (λ n. Some (HighByte n b)) none ∙ ap (λ x. Some (HighByte (line + 0) x)) same
counted line is_behind (b ∷ bs) (suc place) byte there =
    counted (line_after line is_behind b) (b == 13) bs place byte there
    ∙ ap (λ n. Some (HighByte n byte)) (after (b == 13 || (b == 10 && not is_behind)) line (ends_in (b == 13) (take place bs)))

pub lines_are_counted : LinesAreCounted
lines_are_counted text place byte there = counted 1 false text place byte there
