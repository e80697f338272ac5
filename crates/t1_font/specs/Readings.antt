-- How a result agrees with what a definition reads: the same value, or the same refusal.
use Rattle.std.specs.Prelude.{Bool, true, false, Result, Ok, Err}
use Rattle.t1_font.specs.declared.unread.Unread.{Unread}
use Rattle.t1_font.specs.declared.unread.Unread.TheVariants.{Memory}
use Rattle.t1_seal.specs.Readings.{ReadsBy}

-- What is read next from what was read first; the first refusal stays.
infixl 10 ◌>>=◌
abbrev pub ◌>>=◌ : {X Y : Type 0} → Result X Unread → (X → Result Y Unread) → Result Y Unread
(Ok x) >>= f = f x
(Err e) >>= f = Err e

-- Memory ran out, which says nothing of the bytes.
abbrev pub is_memory : Unread → Bool
is_memory Memory = true
is_memory _ = false

-- What a call returned, seen by view, is what was read, unless memory ran out.
abbrev pub Reads : {X Y : Type 0} → (X → Y) → Result X Unread → Result Y Unread → Type 0
Reads view result read = ReadsBy is_memory view result read
