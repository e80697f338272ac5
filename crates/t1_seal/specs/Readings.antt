-- How the result of a call agrees with what a definition reads: the same value, or the same refusal. Errors that say
-- nothing of the bytes are free, as running out of memory is; `free` says which.
use Rattle.std.specs.Prelude.{◌≡◌, Bool, true, false, Result, Ok, Err}

-- Where it isn't free.
abbrev pub Unless : Bool → Type 0 → Type 0
Unless true claim = Unit {0}
Unless false claim = claim

-- The error is the one that was read, or a free one.
abbrev pub RefusesBy : {Y E : Type 0} → (E → Bool) → E → Result Y E → Type 0
RefusesBy free e read = Unless (free e) (read ≡ Err e)

-- What a call returned, seen by view, is what was read, but for free errors.
abbrev pub ReadsBy : {X Y E : Type 0} → (E → Bool) → (X → Y) → Result X E → Result Y E → Type 0
ReadsBy free view (Ok x) read = read ≡ Ok (view x)
ReadsBy free view (Err e) read = RefusesBy free e read
