-- When a fuse blows, and how much it lets through.
use Rattle.std.specs.Prelude.{◌≡◌, ◌⊎◌, ℕ, ◌-◌, ◌==◌, nat_lt, min, Bool, true, false, Result, Ok, Err, IsErr, OnErr}
use Rattle.t1_samples.specs.declared.limit.Limit.{Limit}
use Rattle.t1_samples.specs.declared.limit.Limit.TheVariants.{Bytes, Calls, BytesPerCall}

-- whether every further call fails
abbrev pub has_blown : Limit → Bool
has_blown (Bytes k) = k == 0
has_blown (Calls k) = k == 0
has_blown (BytesPerCall k) = false

-- how many of n bytes are passed on to the device
abbrev pub let_through : Limit → ℕ → ℕ
let_through (Bytes k) n = min k n
let_through (Calls k) n = n
let_through (BytesPerCall k) n = min k n

-- what is left of a fuse after a call that moved n bytes
abbrev pub burnt : Limit → ℕ → Limit
burnt (Bytes k) n = Bytes (k - n)
burnt (Calls k) n = Calls (k - 1)
burnt (BytesPerCall k) n = BytesPerCall k

-- a fuse that has not blown lets a byte through
abbrev pub lets_some_through : Limit → Bool
lets_some_through (Bytes k) = true
lets_some_through (Calls k) = true
lets_some_through (BytesPerCall k) = nat_lt 0 k

-- how many bytes a call moved: none where it failed
abbrev pub count_of : {E : Type 0} → Result ℕ E → ℕ
count_of (Ok n) = n
count_of (Err e) = 0

-- What a fuse holds: its limit, its device, and whether the device has failed.
pub record Held (D : Type 0) : Type 0 where
  pub limit : Limit
  pub device : D
  pub failed : Bool

abbrev pub held : {D : Type 0} → Limit → D → Bool → Held D
held limit device failed = record { limit = limit; device = device; failed = failed }

-- What a call of a fuse that moves so many bytes does to what it holds. A blown fuse fails the call and leaves the
-- device alone. A call fails only where the fuse has blown or the device has failed, and wherever the device fails for
-- the first time. The fuse burns by what was moved.
pub record Burns {D A E : Type 0} (old new : Held D) (count : ℕ) (result : Result A E) : Type 0 where
  pub blown : has_blown old.limit ≡ true → IsErr result
  pub still : has_blown old.limit ≡ true → new.device ≡ old.device
  pub fails : OnErr result ((has_blown old.limit ≡ true) ⊎ (new.failed ≡ true))
  pub passed_on : old.failed ≡ false → new.failed ≡ true → IsErr result
  pub burnt : new.limit ≡ burnt old.limit count
