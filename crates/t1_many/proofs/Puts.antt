-- Texts that are put, part by part.
use Rattle.std.proofs.Common.{◌≡◌, List, ℕ, Some, Result, Ok, Err, subst, sym}
use Rattle.std.specs.Result.{IsErrAnd}
use Rattle.t1_io.specs.Devices.{CallFailed, PutFailed, SinkState}
use Rattle.t1_many.specs.Handing.{lost_of}
use Rattle.t1_many.specs.Plain.{IsFlushed, IsPut}
use Rattle.t1_many.specs.declared.policy.Lost.{Lost}
use Rattle.t1_many.specs.declared.policy.Lost.TheVariants.{Device}

-- the exit of a `?` at a put or a flush that failed
pub put_failed : {T : Type 0} (result : Result T Lost) (a b : SinkState) (text : List ℕ) → IsErrAnd result (λ lost. lost ≡ Device)
    → PutFailed a b text → IsPut a b text (lost_of result)
put_failed (Ok value) a b text is broke = absurd is
put_failed (Err lost) a b text is broke = subst (λ (l : Lost). IsPut a b text (Some l)) (sym is) broke

pub flush_failed : {T : Type 0} (result : Result T Lost) (a b : SinkState) → IsErrAnd result (λ lost. lost ≡ Device) → CallFailed a b
    → IsFlushed a b (lost_of result)
flush_failed (Ok value) a b is broke = absurd is
flush_failed (Err lost) a b is broke = subst (λ (l : Lost). IsFlushed a b (Some l)) (sym is) broke
