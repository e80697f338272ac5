-- What reading a source to its end returns, and where it stops.
use Rattle.std.specs.Prelude.{◌≡◌, true, ℕ, ◌<◌, ◌≤◌, ◌+◌, List, length, false}
use Rattle.std.specs.Io.KnownBytes.{Consumes, IsAtEnd}
use Rattle.t1_font.specs.declared.unread.RefusalCode.{RefusalCode}
use Rattle.t1_io.specs.Devices.{SourceState, is_over}
use Rattle.t1_run.specs.declared.failure.Failure.{Failure}
use Rattle.t1_run.specs.declared.failure.Failure.TheVariants.{Broken, Memory, Refused}

-- Known bytes lose at most so many at their beginning, by as many reads as these bytes are, or one more.
pub record TakesAtMost (most : ℕ) (old new : SourceState) : Type 0 where
  pub bytes : List ℕ
  pub consumed : Consumes old.left new.left bytes
  pub few : length bytes ≤ most
  pub needed : new.takes ≤ old.takes + (length bytes + 1)

-- At most so many reads were made and so many bytes taken. No read came after one that failed or found the end.
pub record ReadsAtMost (most : ℕ) (old new : SourceState) : Type 0 where
  pub reads : new.takes ≤ old.takes + most
  pub taken : TakesAtMost most old new
  pub stops : is_over old ≡ false → new.late_takes ≡ old.late_takes

-- Where reading a source stops: at its end, past so many bytes, at a failed read, or where memory ran out, of which
-- this is said.
pub data StopsAt (most : ℕ) (old new : SourceState) (NoMemory : Type 0) : Type 0 where
  the_end : IsAtEnd new.left → StopsAt most old new NoMemory
  past_limit : (bytes : List ℕ) → Consumes old.left new.left bytes → most < length bytes → StopsAt most old new NoMemory
  failure : new.failed ≡ true → StopsAt most old new NoMemory
  no_memory : NoMemory → StopsAt most old new NoMemory

-- All the bytes were read, and they are few enough.
pub record AreAll (most : ℕ) (old new : SourceState) (bytes : List ℕ) : Type 0 where
  pub consumed : Consumes old.left new.left bytes
  pub end : IsAtEnd new.left
  pub few : length bytes ≤ most
  pub kept : new.failed ≡ old.failed

-- Why they weren't: there are too many, which is refused by this number, a read failed, or memory ran out.
pub data AreUnread (most : ℕ) (past : RefusalCode) (old new : SourceState) (failure : Failure) : Type 0 where
  too_large :
      (bytes : List ℕ) → Consumes old.left new.left bytes → most < length bytes → new.failed ≡ old.failed
      → failure ≡ Refused past → AreUnread most past old new failure
  read_failed : new.failed ≡ true → failure ≡ Broken → AreUnread most past old new failure
  no_memory : new.failed ≡ old.failed → failure ≡ Memory → AreUnread most past old new failure
