-- What is known of a device, and what a call does to it.
use Rattle.std.specs.Prelude.{◌≡◌, ◌⊎◌, if◌then◌else◌, ℕ, ◌+◌, ◌-◌, ◌^◌, ◌==◌, ◌≤◌, ◌<◌, min, length, take, List, ◌++◌, Bool, true, not, ◌&&◌, ◌||◌, Option, Result, Ok, Err}
use Rattle.std.specs.Borrow.{Bor}
use Rattle.std.specs.List.{flat_map}
use Rattle.std.specs.Io.KnownBytes.{Appends, Consumes, IsAtEnd, Keeps}

-- One more, in a count that stays at the greatest u64.
abbrev pub one_more : ℕ → ℕ
one_more n = min (n + 1) (2 ^ 64 - 1)

-- What is known of a source.
pub record SourceState : Type 0 where
  -- The bytes that are left, where the source knows them.
  pub left : Option (List ℕ)
  -- How many calls of take there were.
  pub takes : ℕ
  -- How many of them came after a call that failed or found the end.
  pub late_takes : ℕ
  -- Whether a call has failed.
  pub failed : Bool
  -- Whether a call has found the end: it brought no byte although the buffer had room.
  pub ended : Bool

-- A call has failed or found the end, so there is no reason for another one.
abbrev pub is_over : SourceState → Bool
is_over source = source.failed || source.ended

-- The calls of take after such a one, with one call more.
abbrev pub late_takes_behind : SourceState → ℕ
late_takes_behind old = if is_over old then one_more old.late_takes else old.late_takes

-- A call that brought so many bytes into a buffer of this length found the end.
abbrev pub finds_end : ℕ → ℕ → Bool
finds_end count room = count == 0 && not (room == 0)

-- A read put so many bytes at the beginning of the buffer: none only at the end or without room.
pub record Took (old new : SourceState) (buffer : List ℕ) (count : ℕ) : Type 0 where
  pub bound : count ≤ length buffer
  pub bytes : Consumes old.left new.left (take count buffer)
  pub end : count ≡ 0 → 0 < length buffer → IsAtEnd new.left
  pub takes : new.takes ≡ one_more old.takes
  pub late_takes : new.late_takes ≡ late_takes_behind old
  pub failed : new.failed ≡ old.failed
  pub ended : new.ended ≡ (old.ended || finds_end count (length buffer))

-- A read failed: no byte was taken.
pub record TookNone (old new : SourceState) : Type 0 where
  pub bytes : Keeps old.left new.left
  pub takes : new.takes ≡ one_more old.takes
  pub late_takes : new.late_takes ≡ late_takes_behind old
  pub failed : new.failed ≡ true
  pub ended : new.ended ≡ old.ended

-- What a call of take does.
abbrev pub Takes : {E : Type 0} → SourceState → SourceState → List ℕ → Result ℕ E → Type 0
Takes old new buffer (Ok count) = Took old new buffer count
Takes old new buffer (Err e) = TookNone old new

-- What is known of a sink.
pub record SinkState : Type 0 where
  -- The bytes that were written, where the sink knows them.
  pub written : Option (List ℕ)
  -- Whether all that was put has been flushed.
  pub flushed : Bool
  -- How many calls of flush succeeded.
  pub flushes : ℕ
  -- How many calls of put failed.
  pub failed_puts : ℕ
  -- Whether a call of put or flush has failed.
  pub failed : Bool

-- The text was written, and waits to be flushed.
pub record Wrote (old new : SinkState) (text : List ℕ) : Type 0 where
  pub bytes : Appends old.written new.written text
  pub waits : new.flushed ≡ (old.flushed && length text == 0)
  pub flushes : new.flushes ≡ old.flushes
  pub failed_puts : new.failed_puts ≡ old.failed_puts
  pub failed : new.failed ≡ old.failed

-- Known bytes grow by a prefix of these.
abbrev pub AppendsFront : Option (List ℕ) → Option (List ℕ) → List ℕ → Type 0
AppendsFront old new bytes =
    (front : List ℕ) × ((rest : List ℕ) × ((bytes ≡ front ++ rest) × Appends old new front))

-- A call of put failed where the text was to be written: a prefix of it went out, and nothing was flushed.
pub record PutFailed (old new : SinkState) (text : List ℕ) : Type 0 where
  pub front : AppendsFront old.written new.written text
  pub flushes : new.flushes ≡ old.flushes
  pub failed_puts : new.failed_puts ≡ one_more old.failed_puts
  pub failed : new.failed ≡ true

-- The text was written, or a call of put failed.
abbrev pub Writes : {X E : Type 0} → SinkState → SinkState → List ℕ → Result X E → Type 0
Writes old new text (Ok x) = Wrote old new text
Writes old new text (Err e) = PutFailed old new text

-- A put took the first so many of these bytes: one at least, unless there is none.
pub record TookFront (old new : SinkState) (bytes : List ℕ) (count : ℕ) : Type 0 where
  pub bound : count ≤ length bytes
  pub some : 0 < length bytes → 0 < count
  pub wrote : Wrote old new (take count bytes)

-- A call failed, and took no byte.
pub record CallFailed (old new : SinkState) : Type 0 where
  pub bytes : Keeps old.written new.written
  pub waits : new.flushed ≡ old.flushed
  pub flushes : new.flushes ≡ old.flushes
  pub failed : new.failed ≡ true

-- What a call of put does.
abbrev pub Puts : {E : Type 0} → SinkState → SinkState → List ℕ → Result ℕ E → Type 0
Puts old new bytes (Ok count) = TookFront old new bytes count
Puts old new bytes (Err e) = CallFailed old new × (new.failed_puts ≡ one_more old.failed_puts)

-- Nothing waits any more.
pub record Flushed (old new : SinkState) : Type 0 where
  pub bytes : Keeps old.written new.written
  pub waits : new.flushed ≡ true
  pub flushes : new.flushes ≡ one_more old.flushes
  pub failed_puts : new.failed_puts ≡ old.failed_puts
  pub failed : new.failed ≡ old.failed

-- What a call of flush does.
abbrev pub Flushes : {X E : Type 0} → SinkState → SinkState → Result X E → Type 0
Flushes old new (Ok x) = Flushed old new
Flushes old new (Err e) = CallFailed old new × (new.failed_puts ≡ old.failed_puts)

-- The text was written, and then everything was flushed, once.
pub record Delivered (old new : SinkState) (text : List ℕ) : Type 0 where
  pub bytes : Appends old.written new.written text
  pub waits : new.flushed ≡ true
  pub flushes : new.flushes ≡ one_more old.flushes
  pub failed_puts : new.failed_puts ≡ old.failed_puts
  pub failed : new.failed ≡ old.failed

-- A put failed where the text was to be written, or the flush after the whole text: no flush succeeded.
pub record DeliveryFailed (old new : SinkState) (text : List ℕ) : Type 0 where
  pub front : AppendsFront old.written new.written text
  pub flushes : new.flushes ≡ old.flushes
  pub failed : new.failed ≡ true
  -- A put failed; or none did, and so the flush failed, after the whole text.
  pub call : (new.failed_puts ≡ one_more old.failed_puts)
      ⊎ ((new.failed_puts ≡ old.failed_puts) × Appends old.written new.written text)

-- The text was written and flushed, or a call failed.
abbrev pub Delivers : {X E : Type 0} → SinkState → SinkState → List ℕ → Result X E → Type 0
Delivers old new text (Ok x) = Delivered old new text
Delivers old new text (Err e) = DeliveryFailed old new text

-- Parts of a text, one after another.
abbrev pub whole_of : List (Bor (List ℕ)) → List ℕ
whole_of parts = flat_map (λ part. part.now) parts
