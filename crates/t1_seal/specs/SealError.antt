-- The refusals of this crate, and how its results agree with what a definition reads.
use Rattle.std.specs.Prelude.{Bool, true, false, Result}
use Rattle.t1_seal.specs.declared.errors.SealError.{SealError}
use Rattle.t1_seal.specs.declared.errors.SealError.TheVariants.{NotAFont, BadHeader, CutShort, Memory}
use Rattle.t1_seal.specs.Readings.{ReadsBy}

-- Memory ran out, which says nothing of the bytes.
abbrev pub is_memory : SealError → Bool
is_memory Memory = true
is_memory _ = false

-- What a call returned, seen by view, is what was read, unless memory ran out.
abbrev pub Reads : {X Y : Type 0} → (X → Y) → Result X SealError → Result Y SealError → Type 0
Reads view result read = ReadsBy is_memory view result read

-- The three refusals of a file that isn't a PFA or PFB file, or whose segments are broken.
abbrev pub IsSegmentFault : SealError → Type 0
IsSegmentFault NotAFont = Unit {0}
IsSegmentFault BadHeader = Unit {0}
IsSegmentFault CutShort = Unit {0}
IsSegmentFault _ = ⊥
