-- What a `Segment` says.
use Rattle.t1_seal.specs.declared.segments.Segment.{Segment}
use Rattle.t1_seal.specs.declared.segments.Segment.TheVariants.{Nothing, End, Payload}
use Rattle.t1_seal.specs.Segments.{Part, nothing, ending, payload}

abbrev pub part_of : Segment → Part
part_of Nothing = nothing
part_of (End rest) = ending rest.now
part_of (Payload front rest) = payload front.now rest.now
