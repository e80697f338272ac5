-- What a `Joined` says, by the definition of joining; and what a `Segment` says.
use Rattle.t1_seal.specs.declared.joined.Joined.{Joined}
use Rattle.t1_seal.specs.Segments.{JoinedText}

abbrev pub joined_text : Joined → JoinedText
joined_text joined =
    record {
      bytes = joined.bytes.items;
      pfb = joined.pfb;
      end_segment = joined.end_segment;
      trailing = joined.trailing;
    }
