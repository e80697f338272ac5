use Rattle.std.proofs.Common.{ap, set}
use Rattle.t1_font.specs.Entries.{entry_view}
use Rattle.t1_font.specs.Keys.{index_of}
use Rattle.t1_font.proofs.FontMaps.{values_put}
use Rattle.t1_font.proofs.plain_values.PlainValues.put.Goals as goal

pub returns : goal.returns
returns c =
    rw (c.place.ensures.place, values_put) (ap (λ vs. set vs (index_of c.args.key) (entry_view c.args.entry)) c.self.view_is)
