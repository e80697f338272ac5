-- The edges of the program, as a zone.
use Rattle.t1_rules.specs.declared.font_rules.zones.Edges.{Edges}
use Rattle.t1_rules.specs.FontRules.Zones.{Zone}

abbrev pub zone_of : Edges → Zone
zone_of e = record { lower = e.lower; upper = e.upper }
