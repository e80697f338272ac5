use Rattle.std.proofs.Common.{sym, ap, ◌∙◌}
use Rattle.t1_rules.specs.Keys.{kind_number, places_of}
use Rattle.t1_rules.proofs.keys.KeyKind.places.Goals as goal

pub returns-in-Value : goal.returns-in-Value
returns-in-Value c =
    c.value_places.ensures c.args.font.now ∙ ap (λ kind. places_of c.args.edition c.args.font.now (kind_number kind)) (sym c.in-Value.is)
