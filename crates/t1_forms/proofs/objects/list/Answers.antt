use Rattle.std.proofs.Common.{List, ap, map, ◌∙◌}
use Rattle.std.proofs.lemmas.List.{take_all}
use Rattle.serde_json.proofs.Views.{view-Array}
use Rattle.serde_json.specs.Data.{Data, array, number, unsigned}
use Rattle.serde_json.specs.View.{items_of}
use Rattle.t1_forms.proofs.objects.list.Goals as goal

pub returns : goal.returns
returns c =
    view-Array c.loop-number.items
    ∙ ap (λ (items : List Data). array (items_of items))
    (c.loop-number.invariant
    ∙ ap (map (λ n. number (unsigned n))) (take_all c.loop-number.number-index c.args.numbers.now c.loop-number-test.false))
