use Rattle.std.proofs.Common.{◌≡◌, ◌++◌, drop, map, option_map, string_bytes}
use Rattle.toml.specs.View.{items_view}
use Rattle.t1_options.specs.Settings.Values.{texts_in}
use Rattle.t1_options.proofs.settings.values.texts_in.Given as goal

abbrev pub invariant-loop-item : goal.invariant-loop-item
invariant-loop-item l =
    texts_in (items_view l.items) ≡ option_map (λ more. map string_bytes l.values.items ++ more) (texts_in (items_view (drop l.item-index l.items)))
