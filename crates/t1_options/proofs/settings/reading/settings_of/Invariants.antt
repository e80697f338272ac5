use Rattle.std.proofs.Common.{◌≡◌, string_bytes}
use Rattle.toml.specs.View.{members_view}
use Rattle.t1_options.specs.Settings.Reading.{nothing_in, settings_in, settings_value}
use Rattle.t1_options.proofs.settings.reading.settings_of.Given as goal

abbrev pub invariant-loop-name : goal.invariant-loop-name
invariant-loop-name l =
    settings_in l.folder (nothing_in (string_bytes l.fn.file)) (members_view l.table.entries)
    ≡ settings_in l.folder (settings_value l.settings) (members_view l.name-iterator)
