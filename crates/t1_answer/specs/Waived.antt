-- The waivers that the options request.
use Rattle.std.specs.Prelude.{Bool, Option, None, Some, option_map, string_bytes}
use Rattle.std.specs.Option.{is_some}
use Rattle.clap.specs.Words.{Text}
use Rattle.t1_answer.specs.declared.asked.CheckOptions.{CheckOptions}

-- Waivers serve a report, and no trace.
abbrev pub unless_traced : {A B : Type 0} → Option A → Option B → Option B
unless_traced None waive = waive
unless_traced (Some trace) waive = None

-- The file of waivers that is to be read: the one that is named, where no trace is requested.
abbrev pub waivers_named : CheckOptions → Option Text
waivers_named options = option_map string_bytes (unless_traced options.trace options.waive)

abbrev pub asks_waivers : CheckOptions → Bool
asks_waivers options = is_some (waivers_named options)
