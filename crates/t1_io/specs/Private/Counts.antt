-- What a device counts of its calls.
use Rattle.std.specs.Prelude.{ℕ, ◌||◌, if◌then◌else◌}
use Rattle.t1_io.specs.declared.counts.TakeCounts.{TakeCounts}
use Rattle.t1_io.specs.Devices.{finds_end, one_more}

-- One call of take more.
abbrev pub take_counted : TakeCounts → TakeCounts
take_counted old =
    record {
      takes = one_more old.takes;
      late_takes = if old.failed || old.ended then one_more old.late_takes else old.late_takes;
      failed = old.failed;
      ended = old.ended;
    }

-- It brought so many bytes into a buffer of this length.
abbrev pub take_brought : TakeCounts → ℕ → ℕ → TakeCounts
take_brought old count room = record old { ended = old.ended || finds_end count room }
