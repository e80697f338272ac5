use Rattle.std.proofs.Common.{◌≡◌, Some, ap, length, vec_len}
use Rattle.t1_forms.proofs.Written.{shorter}
use Rattle.t1_forms.proofs.text.Text.pop.Goals as goal
use Rattle.t1_forms.specs.Writing.{with_text}
use Rattle.t1_io.specs.Devices.{SinkState}
use Rattle.t1_lines.proofs.Cuts.{some_same}

pub returns : goal.returns
returns c = λ line last is.
    let before = c.args.self.now in
    let len : vec_len before.bytes ≡ length before.bytes.items = before.bytes.ok.0 in
    let state : SinkState = record {
      written = Some before.bytes.items;
      flushed = before.flushed;
      flushes = before.flushes;
      failed_puts = before.failed_puts;
      failed = before.failed;
    } in
    ap (with_text state) (shorter before.bytes.items c.pop.new.self.items line last (vec_len before.bytes) len (some_same _ _ is) c.pop.ensures.rest)
