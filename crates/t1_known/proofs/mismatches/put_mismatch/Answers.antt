use Rattle.std.proofs.Common.{◌≡◌, true, rules}
use Rattle.std.specs.Fmt.{decimal}
use Rattle.std.specs.Str.Parse.{digits_value}
use Rattle.t1_many.specs.KnownFaults.{differs}
use Rattle.t1_known.proofs.mismatches.put_mismatch.Goals as goal

pub returns : goal.returns
returns g c =
    let other : differs c.args.found (digits_value 10 c.args.row.now.count.now) ≡ true = search rules in
    let digits : c.as_bytes.result.now ≡ decimal c.args.found = search rules in
    rw other (rw digits at c.put_parts.ensures)
