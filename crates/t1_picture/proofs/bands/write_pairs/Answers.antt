use Rattle.std.proofs.Common.{◌≡◌, ◌++◌, ◌+◌, ◌-◌, ℕ, ℤ, suc, List, [], append_assoc, append-nil, ap, arith}
use Rattle.t1_picture.specs.declared.frame.Frame.{Frame}
use Rattle.t1_picture.specs.Bands.{zone_text, zones_from}
use Rattle.t1_picture.proofs.bands.write_pairs.Goals as goal

one_zone : (frame : Frame) (list : List ℤ) (zone n rest : ℕ) → n ≡ suc rest
    → zones_from frame list zone n ≡ zone_text frame list zone ++ zones_from frame list (zone + 1) rest
unfolding zones_from
one_zone frame list zone n rest is = ap (zones_from frame list zone) is

no_zone : (frame : Frame) (list : List ℤ) (zone n : ℕ) → n ≡ 0 → zones_from frame list zone n ≡ []
unfolding zones_from
no_zone frame list zone n is = ap (zones_from frame list zone) is

pub loop-zone-preserved : goal.loop-zone-preserved
loop-zone-preserved c =
    rw (c.in_ok-write_zone.ensures, append_assoc)
    (rw (one_zone c.args.frame.now c.args.list.now c.loop-zone.zone (c.args.most - c.loop-zone.zone)
    (c.args.most - (c.loop-zone.zone + 1)) (omega (arith, c.loop-zone-test.true))) at c.loop-zone.invariant)

pub returns : goal.returns
returns c =
    rw (
      no_zone c.args.frame.now c.args.list.now c.loop-zone.zone (c.args.most - c.loop-zone.zone)
          (omega (arith, c.loop-zone-test.false)),
      append-nil,
    ) at c.loop-zone.invariant
