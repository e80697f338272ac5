use Rattle.std.proofs.Common.{codes, pos}
use Rattle.std.specs.List.{flat_map, list_any}
use Rattle.t1_picture.proofs.Joined.{then_last}
use Rattle.t1_picture.proofs.cause_groups.write_cause_points.Goals as goal
use Rattle.t1_picture.specs.Arrows.{arrows_if}
use Rattle.t1_picture.specs.Causes.{is_turns}
use Rattle.t1_picture.specs.CauseTexts.{cause_points, cause_points_part}
use Rattle.t1_picture.specs.Frames.{length_of}
use Rattle.t1_picture.specs.Starts.{marks_start}

pub returns : goal.returns
unfolding cause_points_part
returns c =
    let causes = c.args.causes.now in
    then_last c.push.result _ _ _ (marks_start (codes "cause-points") (length_of c.args.frame.now (pos 2))) _
    (rw c.length.ensures at c.in_ok-start_marks.ensures)
    (then_last c.push.result _ _ _ (flat_map cause_points causes) _ c.in_ok-write_all_points.ensures
    (then_last c.push.result _ _ _ (arrows_if (list_any is_turns causes) c.args.arrows.now) (codes "</g>\n") c.in_ok-write_arrows.ensures
    c.push.ensures))
