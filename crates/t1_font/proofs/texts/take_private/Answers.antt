use Rattle.std.proofs.Common.{ap, sym, ◌∙◌}
use Rattle.std.proofs.lemmas.Result.{err_from_is_err_and}
use Rattle.t1_font.specs.declared.unread.Unread.TheVariants.{BadCharStrings}
use Rattle.t1_font.specs.PrivateText.{private_turn}
use Rattle.t1_font.specs.Texts.{value_alone}
use Rattle.t1_font.proofs.Running.{fails, run_fails, run_goes, run_over, shorter}
use Rattle.t1_font.proofs.Shorter.{private_shortens}
use Rattle.t1_font.proofs.TurnsWithin.{private_room}
use Rattle.t1_font.proofs.texts.take_private.Goals as goal

pub returns-in_err-private_turn : goal.returns-in_err-private_turn
returns-in_err-private_turn c =
    let p = err_from_is_err_and c.from_residual.result c.from_residual.ensures.1 in
    rw (p.1, p.2)
    (fails _ _ (ap value_alone (sym c.turns.invariant.rest ∙ run_fails private_turn BadCharStrings private_shortens _ _ _ _ c.in_err-private_turn.ensures)))

pub returns-in-Over : goal.returns-in-Over
returns-in-Over c =
    let turn = rw c.in-Over.is at c.in_ok-private_turn.ensures in
    ap value_alone (sym c.turns.invariant.rest ∙ run_over private_turn BadCharStrings private_shortens _ _ _ _ turn)

pub turns-smaller : goal.turns-smaller
turns-smaller c =
    let turn = rw c.in-Goes.is at c.in_ok-private_turn.ensures in
    shorter private_turn BadCharStrings private_shortens _ _ _ _ _ _ turn

pub turns-preserved : goal.turns-preserved
turns-preserved c =
    let turn = rw c.in-Goes.is at c.in_ok-private_turn.ensures in
    record {
      rest =
          rw c.in_ok-put_one-in-Goes.ensures.ok
          (sym (run_goes private_turn BadCharStrings private_shortens _ _ _ _ _ _ turn) ∙ c.turns.invariant.rest);
    }

pub put_one-requires : goal.put_one-requires
put_one-requires c =
    let turn = rw c.in-Goes.is at c.in_ok-private_turn.ensures in
    private_room _ _ _ _ _ _ turn
