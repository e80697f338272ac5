use Rattle.std.proofs.Common.{sym, ◌∙◌}
use Rattle.std.proofs.lemmas.Result.{err_from_is_err_and}
use Rattle.t1_font.specs.declared.unread.Unread.TheVariants.{NoEexec}
use Rattle.t1_font.specs.ClearText.{clear_turn}
use Rattle.t1_font.proofs.Running.{fails, run_fails, run_goes, run_over, shorter}
use Rattle.t1_font.proofs.Shorter.{clear_shortens}
use Rattle.t1_font.proofs.TurnsWithin.{clear_room}
use Rattle.t1_font.proofs.texts.take_clear.Goals as goal

pub returns-in_err-rest : goal.returns-in_err-rest
returns-in_err-rest c =
    let p = err_from_is_err_and c.from_residual.result c.from_residual.ensures.1 in
    rw (p.1, p.2)
    (fails _ _ (sym c.turns.invariant.rest ∙ run_fails clear_turn NoEexec clear_shortens _ _ _ _ (c.in_err-rest.ensures c.turns.font)))

pub returns-in-Over : goal.returns-in-Over
returns-in-Over c =
    let turn = rw c.in-Over.is at (c.in_ok-rest.ensures c.turns.font) in
    sym c.turns.invariant.rest ∙ run_over clear_turn NoEexec clear_shortens _ _ _ _ turn

pub turns-smaller : goal.turns-smaller
turns-smaller c =
    let turn = rw c.in-Goes.is at (c.in_ok-rest.ensures c.turns.font) in
    shorter clear_turn NoEexec clear_shortens _ _ _ _ _ _ turn

pub turns-preserved : goal.turns-preserved
turns-preserved c =
    let turn = rw c.in-Goes.is at (c.in_ok-rest.ensures c.turns.font) in
    record {
      rest =
          rw c.in_ok-put_one-in-Goes.ensures.ok
          (sym (run_goes clear_turn NoEexec clear_shortens _ _ _ _ _ _ turn) ∙ c.turns.invariant.rest);
    }

pub put_one-requires : goal.put_one-requires
put_one-requires c =
    let turn = rw c.in-Goes.is at (c.in_ok-rest.ensures c.turns.font) in
    clear_room _ _ _ _ _ _ turn
