use Rattle.std.proofs.Common.{◌≡◌, length}
use Rattle.t1_font.specs.declared.mode.ClearMode.TheVariants.{Outside}
use Rattle.t1_font.specs.declared.unread.Unread.TheVariants.{NoEexec}
use Rattle.t1_font.specs.ClearText.{clear_turn}
use Rattle.t1_font.specs.Runs.{run_of}
use Rattle.t1_font.proofs.texts.take_clear.Given as goal

abbrev pub invariant-turns : goal.invariant-turns
invariant-turns l = record {
  rest : run_of clear_turn NoEexec l.font l.mode l.left ≡ run_of clear_turn NoEexec l.fn.font Outside l.fn.text;
}

abbrev pub decreases-turns : goal.decreases-turns
decreases-turns l = length l.left
