use Rattle.std.proofs.Common.{◌≡◌, length}
use Rattle.t1_font.specs.declared.mode.PrivateMode.TheVariants.{Outside}
use Rattle.t1_font.specs.declared.unread.Unread.TheVariants.{BadCharStrings}
use Rattle.t1_font.specs.PrivateText.{private_turn}
use Rattle.t1_font.specs.Runs.{run_of}
use Rattle.t1_font.proofs.texts.take_private.Given as goal

abbrev pub invariant-turns : goal.invariant-turns
invariant-turns l = record {
  rest : run_of private_turn BadCharStrings l.font l.mode l.left ≡ run_of private_turn BadCharStrings l.fn.font Outside l.fn.text;
}

abbrev pub decreases-turns : goal.decreases-turns
decreases-turns l = length l.left
