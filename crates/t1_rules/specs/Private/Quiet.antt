-- Tokens that change nothing of a watcher.
use Rattle.std.specs.Prelude.{◌≡◌, false}
use Rattle.t1_char.specs.declared.token.CharToken.{CharToken}
use Rattle.t1_char.specs.Arguments.{is_callothersubr}
use Rattle.t1_char.specs.Effects.{is_finishing}
use Rattle.t1_char.specs.Steps.{is_end}
use Rattle.t1_rules.specs.StepRules.Tokens.{clears, sets_width, is_move, is_line, is_setcurrentpoint, closes}

-- A token that changes nothing of it, and breaks no rule on widths and paths.
pub record IsQuietForPaths (token : CharToken) : Type 0 where
  pub clears : clears token ≡ false
  pub sets_width : sets_width token ≡ false
  pub moves : is_move token ≡ false
  pub draws : is_line token ≡ false
  pub closes : closes token ≡ false
  pub finishes : is_finishing token ≡ false
  pub ends : is_end token ≡ false
  pub othersubr : is_callothersubr token ≡ false

-- A token that breaks no rule on flex where none was started.
pub record IsQuietForFlex (token : CharToken) : Type 0 where
  pub othersubr : is_callothersubr token ≡ false
  pub point : is_setcurrentpoint token ≡ false
