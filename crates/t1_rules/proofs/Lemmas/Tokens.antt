-- Tokens that are no commands are of none of the kinds that rules speak of, and move no point.
use Rattle.std.proofs.Common.{◌≡◌, ℤ, true, false, List, refl}
use Rattle.t1_char.specs.declared.token.CharToken.{CharToken}
use Rattle.t1_char.specs.declared.token.CharToken.TheVariants.{Number, Command, Unknown, Unknown12, Cut, Short, End}
use Rattle.t1_char.specs.Arguments.{is_callothersubr}
use Rattle.t1_rules.specs.StepRules.Flex.{displacement_of, origin}
use Rattle.t1_rules.specs.StepRules.Stems.{is_stem}
use Rattle.t1_rules.specs.StepRules.Tokens.{closes, is_command, is_line, is_move, is_pop, sets_point}

pub record IsNoCommand (token : CharToken) : Type 0 where
  pub othersubr : is_callothersubr token ≡ false
  pub pops : is_pop token ≡ false
  pub moves : is_move token ≡ false
  pub draws : is_line token ≡ false
  pub stem : is_stem token ≡ false
  pub closes : closes token ≡ false
  pub sets : sets_point token ≡ false
  pub stays : (stack : List ℤ) → displacement_of token stack ≡ origin

pub no_command : (token : CharToken) → is_command (λ command. true) token ≡ false → IsNoCommand token
no_command (Command command) e = let no : true ≡ false = e in cc
no_command (Number n) e = record { othersubr = refl; pops = refl; moves = refl; draws = refl; stem = refl; closes = refl; sets = refl; stays = λ stack. refl }
no_command (Unknown n) e = record { othersubr = refl; pops = refl; moves = refl; draws = refl; stem = refl; closes = refl; sets = refl; stays = λ stack. refl }
no_command (Unknown12 n) e = record {
  othersubr = refl;
  pops = refl;
  moves = refl;
  draws = refl;
  stem = refl;
  closes =
      refl;
  sets = refl;
  stays = λ stack. refl;
}
no_command Cut e = record { othersubr = refl; pops = refl; moves = refl; draws = refl; stem = refl; closes = refl; sets = refl; stays = λ stack. refl }
no_command Short e = record { othersubr = refl; pops = refl; moves = refl; draws = refl; stem = refl; closes = refl; sets = refl; stays = λ stack. refl }
no_command End e = record { othersubr = refl; pops = refl; moves = refl; draws = refl; stem = refl; closes = refl; sets = refl; stays = λ stack. refl }
