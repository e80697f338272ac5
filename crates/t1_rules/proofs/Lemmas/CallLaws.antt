-- Where callsubr goes into a Subr, and which numbers are kept.
use Rattle.std.proofs.Common.{◌≡◌, ℕ, ◌<◌, ◌≤◌, ◌==◌, ◌&&◌, not, is_some, nat_lt, cond, Bool, true, false, Option, Some, None, length, refl, sym, ◌∙◌, arith, rules}
use Rattle.t1_char.specs.declared.command.Command.TheVariants.{Callsubr}
use Rattle.t1_char.specs.declared.token.CharToken.TheVariants.{Command}
use Rattle.t1_char.specs.Effects.{CalledSubr, call_of, calls, goes}
use Rattle.t1_char.specs.Steps.{named_at}
use Rattle.t1_rules.specs.Laws.Calls.{SoundCallsGoIn, callsubr_at, goes_in}
use Rattle.t1_rules.proofs.Lemmas.Rows.{s01_row, s02_row}

some_there : (n : ℕ) → 0 < n → nat_lt 0 n ≡ true
some_there n some = search rules

below_ten : (depth : ℕ) → depth ≤ 10 → nat_lt depth 10 ≡ not (depth == 10)
below_ten depth few = grind arith

made : (found : Option CalledSubr) (depth : ℕ) → depth ≤ 10 → goes_in (call_of found depth) ≡ (not (not (is_some found)) && not (depth == 10))
made None depth few = refl
made (Some subr) depth few = by_depth (nat_lt depth 10) ∙ below_ten depth few
  where
    by_depth : (b : Bool) → goes_in (cond b (calls subr.number subr.code) goes) ≡ b
    by_depth true = refl
    by_depth false = refl

pub sound_calls_go_in : SoundCallsGoIn
sound_calls_go_in edition font path behind s before some few =
    made (named_at font (Command Callsubr) s.stack) (length path) few
    ∙ sym (rw (
      s01_row edition before (callsubr_at font path behind s),
      s02_row edition before (callsubr_at font path behind s),
      some_there (length s.stack) some,
    ) refl)
