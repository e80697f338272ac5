-- The program's command, as clap's rules see it, and its text of help.
use Rattle.std.proofs.Common.{◌<◌, ℕ, List, length, refl, subst, sym}
use Rattle.clap.specs.Words.{App, Text}
use Rattle.t1_run.specs.Words.{AreRefused, IsPlainApp}
use Rattle.t1_run.specs.declared.usage.UsageError.{UsageError}
use Rattle.t1_run.specs.declared.usage.UsageError.TheVariants.{Help, Memory, Usage}
use Rattle.t1_options.specs.CommandLine.{t1check_all}
use Rattle.t1_options.specs.Words.{HasHelp, IsAnswered}

-- no argument excludes anything, and each has an id of its own
pub plain : IsPlainApp t1check_all
unfolding t1check_all
plain = record { own = refl; distinct = refl; plain = refl; negates = refl; simple = refl; free = refl; leaf = refl; alone = refl }

-- a refusal stays one where help has another text that is not empty
pub answered : {app : App} {words : List Text} (help : Text) (error answer : UsageError) → 0 < length help → AreRefused app words error
    → IsAnswered help error answer → AreRefused app words answer × HasHelp help answer
answered help (Help text) (Help own) some refused same = (
  record {
    taken = λ takes. let never = refused.taken takes in cc;
    faultless = λ none. let never = refused.faultless none in cc;
    text = subst (λ (t : List ℕ). 0 < length t) (sym same) some;
    help = λ asks. tt;
    only_help = λ is. refused.only_help tt;
  },
  same,
)
answered help (Help text) (Usage own) some refused never = absurd never
answered help (Help text) Memory some refused same = (
  record {
    taken = λ takes. refl;
    faultless = λ none. refl;
    text = tt;
    help = λ asks. tt;
    only_help = λ is. absurd is;
  },
  tt,
)
answered {app} {words} help (Usage text) answer some refused same = (subst (AreRefused app words) (sym same) refused, subst (HasHelp help) (sym same) tt)
answered {app} {words} help Memory answer some refused same = (subst (AreRefused app words) (sym same) refused, subst (HasHelp help) (sym same) tt)
