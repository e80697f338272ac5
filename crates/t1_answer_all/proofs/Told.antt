-- What is printed of the use of the program.
use Rattle.std.proofs.Common.{◌≡◌, ℕ, List, Result, Ok, Err, inl, inr, sym, subst}
use Rattle.std.specs.Result.{IfErr, IsErrAnd}
use Rattle.t1_answer_all.specs.Telling.{IsTold}
use Rattle.t1_answer_all.specs.Private.Usage.{IsToldOrMemory}
use Rattle.t1_answer_all.specs.Usage.{IsToldSo}
use Rattle.t1_io.specs.Devices.{SinkState, Writes}
use Rattle.t1_run.specs.declared.usage.UsageError.{UsageError}
use Rattle.t1_run.specs.declared.usage.UsageError.TheVariants.{Help, Memory, Usage}

-- a text of which something is so
pub told_so : (Is : List ℕ → Type 0) (told : List ℕ) (error : UsageError) → IsToldOrMemory told error → Is told → IsToldSo Is error
told_so Is told (Help text) is so = is
told_so Is told (Usage text) is so = subst Is (sym is) so
told_so Is told Memory is so = tt

-- what is so of a text, by what is
pub told_weaker : (Is Also : List ℕ → Type 0) (error : UsageError) → ((text : List ℕ) → Is text → Also text) → IsToldSo Is error → IsToldSo Also error
told_weaker Is Also (Help text) gives is = is
told_weaker Is Also (Usage text) gives is = gives _ is
told_weaker Is Also Memory gives is = tt

-- an error that is handed on
pub handed_on : {T : Type 0} (P : UsageError → Type 0) (result : Result T UsageError) (error : UsageError) → IsErrAnd result (λ e. e ≡ error) → P error
    → IfErr result P
handed_on P (Ok x) error is so = absurd is
handed_on P (Err e) error is so = subst P (sym is) so

-- what was written or not was printed as far as the device took it
pub told_either : {X E : Type 0} (text : List ℕ) (a b : SinkState) (result : Result X E) → Writes a b text result → IsTold text a b
told_either text a b (Ok x) wrote = inl wrote
told_either text a b (Err e) broke = inr broke
