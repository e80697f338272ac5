-- The limits and the numbers of the editions.
use Rattle.std.proofs.Common.{◌≡◌, ◌≤◌, ℕ, ◌==◌, if◌then◌else◌, Option, Some, None, refl, sym, ap, ◌∙◌, arith}
use Rattle.t1_char.specs.declared.edition.Edition.{Edition}
use Rattle.t1_char.specs.declared.edition.Edition.TheVariants.{Four, One, Three, Two}
use Rattle.t1_char.specs.Editions.{limit_of, number_of_edition}

pub limit_few : (edition : Edition) → limit_of edition ≤ 1000000
limit_few One = omega arith
limit_few Two = omega arith
limit_few Three = omega arith
limit_few Four = omega arith

-- The edition of a number, if there is one: those that can't be asked for too.
abbrev of_number : ℕ → Option Edition
of_number n = if n == 1 then Some One else (if n == 2 then Some Two else (if n == 3 then Some Three else (if n == 4 then Some Four else None)))

numbered : (edition : Edition) → of_number (number_of_edition edition) ≡ Some edition
numbered One = refl
numbered Two = refl
numbered Three = refl
numbered Four = refl

some_one : {A : Type 0} (x y : A) → Some x ≡ Some y → x ≡ y
some_one x y same = cc

-- No two editions have one number.
pub one_edition : (edition other : Edition) → number_of_edition edition ≡ number_of_edition other → edition ≡ other
one_edition edition other same = some_one edition other (sym (numbered edition) ∙ ap of_number same ∙ numbered other)
