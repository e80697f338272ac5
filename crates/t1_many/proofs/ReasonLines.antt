-- The line of a fault, and behind it that of its reason.
use Rattle.std.proofs.Common.{ℕ, List, ◌++◌, Option, None, Some}
use Rattle.t1_io.proofs.SinkLemmas.{PutFailed-first, PutFailed-second, Wrote-trans}
use Rattle.t1_io.specs.Devices.{SinkState}
use Rattle.t1_many.specs.Plain.{IsLinePut, IsPut}
use Rattle.t1_many.specs.declared.policy.Lost.{Lost}
use Rattle.t1_many.specs.declared.policy.Lost.TheVariants.{Device, Memory}

module _ (a b : SinkState) (front behind : List ℕ) where
  pub half_put : (lost : Lost) → IsPut a b front (Some lost) → IsLinePut a b (front ++ behind) (Some lost)
  half_put Device broke = PutFailed-first a b front behind broke
  half_put Memory never = absurd never

  pub both_put : (c : SinkState) (lost : Option Lost) → IsPut a b front None → IsPut b c behind lost → IsLinePut a c (front ++ behind) lost
  both_put c None first second = Wrote-trans a b c front behind first second
  both_put c (Some Device) first broke = PutFailed-second a b c front behind first broke
  both_put c (Some Memory) first never = absurd never
