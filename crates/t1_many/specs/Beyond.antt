-- What is done with faults that go beyond what is known, or don't.
use Rattle.std.specs.Prelude.{ℕ, nat_lt, Bool, List, if◌then◌else◌}
use Rattle.t1_many.specs.Counts.{count_in}
use Rattle.t1_many.specs.Kinds.{KindValue}
use Rattle.t1_many.specs.declared.verdict.Verdict.{Verdict}
use Rattle.t1_many.specs.declared.verdict.Verdict.TheVariants.{Known, Skipped, Reported}
use Rattle.t1_rules.specs.Book.{number_of}
use Rattle.t1_rules.specs.Mask.{has}
use Rattle.t1_rules.specs.declared.mask.Mask.{Mask}

-- What is done with a fault whose rule is reported or isn't, and which goes beyond what is known or doesn't.
abbrev pub verdict_of : Bool → Bool → Verdict
verdict_of told beyond = if told then (if beyond then Reported else Known) else Skipped

-- A fault of a kind goes beyond where the kind was found more often than it is known.
abbrev pub verdict_beyond : Mask → List (KindValue × ℕ) → List (KindValue × ℕ) → KindValue → Verdict
verdict_beyond rules known found kind = verdict_of (has rules (number_of kind.rule)) (nat_lt (count_in known kind) (count_in found kind))
