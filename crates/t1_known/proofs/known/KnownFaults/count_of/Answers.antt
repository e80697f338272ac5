use Rattle.std.proofs.Common.{◌-◌, ◌^◌, List, min, sym, ap, ◌∙◌}
use Rattle.std.proofs.Math.Logic.{∥∥₁_elim}
use Rattle.std.proofs.Math.Nat.{ℕ_set}
use mathlib.Core.Bool.{Bool-set}
use Rattle.t1_known.proofs.KeptRows.{at_kind, at_most, found_none, found_row}
use Rattle.std.specs.Str.Parse.{digits_value}
use Rattle.t1_known.specs.Keys.{count_at}
use Rattle.t1_known.specs.Private.Kept.{rows_now}
use Rattle.t1_many.specs.KnownFaults.{RowValue, known_count}
use Rattle.t1_known.proofs.known.KnownFaults.count_of.Goals as goal

pub number-requires : goal.number-requires
number-requires c =
    ∥∥₁_elim c.self.invariant (Bool-set _ _)
    (λ kept. (found_row c.self.inside.rows.entries c.args.key.now kept c.in-Some.row.now c.in-Some.ensures.value).2.count)

pub returns-in-Some-clause-row : goal.returns-in-Some-clause-row
returns-in-Some-clause-row c =
    ∥∥₁_elim c.self.invariant (ℕ_set _ _)
    (λ kept. c.unwrap_or.ensures ∙ at_most (digits_value 10 c.in-Some.row.now.count.now) c.number.result c.number.ensures
    ∙ ap (λ n. min n (2 ^ 64 - 1)) (sym (found_row c.self.inside.rows.entries c.args.key.now kept c.in-Some.row.now c.in-Some.ensures.value).0
    ∙ ap (λ (rows : List RowValue). count_at rows c.args.key.now) c.self.view_is))

pub returns-in-Some-clause-kind : goal.returns-in-Some-clause-kind
returns-in-Some-clause-kind c = λ kind font is key_is.
    ∥∥₁_elim c.self.invariant (ℕ_set _ _)
    (λ kept. c.unwrap_or.ensures ∙ at_most (digits_value 10 c.in-Some.row.now.count.now) c.number.result c.number.ensures
    ∙ ap (λ n. min n (2 ^ 64 - 1)) (sym (found_row c.self.inside.rows.entries c.args.key.now kept c.in-Some.row.now c.in-Some.ensures.value).0
    ∙ ap (count_at (rows_now c.self.inside.rows.entries)) key_is ∙ at_kind c.self.inside.rows.entries kind font kept is
    ∙ ap (λ (rows : List RowValue). known_count rows font kind) c.self.view_is))

pub returns-in-None-clause-row : goal.returns-in-None-clause-row
returns-in-None-clause-row c =
    ∥∥₁_elim c.self.invariant (ℕ_set _ _)
    (λ kept. ap (λ n. min n (2 ^ 64 - 1)) (sym (found_none c.self.inside.rows.entries c.args.key.now kept c.in-None.ensures.value).0
    ∙ ap (λ (rows : List RowValue). count_at rows c.args.key.now) c.self.view_is))

pub returns-in-None-clause-kind : goal.returns-in-None-clause-kind
returns-in-None-clause-kind c = λ kind font is key_is.
    ∥∥₁_elim c.self.invariant (ℕ_set _ _)
    (λ kept. ap (λ n. min n (2 ^ 64 - 1)) (sym (found_none c.self.inside.rows.entries c.args.key.now kept c.in-None.ensures.value).0
    ∙ ap (count_at (rows_now c.self.inside.rows.entries)) key_is ∙ at_kind c.self.inside.rows.entries kind font kept is
    ∙ ap (λ (rows : List RowValue). known_count rows font kind) c.self.view_is))
