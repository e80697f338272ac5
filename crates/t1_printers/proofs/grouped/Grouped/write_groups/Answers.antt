use Rattle.std.proofs.Common.{◌≡◌, ◌∙◌, List, Ok, Err, Result, Some, ap, refl, subst, sym, ℕ}
use Rattle.std.specs.Result.{IsErrAnd}
use Rattle.t1_printers.proofs.grouped.Grouped.write_groups.Goals as goal
use Rattle.t1_printers.specs.GroupLines.{Writing, group_lines}
use Rattle.t1_printers.specs.Grouping.{Grouping, WritesGroups}
use Rattle.t1_printers.specs.Printing.{grouping_by}
use Rattle.t1_printers.specs.RuleGroups.{values_of}
use Rattle.t1_io.specs.Devices.{DeliveryFailed}
use Rattle.t1_many.specs.Handing.{lost_of}
use Rattle.t1_many.specs.declared.policy.Lost.{Lost}
use Rattle.t1_many.specs.declared.policy.Lost.TheVariants.{Device}

undelivered : {T : Type 0} (writing : Writing) (old new : Grouping) (name text : List ℕ) (result : Result T Lost)
    → IsErrAnd result (λ lost. lost ≡ Device) → DeliveryFailed old.sinks.out new.sinks.out text → text ≡ group_lines (writing.line name) old.groups
    → new.sinks.errors ≡ old.sinks.errors → WritesGroups writing old new name (lost_of result)
undelivered writing old new name text (Ok value) is broke same errors = absurd is
undelivered writing old new name text (Err lost) is broke same errors =
    subst (λ (l : Lost). WritesGroups writing old new name (Some l)) (sym is) (subst (DeliveryFailed old.sinks.out new.sinks.out) same broke, errors)

pub returns-in_err-deliver-clause-written : goal.returns-in_err-deliver-clause-written
returns-in_err-deliver-clause-written g c =
    let writing = g.T.GroupForm.writing c.args.self.now.form in
    let old : Grouping = grouping_by g.W.Sink.state g.E.Sink.state writing.room c.args.self.now in
    let new : Grouping = record {
      sinks = record { out = g.W.Sink.state c.deliver.new.sink; errors = g.E.Sink.state c.args.self.now.streams.errors };
      groups = values_of writing.room c.take-groups.new.self;
    } in
    undelivered writing old new c.args.name.now c.as_slice.result.now c.from_residual.result c.from_residual.ensures.1 c.in_err-deliver.ensures
    (c.as_slice.ensures.value ∙ c.in-Ok.ensures
    ∙ ap (λ groups. group_lines (writing.line c.args.name.now) (values_of writing.room groups)) c.take-groups.ensures.value)
    refl
