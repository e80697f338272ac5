use Rattle.t1_answer_all.proofs.FormMaps.{fonts_seen}
use Rattle.t1_answer_all.proofs.writing.write_groups.Goals as goal
use Rattle.t1_printers.specs.Grouping.{GroupedTakes}
use Rattle.t1_printers.specs.Printing.{grouping_by}
use Rattle.t1_printers.specs.RuleGroups.{values_of}

pub returns : goal.returns
returns g c =
    let writing = g.T.GroupForm.writing in (
      values_of (writing c.args.form).room c.check_fonts-checked.result.output.groups,
      rw (c.new-grouped.ensures.form, c.new-grouped.ensures.streams, c.new-grouped.ensures.groups) at
          (fonts_seen (λ form. GroupedTakes (writing form)) (λ f. f.form) (λ form. grouping_by g.W.Sink.state g.E.Sink.state (writing form).room) _ _ _ _
          c.check_fonts-checked.ensures),
    )
