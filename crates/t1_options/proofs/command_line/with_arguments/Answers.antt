use Rattle.std.proofs.Common.{ap₂, sym, ◌∙◌}
use Rattle.std.proofs.lemmas.List.Sums.{fold_more}
use Rattle.clap.specs.Words.{app_of, with_rule}
use Rattle.t1_options.specs.Private.Arguments.{with_argument}
use Rattle.t1_options.proofs.command_line.with_arguments.Goals as goal

pub loop-argument-preserved : goal.loop-argument-preserved
loop-argument-preserved c =
    c.in_ok-command.ensures.shape c.arg_of.ensures.local ∙ ap₂ with_rule c.loop-argument.invariant c.arg_of.ensures.rule
    ∙ sym (fold_more with_argument (app_of c.args.command) c.args.arguments.now c.loop-argument.argument-index _ c.loop-argument-test.true)
