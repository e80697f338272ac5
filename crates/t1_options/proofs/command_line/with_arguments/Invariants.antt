use Rattle.std.proofs.Common.{◌≡◌, fold, take}
use Rattle.clap.specs.Words.{app_of}
use Rattle.t1_options.specs.Private.Arguments.{with_argument}
use Rattle.t1_options.proofs.command_line.with_arguments.Given as goal

abbrev pub invariant-loop-argument : goal.invariant-loop-argument
invariant-loop-argument l = app_of l.command ≡ fold with_argument (app_of l.initial.command) (take l.argument-index l.arguments)
