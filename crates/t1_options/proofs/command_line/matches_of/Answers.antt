use Rattle.std.proofs.Common.{lit<, map, subst, sym}
use Rattle.clap.specs.Words.{App}
use Rattle.t1_run.specs.Words.{AreRefused, IsPlainApp}
use Rattle.t1_run.proofs.Commands.{by_rules}
use Rattle.t1_options.specs.CommandLine.{t1check_all}
use Rattle.t1_options.proofs.CommandLemmas.{answered, plain}
use Rattle.t1_options.proofs.command_line.matches_of.Goals as goal

pub parse-requires : goal.parse-requires
parse-requires g c = record { plain = subst IsPlainApp (sym c.in_ok-command.ensures) plain }

pub returns-in-Ok-clause-parsed : goal.returns-in-Ok-clause-parsed
returns-in-Ok-clause-parsed g c = by_rules t1check_all c.in_ok-command.ensures c.in-Ok.ensures.parsed

pub returns-in-Err-clause-refused : goal.returns-in-Err-clause-refused
returns-in-Err-clause-refused g c =
    (answered _ c.in-Err.error c.with_help.result (lit< tt)
    (subst (λ (a : App). AreRefused a (map g.S.AsStr.text c.args.words.now) c.in-Err.error) c.in_ok-command.ensures c.in-Err.ensures.refused) c.with_help.ensures).0

pub returns-in-Err-clause-help : goal.returns-in-Err-clause-help
returns-in-Err-clause-help g c =
    (answered _ c.in-Err.error c.with_help.result (lit< tt)
    (subst (λ (a : App). AreRefused a (map g.S.AsStr.text c.args.words.now) c.in-Err.error) c.in_ok-command.ensures c.in-Err.ensures.refused) c.with_help.ensures).1
