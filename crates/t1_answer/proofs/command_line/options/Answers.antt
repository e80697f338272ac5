use Rattle.std.proofs.Common.{map, refl, subst, sym}
use Rattle.t1_run.specs.Words.{IsPlainApp}
use Rattle.t1_run.proofs.Commands.{by_rules}
use Rattle.t1_answer.specs.CommandLine.{t1check}
use Rattle.t1_answer.proofs.command_line.options.Goals as goal

-- no argument excludes anything, and each has an id of its own
plain : IsPlainApp t1check
unfolding t1check
plain = record { own = refl; distinct = refl; plain = refl; negates = refl; simple = refl; free = refl; leaf = refl; alone = refl }

pub parse-requires : goal.parse-requires
parse-requires g c = record { plain = subst IsPlainApp (sym c.in_ok-command.ensures) plain }

pub options_in-requires : goal.options_in-requires
options_in-requires g c = (map g.S.AsStr.text c.args.words.now, by_rules t1check c.in_ok-command.ensures c.in_ok-matches.ensures.parsed)

pub returns-clause-taken : goal.returns-clause-taken
returns-clause-taken g c = c.in_ok-options_in.ensures _ (by_rules t1check c.in_ok-command.ensures c.in_ok-matches.ensures.parsed)
