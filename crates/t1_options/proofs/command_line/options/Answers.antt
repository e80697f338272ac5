use Rattle.std.proofs.Common.{List, subst}
use Rattle.std.proofs.lemmas.Result.{IfErr-weaker}
use Rattle.clap.specs.Words.{Row}
use Rattle.t1_options.specs.Settings.Finding.{system_by}
use Rattle.t1_options.specs.Given.{given_in}
use Rattle.t1_options.specs.Words.{AsksNothing}
use Rattle.t1_options.specs.Words.IsRefused.{by_meaning}
use Rattle.t1_options.proofs.command_line.options.Goals as goal

pub returns-clause-refused : goal.returns-clause-refused
returns-clause-refused g c =
    let parsed = c.in_ok-matches.ensures.parsed in
    IfErr-weaker c.request_of.result _ _ (λ error nothing.
    by_meaning parsed.sound (subst
    (λ (rows : List Row). AsksNothing (system_by g.F.FileSystem.asks c.args.files.now c.request_of.new.files) (given_in rows) error)
    parsed.rows nothing)) c.request_of.ensures.wrong
