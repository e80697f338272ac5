use Rattle.std.proofs.Common.{option_map}
use Rattle.std.proofs.lemmas.Result.{IfErr-weaker, IfOk-weaker}
use Rattle.t1_options.proofs.Judged.{told_so}
use Rattle.t1_options.specs.Settings.Finding.{AreUnsettled, IsWrongAt, system_by}
use Rattle.t1_options.proofs.settings.finding.settings_for.Goals as goal

pub returns-clause-settled : goal.returns-clause-settled
returns-clause-settled g c =
    IfOk-weaker c.nearest.result _ _ (λ settings are. record {
      start = c.start_of-start.result.now;
      between = c.start_of-start.new.files;
      begins = c.start_of-start.ensures;
      nearest = are;
    }) c.nearest.ensures.nearest

pub returns-clause-unsettled : goal.returns-clause-unsettled
returns-clause-unsettled g c =
    let asks = g.F.FileSystem.asks in
    IfErr-weaker c.nearest.result _ _ (λ error wrong.
    told_so (IsWrongAt asks c.start_of-start.new.files c.nearest.new.files c.start_of-start.result.now)
    (AreUnsettled (system_by asks c.args.files.now c.nearest.new.files) (option_map (λ s. s.now) c.args.path)) error
    (λ told is. record {
      start = c.start_of-start.result.now;
      between = c.start_of-start.new.files;
      begins = c.start_of-start.ensures;
      wrong = is;
    }) wrong) c.nearest.ensures.wrong
