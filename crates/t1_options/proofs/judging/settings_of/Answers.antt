use Rattle.std.proofs.Common.{List, Option, option_map, subst, ℕ}
use Rattle.std.proofs.lemmas.Result.{IfErr-weaker, IfOk-weaker}
use Rattle.t1_options.proofs.Judged.{told_so}
use Rattle.t1_options.specs.Given.{given_value}
use Rattle.t1_options.specs.Settings.Finding.{AreSettled, AreUnsettled, system_by}
use Rattle.t1_options.specs.Settings.Reading.{settings_value}
use Rattle.t1_options.specs.Words.{AreUnfound}
use Rattle.t1_options.specs.Words.AreFound.{wanted}
use Rattle.t1_options.proofs.judging.settings_of.Goals as goal

pub returns-clause-found : goal.returns-clause-found
returns-clause-found g c =
    let files = system_by g.F.FileSystem.asks c.args.files.now c.settings_for.new.files in
    IfOk-weaker c.settings_for.result _ _ (λ settings settled.
    wanted c.if-given.false
    (subst (λ (path : Option (List ℕ)). AreSettled files path (option_map settings_value settings)) c.first_path.ensures settled))
    c.settings_for.ensures.settled

pub returns-clause-unfound : goal.returns-clause-unfound
returns-clause-unfound g c =
    let files = system_by g.F.FileSystem.asks c.args.files.now c.settings_for.new.files in
    IfErr-weaker c.settings_for.result _ _ (λ error unsettled.
    told_so (AreUnsettled files (option_map (λ s. s.now) c.first_path.result)) (AreUnfound files (given_value c.args.given.now)) error
    (λ told is. record {
      wanted = c.if-given.false;
      unsettled = subst (λ (path : Option (List ℕ)). AreUnsettled files path told) c.first_path.ensures is;
    }) unsettled) c.settings_for.ensures.unsettled
