use Rattle.std.proofs.Common.{◌≡◌, List, false, subst, ℕ}
use Rattle.t1_options.proofs.Judged.{told_so}
use Rattle.t1_options.specs.Settings.Finding.{system_by}
use Rattle.t1_options.specs.Given.{GivenValue, given_value}
use Rattle.t1_options.specs.Words.{AreWrong, AsksNothing}
use Rattle.t1_options.proofs.command_line.request_of.Goals as goal

pub returns-in-Err-clause-wrong : goal.returns-in-Err-clause-wrong
returns-in-Err-clause-wrong g c =
    let files = system_by g.F.FileSystem.asks c.args.files.now c.options_asked.new.files in
    let given = given_value c.given_in-given.result in
    subst (λ (given : GivenValue). AsksNothing files given c.in-Err.error) c.given_in-given.ensures (record {
      no_version = c.if-given.false;
      wrong = told_so (AreWrong files given) (λ (told : List ℕ). (given.explain ≡ false) × AreWrong files given told) c.in-Err.error
          (λ told is. (c.if-given-2.false, is)) c.in-Err.ensures.wrong;
    })
