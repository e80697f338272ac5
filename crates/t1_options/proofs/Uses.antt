-- Options that are given twice, as clap's rules read them.
use Rattle.std.proofs.Common.{refl}
use Rattle.clap.proofs.OnLiterals.{clap_on_literals}
use Rattle.t1_options.specs.CommandLine.{t1check_all}
use Rattle.t1_options.specs.Laws.{UsesCount}

pub uses_count : UsesCount
unfolding clap_on_literals t1check_all
uses_count = record {
  edition = λ first last. refl;
  baseline = λ first last. refl;
  shard = λ first last. refl;
  format = λ first last. refl;
  docs = λ first last. refl;
  only = λ first last. refl;
  except = λ first last. refl;
  level = λ first last. refl;
  fail_on = λ first last. refl;
  files_from = λ first last. refl;
  exclude = λ first last. refl;
}
