-- What options on rules name.
use Rattle.std.specs.Prelude.{◌≡◌, map, string_bytes}
use Rattle.t1_options.specs.Choices.{codes_of, words_of}
use Rattle.t1_options.specs.Given.{GivenValue}
use Rattle.t1_options.specs.declared.checks.Named.{Named}

-- The codes and the levels that the given values name.
pub record AreNamed (given : GivenValue) (named : Named) : Type 0 where
  pub only : map string_bytes named.only.items ≡ codes_of given.only
  pub except : map string_bytes named.except.items ≡ codes_of given.except
  pub level : map string_bytes named.level.items ≡ words_of given.level
  pub fail_on : map string_bytes named.fail_on.items ≡ words_of given.fail_on
