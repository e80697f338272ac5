use Rattle.std.proofs.Common.{refl}
use Rattle.t1_seal.specs.Eexec.{is_blank}
use Rattle.t1_font.proofs.laws.blanks_of_sections_and_tokens.Goals as goal

pub returns : goal.returns
unfolding is_blank
returns c = λ b. refl
