use Rattle.t1_seal.proofs.WrittenSections.{opens_binary, opens_hexadecimal}
use Rattle.t1_seal.proofs.laws.eexec_sections.Goals as goal

pub returns-clause-hexadecimal : goal.returns-clause-hexadecimal
returns-clause-hexadecimal c = opens_hexadecimal

pub returns-clause-binary : goal.returns-clause-binary
returns-clause-binary c = opens_binary
