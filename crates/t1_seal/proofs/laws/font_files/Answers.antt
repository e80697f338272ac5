use Rattle.t1_seal.proofs.ReadRows.{joined_pfa_is_written, joined_pfb_is_written}
use Rattle.t1_seal.proofs.WrittenRows.{joins_pfa, joins_written_pfb}
use Rattle.t1_seal.proofs.laws.font_files.Goals as goal

pub returns-clause-pfb_read : goal.returns-clause-pfb_read
returns-clause-pfb_read c = joins_written_pfb

pub returns-clause-pfb_written : goal.returns-clause-pfb_written
returns-clause-pfb_written c = joined_pfb_is_written

pub returns-clause-pfa_read : goal.returns-clause-pfa_read
returns-clause-pfa_read c = joins_pfa

pub returns-clause-pfa_written : goal.returns-clause-pfa_written
returns-clause-pfa_written c = joined_pfa_is_written
