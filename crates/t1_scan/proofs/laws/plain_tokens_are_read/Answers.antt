use Rattle.t1_scan.proofs.TextsRead.{reads_token}
use Rattle.t1_scan.proofs.laws.plain_tokens_are_read.Goals as goal

pub returns : goal.returns
returns c = reads_token
