use Rattle.t1_font.proofs.BrokenRead.{unclosed_token}
use Rattle.t1_font.proofs.refusal_laws.unclosed_tokens.Goals as goal

pub returns : goal.returns
returns c = unclosed_token
