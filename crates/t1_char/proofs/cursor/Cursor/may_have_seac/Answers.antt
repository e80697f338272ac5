use Rattle.std.proofs.Common.{sym, ◌∙◌}
use Rattle.t1_char.proofs.SeacBytes.{none_left}
use Rattle.t1_char.proofs.cursor.Cursor.may_have_seac.Goals as goal

pub returns : goal.returns
returns c = λ none. none_left c.args.self.now (sym c.has_pair.ensures ∙ none)
