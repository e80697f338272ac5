use Rattle.std.proofs.Common.{length}
use Rattle.std.proofs.lemmas.Bool.{eqb-true}
use Rattle.t1_char.proofs.LastsAhead.{none_behind}
use Rattle.t1_char.proofs.cursor.Cursor.is_empty.Goals as goal

pub returns-then-not-self : goal.returns-then-not-self
returns-then-not-self c = λ none. none_behind c.args.self.now c.if-not-self.true (eqb-true (length c.args.self.now.left.now) 0 none)
