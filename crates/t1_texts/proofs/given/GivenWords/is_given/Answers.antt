use Rattle.std.proofs.Common.{sym, ◌∙◌}
use Rattle.t1_texts.specs.Private.Watching.{tokens_before}
use Rattle.t1_texts.proofs.Looking.{kept_is_given}
use Rattle.t1_texts.proofs.given.GivenWords.is_given.Goals as goal

pub returns-then-has-clause-is : goal.returns-then-has-clause-is
returns-then-has-clause-is c = kept_is_given c.args.self.now.words.items c.args.word.now (tokens_before c.args.earlier) c.requires (sym c.has.ensures ∙ c.if-has.true)
