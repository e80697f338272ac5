use Rattle.std.proofs.Common.{refl, sym, ◌∙◌}
use Rattle.std.proofs.Math.Bool.{and-false}
use Rattle.t1_words.specs.Words.{wants_definition}
use Rattle.t1_texts.specs.Private.Watching.{tokens_before}
use Rattle.t1_texts.proofs.Looking.{kept_is_given}
use Rattle.t1_texts.proofs.given.GivenWords.is_unknown.Goals as goal

pub returns-then-has-clause-is : goal.returns-then-has-clause-is
returns-then-has-clause-is c =
    let given = kept_is_given c.args.self.now.words.items c.args.token.now.token.text.now (tokens_before c.args.earlier) c.requires (sym c.has.ensures ∙ c.if-has.true) in
    rw (c.if-is_found.false, sym given) (sym (and-false (wants_definition c.args.token.now.token.kind c.args.token.now.token.text.now)))
