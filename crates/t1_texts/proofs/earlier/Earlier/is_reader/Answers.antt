use Rattle.std.proofs.Common.{sym, ◌∙◌}
use Rattle.t1_texts.specs.Private.Watching.{tokens_before}
use Rattle.t1_texts.proofs.Looking.{reads_end, reads_from_start, reads_more, reads_no_more}
use Rattle.t1_texts.proofs.earlier.Earlier.is_reader.Goals as goal

pub tokens-init : goal.tokens-init
tokens-init c = reads_from_start c.args.word.now (tokens_before c.args.self)

pub returns-in_default : goal.returns-in_default
returns-in_default c = reads_no_more _ _ _ _ _ (sym c.in_default.ensures.first) ∙ c.tokens.invariant

pub tokens-preserved : goal.tokens-preserved
tokens-preserved c =
    rw (c.names-is_name.ensures, c.reads_on.ensures)
    (reads_more _ _ _ _ _ _ _ (sym c.in-Some.ensures.first) c.in-Some.ensures.rest c.tokens-test.true ∙ c.tokens.invariant)

pub returns : goal.returns
returns c = reads_end _ _ _ _ _ c.tokens-test.false ∙ c.tokens.invariant
