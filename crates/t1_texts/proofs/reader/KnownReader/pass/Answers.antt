use Rattle.std.proofs.Common.{sym, ◌∙◌}
use Rattle.t1_font.specs.Rows.{token_in_row}
use Rattle.t1_texts.proofs.Looking.{still_reads}
use Rattle.t1_texts.proofs.reader.KnownReader.pass.Goals as goal

pub returns-else-names : goal.returns-else-names
returns-else-names c before reads =
    rw c.in-Some.is
    (still_reads c.in-Some.word.now before (token_in_row c.args.token.now) (rw c.in-Some.is at reads) (sym c.names.ensures ∙ c.if-names.false))
