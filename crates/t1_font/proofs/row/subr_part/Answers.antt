use Rattle.std.proofs.Common.{refl, sym, ◌∙◌}
use Rattle.t1_font.proofs.Entries.{subr_entry, subr_word}
use Rattle.t1_font.proofs.row.subr_part.Goals as goal

pub returns-then-is_word : goal.returns-then-is_word
returns-then-is_word c = λ s is.
    subr_entry s _ _ _ _ _ _ is (sym c.is_word.ensures ∙ c.if-is_word.true) c.in_ok-number.ensures c.in-Ok.ensures c.in-Ok-charstring_with_word.ensures.read
    c.in-Ok-charstring_with_word.ensures.word refl refl

pub returns-then-is_any_word : goal.returns-then-is_any_word
returns-then-is_any_word c = λ s is.
    subr_word s _ is (sym c.is_any_word.ensures ∙ c.if-is_any_word.true) (sym c.is_word.ensures ∙ c.if-is_word.false)
