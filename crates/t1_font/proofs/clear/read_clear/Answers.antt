use Rattle.std.proofs.Common.{sym}
use Rattle.t1_font.specs.FontFiles.{marks_in}
use Rattle.t1_seal.specs.Joined.{joined_text}
use Rattle.t1_font.proofs.Reading.{clear_ends, clear_is_behind, clear_is_no_font, clear_is_read, clear_is_refused, is_no_longer}
use Rattle.t1_font.proofs.clear.read_clear.Goals as goal

pub returns-then-not-begins_as_font-clause-gives : goal.returns-then-not-begins_as_font-clause-gives
returns-then-not-begins_as_font-clause-gives c = clear_is_no_font (marks_in (joined_text c.args.joined.now)) _ _ c.as_slice-text.ensures.value
    (sym c.if-not-begins_as_font.ensures)

pub returns-in-Err-clause-gives : goal.returns-in-Err-clause-gives
returns-in-Err-clause-gives c = clear_is_refused (marks_in (joined_text c.args.joined.now)) _ _ _ _ c.as_slice-text.ensures.value c.new-font.ensures
    (sym c.if-not-begins_as_font.ensures) c.in-Err.ensures

pub overflow_sub-after : goal.overflow_sub-after
overflow_sub-after c = is_no_longer _ _ (clear_ends _ _ _ _ c.in-Ok.ensures)

pub returns-clause-gives : goal.returns-clause-gives
returns-clause-gives c = clear_is_read (marks_in (joined_text c.args.joined.now)) _ _ _ _ _ c.as_slice-text.ensures.value c.new-font.ensures
    (sym c.if-not-begins_as_font.ensures) c.in-Ok.ensures

pub returns-clause-behind : goal.returns-clause-behind
returns-clause-behind c = λ found is. clear_is_behind (marks_in (joined_text c.args.joined.now)) _ _ _ _ _ c.as_slice-text.ensures.value c.new-font.ensures
    (sym c.if-not-begins_as_font.ensures) c.in-Ok.ensures found is
