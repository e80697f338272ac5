use Rattle.std.proofs.lemmas.Result.{err_from_is_err_and}
use Rattle.t1_seal.specs.Joined.{joined_text}
use Rattle.t1_font.proofs.FileRead.{font_found, no_clear, no_font, no_section}
use Rattle.t1_font.proofs.open_font.read_texts.Goals as goal

pub returns-clause-gives : goal.returns-clause-gives
returns-clause-gives c =
    rw (c.with_texts.ensures, c.split_at.ensures.front, c.after.ensures, c.as_slice.ensures.value, c.as_slice-private_text.ensures.value)
    (font_found (joined_text c.args.joined.now) c.in_ok-clear.clear c.in_ok-clear.ensures.gives c.in_ok-clear.ensures.behind
    c.in-Ok.private.items c.in_ok-font.font (rw (c.split_at.ensures.back, c.as_slice.ensures.value, c.after.ensures) at c.in-Ok.ensures)
    (rw c.as_slice-private_text.ensures.value at c.in_ok-font.ensures.stated))

pub returns-in_err-clear-clause-gives : goal.returns-in_err-clear-clause-gives
returns-in_err-clear-clause-gives c =
    let p = err_from_is_err_and c.from_residual.result c.from_residual.ensures.1 in
    rw (p.1, p.2) (no_clear (joined_text c.args.joined.now) _ c.in_err-clear.ensures.gives)

pub returns-in-Err-clause-gives : goal.returns-in-Err-clause-gives
returns-in-Err-clause-gives c =
    rw c.from.ensures
    (no_section (joined_text c.args.joined.now) c.in_ok-clear.clear c.in_ok-clear.ensures.gives c.in_ok-clear.ensures.behind _
    (rw (c.split_at.ensures.back, c.as_slice.ensures.value, c.after.ensures) at c.in-Err.ensures))

pub returns-in_err-font-clause-gives : goal.returns-in_err-font-clause-gives
returns-in_err-font-clause-gives c =
    let p = err_from_is_err_and c.from_residual-in_err-font.result c.from_residual-in_err-font.ensures.1 in
    rw (p.1, p.2)
    (no_font (joined_text c.args.joined.now) c.in_ok-clear.clear c.in_ok-clear.ensures.gives c.in_ok-clear.ensures.behind
    c.in-Ok.private.items (rw (c.split_at.ensures.back, c.as_slice.ensures.value, c.after.ensures) at c.in-Ok.ensures) _
    (rw c.as_slice-private_text.ensures.value at c.in_err-font.ensures.stated))
