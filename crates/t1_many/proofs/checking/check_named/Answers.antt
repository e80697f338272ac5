use Rattle.std.proofs.Common.{Some, ap, refl, sym, ◌∙◌}
use Rattle.t1_many.proofs.Opened.{has_none, named_by, was_asked}
use Rattle.t1_many.proofs.checking.check_named.Goals as goal
use Rattle.t1_many.specs.Calls.{opened_in}
use Rattle.t1_many.specs.Files.ChecksIn.{cannot_open, cannot_open_waivers, no_line, with_waivers, without_waivers}

pub returns-then-has_line_end : goal.returns-then-has_line_end
returns-then-has_line_end g c = (no_line (sym c.has_line_end.ensures ∙ c.if-has_line_end.true) refl refl, refl)

pub returns-in-Err : goal.returns-in-Err
returns-in-Err g c =
    rw c.of.ensures (cannot_open (sym c.has_line_end.ensures ∙ c.if-has_line_end.false) _ c.in-Err.ensures.opens refl, refl)

pub returns-in-None : goal.returns-in-None
returns-in-None g c =
    rw c.or_error.ensures
    (named_by g.T.Policy.takes g.F.FontFiles.calls c.args.beside c.args.edition c.args.name.now _ _ _ _ _ c.check_opened-taken.result
    (λ outcome found. without_waivers (sym c.has_line_end.ensures ∙ c.if-has_line_end.false) _ _ _ _ _ _ c.in-Ok.ensures.opens
    (has_none g.F.FontFiles.calls _ c.args.name.now _ _ _ refl (rw c.asks.ensures at c.in-None.ensures.asks))
    c.leave_font.ensures c.check_opened-taken.ensures.font found)
    c.check_opened-taken.ensures.checks)

pub returns-in-Some-Ok : goal.returns-in-Some-Ok
returns-in-Some-Ok g c =
    let asked = was_asked g.F.FontFiles.calls _ c.args.name.now _ _ _ _
    (ap (λ (opened : _). Some (opened_in g.F.Waivers.Source.state opened)) c.in-Some-Ok.field-0-is) (rw c.asks.ensures at c.in-Some-Ok.ensures.asks) in
    rw c.or_error-in-Some-Ok.ensures
    (named_by g.T.Policy.takes g.F.FontFiles.calls c.args.beside c.args.edition c.args.name.now _ _ _ _ _ c.check_opened-taken-in-Some-Ok.result
    (λ outcome found. with_waivers (sym c.has_line_end.ensures ∙ c.if-has_line_end.false) _ _ _ _ _ _ _ c.in-Ok.ensures.opens asked.0 asked.1
    c.leave_font-in-Some-Ok.ensures c.leave_waivers.ensures
    c.check_opened-taken-in-Some-Ok.ensures.font c.check_opened-taken-in-Some-Ok.ensures.waivers found)
    c.check_opened-taken-in-Some-Ok.ensures.checks)

pub returns-in-Some-Err : goal.returns-in-Some-Err
returns-in-Some-Err g c =
    let asked = was_asked g.F.FontFiles.calls _ c.args.name.now _ _ _ _
    (ap (λ (opened : _). Some (opened_in g.F.Waivers.Source.state opened)) c.in-Some-Err.field-0-is) (rw c.asks.ensures at c.in-Some-Err.ensures.asks) in
    rw c.of-in-Some-Err.ensures (
      cannot_open_waivers (sym c.has_line_end.ensures ∙ c.if-has_line_end.false) _ _ _ c.in-Ok.ensures.opens asked.0 _ asked.1
          c.leave_font-in-Some-Err.ensures refl,
      refl,
    )
