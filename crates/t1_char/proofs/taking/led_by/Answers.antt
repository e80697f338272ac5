use Rattle.std.proofs.Common.{IfSome, subst, sym}
use Rattle.t1_char.specs.Private.Taking.{IsLedFirst}
use Rattle.t1_char.proofs.TakenLines.{line_first}
use Rattle.t1_char.proofs.taking.led_by.Goals as goal

pub returns-clause-led : goal.returns-clause-led
returns-clause-led c =
    subst (λ first. IfSome c.line_at.result (λ one. IsLedFirst c.args.passing c.args.way.drawn first c.args.numbers.now one)) (sym c.in-Some.is)
    (line_first c.args.passing c.args.way.drawn c.in-Some.first c.args.numbers.now c.line_at.result c.requires.leads c.requires.unclosed
    c.line_at.ensures.line c.line_at.ensures.more)
