use Rattle.std.proofs.Common.{List, Option, None, Some, refl, subst, sym, ℕ}
use Rattle.t1_font.specs.Fonts.{FontValue}
use Rattle.t1_many.proofs.ReasonLines.{both_put, half_put}
use Rattle.t1_many.proofs.ReportLines.{lost_same}
use Rattle.t1_many.proofs.plain.PlainPrinter.line.Goals as goal
use Rattle.t1_many.specs.Handing.{lost_of}
use Rattle.t1_many.specs.Plain.{IsLinePut, IsPut, fault_text, named}
use Rattle.t1_many.specs.Reasons.{told_text}
use Rattle.t1_many.specs.declared.policy.Lost.{Lost}
use Rattle.t1_reason_texts.specs.Texts.{line_behind}
use Rattle.t1_report.specs.Faults.{fault_value}
use Rattle.t1_report.specs.Lines.{line_of}

pub returns-in_err-put_line-clause-took : goal.returns-in_err-put_line-clause-took
returns-in_err-put_line-clause-took g c =
    let fault = fault_value c.args.fault.now in
    let before = g.W.Sink.state c.args.self.now.streams.out in
    let behind = g.W.Sink.state c.put_line.new.sink in
    let lost = c.in_err-put_line.field-0.0 in (
      refl,
      (
        subst (λ (l : Option Lost). IsLinePut before behind
            (fault_text c.args.self.now.reasons c.args.name.now c.args.reasons.now c.args.waivers.now fault) l)
            (sym (lost_same {T = Unit {0}} c.from_residual-in_err-put_line.result lost c.from_residual-in_err-put_line.ensures.1))
            (half_put before behind (named c.args.name.now (line_of c.args.reasons.now.value c.args.waivers.now fault))
            (line_behind (told_text c.args.self.now.reasons c.args.reasons.now c.args.waivers.now fault)) lost
            (subst (λ (f : FontValue). IsPut before behind (named c.args.name.now (line_of f c.args.waivers.now fault)) (Some lost))
            (sym c.requires.font) c.in_err-put_line.ensures)),
        refl,
      ),
    )

pub returns-clause-took : goal.returns-clause-took
returns-clause-took g c =
    let fault = fault_value c.args.fault.now in
    let before = g.W.Sink.state c.args.self.now.streams.out in
    let between = g.W.Sink.state c.put_line.new.sink in
    let behind = g.W.Sink.state c.put_behind.new.sink in (
      refl,
      (
        both_put before between (named c.args.name.now (line_of c.args.reasons.now.value c.args.waivers.now fault))
            (line_behind (told_text c.args.self.now.reasons c.args.reasons.now c.args.waivers.now fault)) behind (lost_of c.put_behind.result)
            (subst (λ (f : FontValue). IsPut before between (named c.args.name.now (line_of f c.args.waivers.now fault)) None)
            (sym c.requires.font) c.in_ok-put_line.ensures)
            (subst (λ (text : Option (List ℕ)). IsPut between behind (line_behind text) (lost_of c.put_behind.result)) c.in_ok-text.ensures.text
            c.put_behind.ensures),
        refl,
      ),
    )
