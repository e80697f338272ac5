use Rattle.std.proofs.Common.{◌≡◌, ◌∙◌, ◌+◌, List, length, ap, arith, refl, subst, sym}
use Rattle.t1_font.specs.Fonts.{FontValue}
use Rattle.t1_pieces.proofs.GivenLines.{at_walk, is_full, line_length, none_given, one_given}
use Rattle.t1_pieces.proofs.filling.fill_from.Goals as goal
use Rattle.t1_pieces.specs.Forms.{line_as}
use Rattle.t1_pieces.specs.Pieces.{AreGiven}
use Rattle.t1_pieces.specs.Reading.{Input}
use Rattle.t1_pieces.specs.declared.form.Form.{Form}
use Rattle.t1_report.specs.Checked.{CheckedFont}
use Rattle.t1_report.specs.Faults.{fault_value}
use Rattle.t1_report.specs.Lines.{IsInFont}
use Rattle.t1_report.specs.WalkViews.{WalkView}
use Rattle.t1_report.specs.Waivers.{Waiver}
use Rattle.t1_report.specs.Walks.{HasNoneLater, IsNext}
use Rattle.t1_report.specs.declared.marks.Mark.{Mark}

pub loop-fault-init : goal.loop-fault-init
loop-fault-init c = record {
  font = refl;
  waivers = c.requires.waivers;
  mark = c.requires.mark;
  kept = refl;
  form = refl;
  reasons = c.requires.reasons;
  given = none_given c.args.writer.now.form (record { font = c.args.walk.font; waivers = c.args.waivers.now }) c.args.mark.now c.args.room.now;
  size = refl;
  start = λ _. refl;
}

pub returns-in_default-clause-piece : goal.returns-in_default-clause-piece
returns-in_default-clause-piece c = (
  c.loop-fault.invariant.given,
  at_walk (λ (f : CheckedFont) (w : List Waiver) (m : Mark). HasNoneLater f w m) _ _ _ _ _ _ c.loop-fault.invariant.font
      c.loop-fault.invariant.waivers c.loop-fault.invariant.mark c.in_default.ensures.next,
)

pub set_line-requires-clause-in_font : goal.set_line-requires-clause-in_font
set_line-requires-clause-in_font c =
    subst (λ (w : List Waiver). IsInFont c.args.font.now w (fault_value c.in-Some.fault)) c.loop-fault.invariant.waivers
    (subst (λ (v : FontValue). IsInFont v c.loop-fault.walk.waivers (fault_value c.in-Some.fault))
    (ap (λ (f : CheckedFont). f.value) c.loop-fault.invariant.font ∙ c.requires.font) c.in-Some.ensures.in_font)

pub overflow_sub-room : goal.overflow_sub-room
overflow_sub-room c =
    let within = c.loop-fault.invariant.given.within in
    omega (arith, within)

pub set_line-requires-clause-font : goal.set_line-requires-clause-font
set_line-requires-clause-font c = ap (λ (f : CheckedFont). f.value) c.loop-fault.invariant.reasons ∙ c.requires.font

pub returns-in_default-set_line-clause-piece : goal.returns-in_default-set_line-clause-piece
returns-in_default-set_line-clause-piece c = c.loop-fault.invariant.kept

pub returns-then-line-room-clause-piece : goal.returns-then-line-room-clause-piece
returns-then-line-room-clause-piece c =
    let form = c.args.writer.now.form in
    let font = c.args.walk.font in
    let waivers = c.args.waivers.now in
    let fault = fault_value c.in-Some.fault in
    is_full form (record { font = font; waivers = waivers }) c.args.mark.now c.loop-fault.reached c.loop-fault.room c.as_bytes-line.result.now
    c.loop-fault.used fault c.full.result c.loop-fault.invariant.given c.loop-fault.invariant.start
    (at_walk (λ (f : CheckedFont) (w : List Waiver) (m : Mark). IsNext f w m fault) _ _ _ _ _ _ c.loop-fault.invariant.font
    c.loop-fault.invariant.waivers c.loop-fault.invariant.mark c.in-Some.ensures.next)
    (c.as_bytes-line.ensures ∙ c.in-Ok.ensures.line
    ∙ ap (λ (f : Form). line_as f c.loop-fault.writer.reasons waivers fault) c.loop-fault.invariant.form
    ∙ ap (λ (r : CheckedFont). line_as form r waivers fault) c.loop-fault.invariant.reasons)
    c.if-line-room.true c.full.ensures.none c.full.ensures.some

pub loop-fault-smaller : goal.loop-fault-smaller
loop-fault-smaller c =
    let form = c.args.writer.now.form in
    let font = c.args.walk.font in
    let waivers = c.args.waivers.now in
    let fault = fault_value c.in-Some.fault in
    let is : c.as_bytes-line.result.now ≡ line_as form font waivers fault =
    c.as_bytes-line.ensures ∙ c.in-Ok.ensures.line
    ∙ ap (λ (f : Form). line_as f c.loop-fault.writer.reasons waivers fault) c.loop-fault.invariant.form
    ∙ ap (λ (r : CheckedFont). line_as form r waivers fault) c.loop-fault.invariant.reasons in
    let count : length c.as_bytes-line.result.now ≡ length (line_as form font waivers fault) = ap length is in
    let some = line_length form font waivers fault in
    let fits = c.if-line-room.false in
    let same = c.put_after.ensures.length in
    omega (arith, count, some, fits, same)

pub loop-fault-preserved : goal.loop-fault-preserved
loop-fault-preserved c =
    let form = c.args.writer.now.form in
    let font = c.args.walk.font in
    let waivers = c.args.waivers.now in
    let input : Input = record { font = font; waivers = waivers } in
    let fault = fault_value c.in-Some.fault in
    let is : c.as_bytes-line.result.now ≡ line_as form font waivers fault =
    c.as_bytes-line.ensures ∙ c.in-Ok.ensures.line
    ∙ ap (λ (f : Form). line_as f c.loop-fault.writer.reasons waivers fault) c.loop-fault.invariant.form
    ∙ ap (λ (r : CheckedFont). line_as form r waivers fault) c.loop-fault.invariant.reasons in
    let count : length c.as_bytes-line.result.now ≡ length (line_as form font waivers fault) = ap length is in
    let some = line_length form font waivers fault in
    let fits = c.if-line-room.false in
    let within = c.loop-fault.invariant.given.within in
    let same = c.put_after.ensures.length in
    record {
      font = ap (λ (w : WalkView). w.font) c.in-Some.ensures.state ∙ c.loop-fault.invariant.font;
      waivers = ap (λ (w : WalkView). w.waivers) c.in-Some.ensures.state ∙ c.loop-fault.invariant.waivers;
      mark = sym c.mark-reached.ensures;
      kept = c.loop-fault.invariant.kept;
      form = c.in-Ok.ensures.form ∙ c.loop-fault.invariant.form;
      reasons = c.in-Ok.ensures.reasons ∙ c.loop-fault.invariant.reasons;
      given = subst (λ (m : Mark). AreGiven form input c.args.mark.now m c.put_after.new.room
          (c.loop-fault.used + length c.as_bytes-line.result.now))
          (sym (c.mark-reached.ensures ∙ ap (λ (w : WalkView). w.mark) c.in-Some.ensures.state))
          (one_given form input c.args.mark.now c.loop-fault.reached c.loop-fault.room c.put_after.new.room c.as_bytes-line.result.now
          c.loop-fault.used fault c.loop-fault.invariant.given
          (at_walk (λ (f : CheckedFont) (w : List Waiver) (m : Mark). IsNext f w m fault) _ _ _ _ _ _ c.loop-fault.invariant.font
          c.loop-fault.invariant.waivers c.loop-fault.invariant.mark c.in-Some.ensures.next)
          is c.put_after.ensures.text (omega (arith, fits, within, same)));
      size = c.put_after.ensures.length ∙ c.loop-fault.invariant.size;
      start = λ none. absurd (omega (arith, none, count, some));
    }
