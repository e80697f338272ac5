use Rattle.std.proofs.Common.{◌^◌, ◌-◌, List, refl, subst, ◌∙◌, ap}
use Rattle.t1_io.specs.Devices.{Delivered, Delivers}
use Rattle.t1_io.proofs.SinkLemmas.{Delivers-failed}
use Rattle.std.specs.Option.{unwrap_or}
use Rattle.t1_report.specs.Checked.{checked}
use Rattle.t1_report.specs.Faults.{FaultValue}
use Rattle.t1_answer.specs.Answers.{status_of}
use Rattle.t1_answer.specs.Lines.{lines_of}
use Rattle.t1_answer.proofs.ChosenLines.{chosen_by, first_passed, lines_delivered, lines_unflushed}
use Rattle.t1_answer.proofs.lines.write_report.Goals as goal

pub returns-in_err-status-clause-delivers : goal.returns-in_err-status-clause-delivers
returns-in_err-status-clause-delivers g c faults report =
    let passed = first_passed c.marks_count_the_faults_given.ensures.start (checked c.args.font.now c.args.options.now.edition) c.args.waivers.now
    c.begin-walk.result c.args.options.now.after c.pass.new.walk.mark (c.begin-walk.ensures.font ∙ ap (checked c.args.font.now) c.requires.edition)
    c.begin-walk.ensures.waivers c.begin-walk.ensures.mark c.pass.ensures.passed faults report in
    subst (λ (fs : List FaultValue). Delivers (g.W.Sink.state c.args.sink.now) (g.W.Sink.state c.write_lines.new.sink)
    (lines_of c.args.font.now c.args.waivers.now fs) c.from_residual.result)
    (chosen_by c.marks_count_the_faults_given.ensures.start c.marks_count_the_faults_given.ensures.next c.marks_count_the_faults_given.ensures.rest
    (checked c.args.font.now c.args.options.now.edition) c.args.waivers.now faults c.args.options.now (unwrap_or c.args.options.now.max (2 ^ 64 - 1)) refl
    c.requires.few c.requires.few_waivers report)
    (Delivers-failed _ _ _ _ _ c.from_residual.ensures.1 (c.in_err-status.ensures.writes faults _ report passed))

pub returns-in_err-flush-clause-delivers : goal.returns-in_err-flush-clause-delivers
returns-in_err-flush-clause-delivers g c faults report =
    let passed = first_passed c.marks_count_the_faults_given.ensures.start (checked c.args.font.now c.args.options.now.edition) c.args.waivers.now
    c.begin-walk.result c.args.options.now.after c.pass.new.walk.mark (c.begin-walk.ensures.font ∙ ap (checked c.args.font.now) c.requires.edition)
    c.begin-walk.ensures.waivers c.begin-walk.ensures.mark c.pass.ensures.passed faults report in
    subst (λ (fs : List FaultValue). Delivers (g.W.Sink.state c.args.sink.now) (g.W.Sink.state c.flush.new.self)
    (lines_of c.args.font.now c.args.waivers.now fs) c.from_residual-in_err-flush.result)
    (chosen_by c.marks_count_the_faults_given.ensures.start c.marks_count_the_faults_given.ensures.next c.marks_count_the_faults_given.ensures.rest
    (checked c.args.font.now c.args.options.now.edition) c.args.waivers.now faults c.args.options.now (unwrap_or c.args.options.now.max (2 ^ 64 - 1)) refl
    c.requires.few c.requires.few_waivers report)
    (lines_unflushed _ _ _ _ _ _ c.from_residual-in_err-flush.ensures.1 (c.in_ok-status.ensures.writes faults _ report passed) c.in_err-flush.ensures.flushes)

pub returns-clause-delivers : goal.returns-clause-delivers
returns-clause-delivers g c faults report =
    let passed = first_passed c.marks_count_the_faults_given.ensures.start (checked c.args.font.now c.args.options.now.edition) c.args.waivers.now
    c.begin-walk.result c.args.options.now.after c.pass.new.walk.mark (c.begin-walk.ensures.font ∙ ap (checked c.args.font.now) c.requires.edition)
    c.begin-walk.ensures.waivers c.begin-walk.ensures.mark c.pass.ensures.passed faults report in
    subst (λ (fs : List FaultValue). Delivered (g.W.Sink.state c.args.sink.now) (g.W.Sink.state c.flush.new.self)
    (lines_of c.args.font.now c.args.waivers.now fs))
    (chosen_by c.marks_count_the_faults_given.ensures.start c.marks_count_the_faults_given.ensures.next c.marks_count_the_faults_given.ensures.rest
    (checked c.args.font.now c.args.options.now.edition) c.args.waivers.now faults c.args.options.now (unwrap_or c.args.options.now.max (2 ^ 64 - 1)) refl
    c.requires.few c.requires.few_waivers report)
    (lines_delivered _ _ _ _ (c.in_ok-status.ensures.writes faults _ report passed) c.in_ok-flush.ensures.flushes)

pub returns-clause-status : goal.returns-clause-status
returns-clause-status g c faults report =
    let passed = first_passed c.marks_count_the_faults_given.ensures.start (checked c.args.font.now c.args.options.now.edition) c.args.waivers.now
    c.begin-walk.result c.args.options.now.after c.pass.new.walk.mark (c.begin-walk.ensures.font ∙ ap (checked c.args.font.now) c.requires.edition)
    c.begin-walk.ensures.waivers c.begin-walk.ensures.mark c.pass.ensures.passed faults report in
    c.in_ok-status.ensures.status faults _ report passed
    ∙ ap (λ (fs : List FaultValue). status_of fs) (chosen_by c.marks_count_the_faults_given.ensures.start c.marks_count_the_faults_given.ensures.next
    c.marks_count_the_faults_given.ensures.rest (checked c.args.font.now c.args.options.now.edition) c.args.waivers.now faults c.args.options.now
    (unwrap_or c.args.options.now.max (2 ^ 64 - 1)) refl c.requires.few c.requires.few_waivers report)

pub write_lines-requires-clause-font : goal.write_lines-requires-clause-font
write_lines-requires-clause-font g c = c.pass.ensures.font ∙ c.begin-walk.ensures.font ∙ ap (checked c.args.font.now) c.requires.edition
