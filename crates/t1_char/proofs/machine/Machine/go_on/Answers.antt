use Rattle.t1_char.specs.AnswerViews.{answer_view}
use Rattle.t1_char.specs.Editions.{limit_of}
use Rattle.t1_char.specs.Steps.{steps_of}
use Rattle.t1_char.proofs.Advancing.{asked_numbers}
use Rattle.t1_char.proofs.machine.Machine.go_on.Goals as goal

pub returns-clause-asked : goal.returns-clause-asked
returns-clause-asked c =
    let m = c.args.self.now in
    asked_numbers c.args.numbers c.passing_of.result (limit_of m.edition) (steps_of m.font m.glyph) m.counted c.go_far-far.new.self.counted
    (answer_view c.go_far-far.result.answer c.go_far-far.new.self.step) c.go_far-far.result.way c.passing_of.ensures.leads c.passing_of.ensures.returned
    c.go_far-far.ensures.asked
