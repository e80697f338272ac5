use Rattle.t1_answer_all.proofs.answering.answer.Goals as goal

pub returns : goal.returns
returns g c = record {
  told = g.E.Sink.state c.answer_words-answered.result.output.errors;
  before = c.answer_words-answered.result.value;
  answers = c.answer_words-answered.ensures;
  flushes = c.flush_last-value.ensures;
}
