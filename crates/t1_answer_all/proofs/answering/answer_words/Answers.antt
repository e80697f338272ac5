use Rattle.std.proofs.Common.{refl}
use Rattle.t1_answer_all.proofs.answering.answer_words.Goals as goal
use Rattle.t1_answer_all.specs.Answers.AnswersWords.{checks, explained, explains_pages, gives_version}

pub returns-in-Ok-Check : goal.returns-in-Ok-Check
returns-in-Ok-Check g c = checks c.in-Ok-Check.options c.options.new.files (rw c.in-Ok-Check.field-0-is at c.in-Ok-Check.ensures.taken) c.check.ensures

pub returns-in-Ok-Explain : goal.returns-in-Ok-Explain
returns-in-Ok-Explain g c = explains_pages c.in-Ok-Explain.codes (rw c.in-Ok-Explain.field-0-is at c.in-Ok-Explain.ensures.taken)
    (rw c.as_slice.ensures.value at c.explain_pages-value.ensures) refl

pub returns-in-Ok-Version : goal.returns-in-Ok-Version
returns-in-Ok-Version g c = gives_version (rw c.in-Ok-Version.field-0-is at c.in-Ok-Version.ensures.taken) c.give-value.ensures refl

pub returns-in-Err : goal.returns-in-Err
returns-in-Err g c = explained c.in-Err.error c.in-Err.ensures.refused c.explain-value.ensures refl
