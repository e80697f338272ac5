use Rattle.t1_pieces.proofs.DocumentLaws.{calls_end, fit, joined}
use Rattle.t1_pieces.proofs.laws.pieces_are_the_document.Goals as goal

pub returns-clause-joined : goal.returns-clause-joined
returns-clause-joined c =
    joined c.marks_count_the_faults_given.ensures.start c.marks_count_the_faults_given.ensures.given c.marks_count_the_faults_given.ensures.end

pub returns-clause-fit : goal.returns-clause-fit
returns-clause-fit c =
    fit c.marks_count_the_faults_given.ensures.start c.marks_count_the_faults_given.ensures.given c.marks_count_the_faults_given.ensures.next
    c.marks_count_the_faults_given.ensures.end

pub returns-clause-end : goal.returns-clause-end
returns-clause-end c = calls_end c.marks_count_the_faults_given.ensures.start c.marks_count_the_faults_given.ensures.given
