use Rattle.t1_pieces.proofs.PieceLaws.{calls_end, fit, joined}
use Rattle.t1_pieces.proofs.laws.pieces_are_the_report.Goals as goal

pub returns-clause-joined : goal.returns-clause-joined
returns-clause-joined c =
    joined c.marks_count_the_faults_given.ensures.start c.marks_count_the_faults_given.ensures.given c.marks_count_the_faults_given.ensures.end

pub returns-clause-fit : goal.returns-clause-fit
returns-clause-fit c =
    fit c.marks_count_the_faults_given.ensures.start c.marks_count_the_faults_given.ensures.given c.marks_count_the_faults_given.ensures.next

pub returns-clause-end : goal.returns-clause-end
returns-clause-end c = calls_end c.marks_count_the_faults_given.ensures.start c.marks_count_the_faults_given.ensures.given
