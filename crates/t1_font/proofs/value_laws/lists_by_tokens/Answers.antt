use Rattle.t1_font.proofs.ListValues.{counts_numbers, numbers_alone, other_token, other_else, inside_decides, written_numbers, written_others}
use Rattle.t1_font.proofs.NumberLists.{numbers_are_lists, matrix_is_list}
use Rattle.t1_font.proofs.value_laws.lists_by_tokens.Goals as goal

pub returns-clause-exactly : goal.returns-clause-exactly
returns-clause-exactly c = other_else

pub returns-clause-inside : goal.returns-clause-inside
returns-clause-inside c = inside_decides

pub returns-clause-written : goal.returns-clause-written
returns-clause-written c = written_numbers

pub returns-clause-others : goal.returns-clause-others
returns-clause-others c = written_others

pub returns-clause-lists : goal.returns-clause-lists
returns-clause-lists c = numbers_are_lists

pub returns-clause-example : goal.returns-clause-example
returns-clause-example c = matrix_is_list

pub returns-clause-counts : goal.returns-clause-counts
returns-clause-counts c = counts_numbers

pub returns-clause-alone : goal.returns-clause-alone
returns-clause-alone c = numbers_alone

pub returns-clause-token : goal.returns-clause-token
returns-clause-token c = other_token
