use Rattle.std.proofs.Common.{◌∙◌, sym}
use Rattle.t1_web.specs.Answers.{handed_of}
use Rattle.t1_web.proofs.t1_web_entry.Goals as goal

pub returns : goal.returns
returns c =
    handed_of c.in-Some.key (sym c.list_key.ensures ∙ c.in-Some.is) c.entry_numbers-numbers.result c.entry_numbers-numbers.ensures.numbers
    c.bytes_of.ensures c.status_of.ensures
