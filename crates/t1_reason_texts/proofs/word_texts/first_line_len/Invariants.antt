use Rattle.std.proofs.Common.{◌≡◌, ◌+◌, drop, not}
use Rattle.std.specs.List.{prefix_len}
use Rattle.t1_reason_texts.specs.WordTexts.{ends_line}
use Rattle.t1_reason_texts.proofs.word_texts.first_line_len.Given as goal

abbrev pub invariant-loop-at : goal.invariant-loop-at
invariant-loop-at l = l.at + prefix_len (λ byte. not (ends_line byte)) (drop l.at l.text) ≡ prefix_len (λ byte. not (ends_line byte)) l.text
