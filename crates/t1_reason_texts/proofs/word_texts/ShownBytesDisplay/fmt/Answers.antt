use Rattle.std.proofs.Common.{◌<◌, ◌≤◌, ◌++◌, append_assoc, append-nil, ap, ◌∙◌, rules, arith, length, get_or}
use Rattle.std.proofs.Output.{has_written_append, has_written_of_eq}
use Rattle.t1_reason_texts.specs.WordTexts.{shown_letter}
use Rattle.t1_reason_texts.proofs.ShownWords.{cut_here, none_left, one_more}
use Rattle.t1_reason_texts.proofs.word_texts.ShownBytesDisplay.fmt.Goals as goal

pub returns-then-left-eq0-clause-writes : goal.returns-then-left-eq0-clause-writes
returns-then-left-eq0-clause-writes g c = λ plain ok.
    let so_far = c.loop-byte.invariant plain in
    let within : c.loop-byte.byte-index < length c.args.self.now.word.now = omega (arith, c.loop-byte-test.true) in
    has_written_of_eq _ _ _ _ _
    (ap (λ t. so_far.0 ++ t) (cut_here c.loop-byte.left c.args.self.now.word.now c.loop-byte.byte-index within c.if-left-eq0.true) ∙ so_far.2)
    (has_written_append _ _ _ _ _ _ so_far.1 (search rules))

pub loop-byte-preserved : goal.loop-byte-preserved
loop-byte-preserved g c = λ plain.
    let so_far = c.loop-byte.invariant plain in
    let within : c.loop-byte.byte-index < length c.args.self.now.word.now = omega (arith, c.loop-byte-test.true) in (
      so_far.0 ++ shown_letter (get_or c.args.self.now.word.now c.loop-byte.byte-index 0),
      has_written_append _ _ _ _ _ _ so_far.1 (search rules),
      append_assoc so_far.0 _ _
          ∙ ap (λ t. so_far.0 ++ t)
          (one_more c.loop-byte.left c.args.self.now.word.now c.loop-byte.byte-index within c.if-left-eq0.false)
          ∙ so_far.2,
    )

pub returns-clause-writes : goal.returns-clause-writes
returns-clause-writes g c = λ plain ok.
    let so_far = c.loop-byte.invariant plain in
    let past : length c.args.self.now.word.now ≤ c.loop-byte.byte-index = omega (arith, c.loop-byte-test.false) in
    has_written_of_eq _ _ _ _ _ (rw (none_left c.loop-byte.left c.args.self.now.word.now c.loop-byte.byte-index past, append-nil) at so_far.2) so_far.1
