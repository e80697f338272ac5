use Rattle.std.proofs.lemmas.Grind.{common_steps}
use Rattle.std.proofs.Common.{arith, ◌≡◌, ◌++◌, ◌∙◌, ℕ, length, take, drop, ap, vec_len, length-append, ◌+◌, refl}
use Rattle.std.proofs.lemmas.List.{length-take}
use Rattle.t1_run.specs.Input.AreUnread.{too_large}
use Rattle.t1_run.proofs.InputLemmas.{Consumes-more, items-extended, none_read, not_late, one_read, over_kept}
use Rattle.t1_run.proofs.files.read_all.Goals as goal

pub returns-then-is_err-clause-taken : goal.returns-then-is_err-clause-taken
returns-then-is_err-clause-taken g c =
    let held : vec_len c.loop-turn.bytes ≡ length c.loop-turn.bytes.items = c.loop-turn.bytes.ok.0 in
    one_read (c.args.most + 1) c.loop-turn._turn (g.R.Source.state c.args.source.now) (g.R.Source.state c.loop-turn.source)
    (g.R.Source.state c.take.new.self) c.loop-turn.bytes.items (take c.in-Ok.count c.take.new.buffer) c.loop-turn.invariant.consumed
    c.in-Ok.ensures.takes.bytes (omega (arith, held, c.in-Ok.ensures.takes.bound, length-take {A = ℕ})) c.loop-turn.invariant.counted
    (omega (arith, held, c.loop-turn.invariant.long)) c.in-Ok.ensures.takes.takes

pub loop-turn-preserved : goal.loop-turn-preserved
loop-turn-preserved g c =
    let items : c.extend_from_slice.new.self.items ≡ c.loop-turn.bytes.items ++ take c.in-Ok.count c.take.new.buffer =
    items-extended c.extend_from_slice.result c.loop-turn.bytes.items c.extend_from_slice.new.self.items c.take.new.buffer
    (drop c.min-room.result c.loop-turn.buffer) c.in-Ok.count c.if-is_err.ensures.value c.extend_from_slice.ensures.items c.in-Ok.ensures.takes.bound in
    let before : vec_len c.loop-turn.bytes ≡ length c.loop-turn.bytes.items = c.loop-turn.bytes.ok.0 in
    let after : vec_len c.extend_from_slice.new.self ≡ length c.extend_from_slice.new.self.items = c.extend_from_slice.new.self.ok.0 in
    record {
      consumed = Consumes-more _ _ _ c.loop-turn.bytes.items _ _ c.loop-turn.invariant.consumed c.in-Ok.ensures.takes.bytes items;
      counted = omega (arith, c.in-Ok.ensures.takes.takes);
      kept = c.in-Ok.ensures.takes.failed ∙ c.loop-turn.invariant.kept;
      goes_on = grind (arith, common_steps);
      stops = λ sound.
          not_late (g.R.Source.state c.loop-turn.source) (g.R.Source.state c.take.new.self) c.in-Ok.ensures.takes.late_takes
          (over_kept (g.R.Source.state c.args.source.now) (g.R.Source.state c.loop-turn.source) c.loop-turn.invariant.kept
          c.loop-turn.invariant.goes_on ∙ sound)
          ∙ c.loop-turn.invariant.stops sound;
      long = omega (arith, ap length items, c.in-Ok.ensures.takes.bound, length-append {A = ℕ}, length-take {A = ℕ});
      short = omega arith;
    }

pub returns-then-len-most-clause-gathers : goal.returns-then-len-most-clause-gathers
returns-then-len-most-clause-gathers g c =
    let items : c.extend_from_slice.new.self.items ≡ c.loop-turn.bytes.items ++ take c.in-Ok.count c.take.new.buffer =
    items-extended c.extend_from_slice.result c.loop-turn.bytes.items c.extend_from_slice.new.self.items c.take.new.buffer
    (drop c.min-room.result c.loop-turn.buffer) c.in-Ok.count c.if-is_err.ensures.value c.extend_from_slice.ensures.items c.in-Ok.ensures.takes.bound in
    let after : vec_len c.extend_from_slice.new.self ≡ length c.extend_from_slice.new.self.items = c.extend_from_slice.new.self.ok.0 in
    too_large c.extend_from_slice.new.self.items
    (Consumes-more _ _ _ c.loop-turn.bytes.items _ _ c.loop-turn.invariant.consumed c.in-Ok.ensures.takes.bytes items)
    (omega (arith, after, c.if-len-most.true)) (c.in-Ok.ensures.takes.failed ∙ c.loop-turn.invariant.kept) refl

pub overflow_add-turn-end : goal.overflow_add-turn-end
overflow_add-turn-end g c = grind (arith, common_steps)

pub loop-turn-init : goal.loop-turn-init
loop-turn-init g c = grind (arith, common_steps)

pub overflow_add-most : goal.overflow_add-most
overflow_add-most g c = grind (arith, common_steps)

pub overflow_sub-most : goal.overflow_sub-most
overflow_sub-most g c = grind (arith, common_steps)

pub slice_bounds-buffer-end : goal.slice_bounds-buffer-end
slice_bounds-buffer-end g c = grind (arith, common_steps)

pub slice_bounds-take-end : goal.slice_bounds-take-end
slice_bounds-take-end g c = grind (arith, common_steps)

pub returns-in-Err-clause-gathers : goal.returns-in-Err-clause-gathers
returns-in-Err-clause-gathers g c = grind (arith, common_steps)

pub returns-in-Err-clause-takes : goal.returns-in-Err-clause-takes
returns-in-Err-clause-takes g c = grind (arith, common_steps)

pub returns-in-Err-clause-taken : goal.returns-in-Err-clause-taken
returns-in-Err-clause-taken g c =
    let held : vec_len c.loop-turn.bytes ≡ length c.loop-turn.bytes.items = c.loop-turn.bytes.ok.0 in
    none_read (c.args.most + 1) c.loop-turn._turn (g.R.Source.state c.args.source.now) (g.R.Source.state c.loop-turn.source)
    (g.R.Source.state c.take.new.self) c.loop-turn.bytes.items c.loop-turn.invariant.consumed c.in-Err.ensures.takes.bytes
    (omega (arith, held, c.loop-turn.invariant.short)) c.loop-turn.invariant.counted
    (omega (arith, held, c.loop-turn.invariant.long)) c.in-Err.ensures.takes.takes

pub returns-in-Err-clause-stops : goal.returns-in-Err-clause-stops
returns-in-Err-clause-stops g c = grind (arith, common_steps)

pub returns-in-Ok-eq0-clause-gathers : goal.returns-in-Ok-eq0-clause-gathers
returns-in-Ok-eq0-clause-gathers g c = grind (arith, common_steps)

pub returns-in-Ok-eq0-clause-takes : goal.returns-in-Ok-eq0-clause-takes
returns-in-Ok-eq0-clause-takes g c = grind (arith, common_steps)

pub returns-in-Ok-eq0-clause-taken : goal.returns-in-Ok-eq0-clause-taken
returns-in-Ok-eq0-clause-taken g c =
    let held : vec_len c.loop-turn.bytes ≡ length c.loop-turn.bytes.items = c.loop-turn.bytes.ok.0 in
    one_read (c.args.most + 1) c.loop-turn._turn (g.R.Source.state c.args.source.now) (g.R.Source.state c.loop-turn.source)
    (g.R.Source.state c.take.new.self) c.loop-turn.bytes.items (take c.in-Ok-eq0.field-0 c.take.new.buffer) c.loop-turn.invariant.consumed
    c.in-Ok-eq0.ensures.takes.bytes (omega (arith, held, c.in-Ok-eq0.ensures.takes.bound, length-take {A = ℕ})) c.loop-turn.invariant.counted
    (omega (arith, held, c.loop-turn.invariant.long)) c.in-Ok-eq0.ensures.takes.takes

pub returns-in-Ok-eq0-clause-stops : goal.returns-in-Ok-eq0-clause-stops
returns-in-Ok-eq0-clause-stops g c = grind (arith, common_steps)

pub slice_bounds-buffer-end-in-Ok : goal.slice_bounds-buffer-end-in-Ok
slice_bounds-buffer-end-in-Ok g c = grind (arith, common_steps)

pub slice_bounds-extend_from_slice-end : goal.slice_bounds-extend_from_slice-end
slice_bounds-extend_from_slice-end g c = grind (arith, common_steps)

pub returns-then-is_err-clause-gathers : goal.returns-then-is_err-clause-gathers
returns-then-is_err-clause-gathers g c = grind (arith, common_steps)

pub returns-then-is_err-clause-takes : goal.returns-then-is_err-clause-takes
returns-then-is_err-clause-takes g c = grind (arith, common_steps)

pub returns-then-is_err-clause-stops : goal.returns-then-is_err-clause-stops
returns-then-is_err-clause-stops g c = grind (arith, common_steps)

pub returns-then-len-most-clause-takes : goal.returns-then-len-most-clause-takes
returns-then-len-most-clause-takes g c = grind (arith, common_steps)

pub returns-then-len-most-clause-taken : goal.returns-then-len-most-clause-taken
returns-then-len-most-clause-taken g c =
    let held : vec_len c.loop-turn.bytes ≡ length c.loop-turn.bytes.items = c.loop-turn.bytes.ok.0 in
    one_read (c.args.most + 1) c.loop-turn._turn (g.R.Source.state c.args.source.now) (g.R.Source.state c.loop-turn.source)
    (g.R.Source.state c.take.new.self) c.loop-turn.bytes.items (take c.in-Ok.count c.take.new.buffer) c.loop-turn.invariant.consumed
    c.in-Ok.ensures.takes.bytes (omega (arith, held, c.in-Ok.ensures.takes.bound, length-take {A = ℕ})) c.loop-turn.invariant.counted
    (omega (arith, held, c.loop-turn.invariant.long)) c.in-Ok.ensures.takes.takes

pub returns-then-len-most-clause-stops : goal.returns-then-len-most-clause-stops
returns-then-len-most-clause-stops g c = grind (arith, common_steps)

pub loop-turn-smaller : goal.loop-turn-smaller
loop-turn-smaller g c = grind (arith, common_steps)
