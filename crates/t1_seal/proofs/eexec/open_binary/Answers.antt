use Rattle.std.proofs.Common.{◌≡◌, ◌<◌, ◌-◌, ◌++◌, ap, append-nil, arith, length, length-append, length-take, subst, sym, take, ◌∙◌}
use Rattle.std.proofs.lemmas.List.{append_assoc, take_all, take_more}
use Rattle.t1_seal.specs.Eexec.{opened}
use Rattle.t1_seal.specs.Private.Opening.{HasTaken}
use Rattle.t1_seal.proofs.Openings.{finished, has_room}
use Rattle.t1_seal.proofs.eexec.open_binary.Goals as goal

pub take-requires : goal.take-requires
take-requires c =
    let s = c.args.section.now in
    let random = c.split_at.result.0.now in
    let i = c.loop-byte.byte-index in
    let below : length (take i random) < length s =
    omega (arith, length-take i random, c.loop-byte-test.true, c.split_at.ensures.front_len, c.split_at.ensures.back_len) in
    has_room c.loop-byte.text (take i random) (length s) c.loop-byte.invariant.taken c.loop-byte.invariant.room below

pub loop-byte-preserved : goal.loop-byte-preserved
loop-byte-preserved c =
    let random = c.split_at.result.0.now in
    let i = c.loop-byte.byte-index in
    record {
      taken = subst (HasTaken c.take.new.self) (sym (take_more random i 0 c.loop-byte-test.true))
          (c.take.ensures.taken (take i random) c.loop-byte.invariant.taken);
      room = c.take.ensures.room (length c.args.section.now) c.loop-byte.invariant.room;
    }

pub loop-byte-2-init : goal.loop-byte-2-init
loop-byte-2-init c =
    let s = c.args.section.now in
    let random = c.split_at.result.0.now in
    let i = c.loop-byte.byte-index in
    let split : length s - length c.split_at.result.1.now ≡ c.min.result = omega (arith, c.split_at.ensures.back_len) in
    record {
      taken = subst (HasTaken c.loop-byte.text)
          (take_all i random c.loop-byte-test.false ∙ c.split_at.ensures.front ∙ ap (λ n. take n s) (sym split) ∙ sym (append-nil _))
          c.loop-byte.invariant.taken;
      room = c.loop-byte.invariant.room;
    }

pub take_text-requires-clause-behind : goal.take_text-requires-clause-behind
take_text-requires-clause-behind c =
    let s = c.args.section.now in
    let rest = c.split_at.result.1.now in
    let i = c.loop-byte-2.byte-index in
    let front = take (length s - length rest) s in
    omega (
      arith,
      length-append front (take i rest),
      length-take (length s - length rest) s,
      c.loop-byte-2.invariant.taken.discarded,
      c.loop-byte-2-test.true,
      c.min.ensures,
      c.split_at.ensures.back_len,
    )

pub take_text-requires-clause-room : goal.take_text-requires-clause-room
take_text-requires-clause-room c =
    let s = c.args.section.now in
    let rest = c.split_at.result.1.now in
    let i = c.loop-byte-2.byte-index in
    let front = take (length s - length rest) s in
    let below : length (front ++ take i rest) < length s =
    omega (
      arith,
      length-append front (take i rest),
      length-take (length s - length rest) s,
      length-take i rest,
      c.loop-byte-2-test.true,
      c.split_at.ensures.back_len,
    ) in
    has_room c.loop-byte-2.text (front ++ take i rest) (length s) c.loop-byte-2.invariant.taken c.loop-byte-2.invariant.room below

pub loop-byte-2-preserved : goal.loop-byte-2-preserved
loop-byte-2-preserved c =
    let s = c.args.section.now in
    let rest = c.split_at.result.1.now in
    let i = c.loop-byte-2.byte-index in
    let front = take (length s - length rest) s in
    record {
      taken = subst (HasTaken c.take_text.new.self)
          (append_assoc front (take i rest) _ ∙ ap (λ back. front ++ back) (sym (take_more rest i 0 c.loop-byte-2-test.true)))
          (c.take_text.ensures.taken (front ++ take i rest) c.loop-byte-2.invariant.taken);
      room = c.take_text.ensures.room (length s) c.loop-byte-2.invariant.room;
    }

pub returns : goal.returns
returns c =
    let s = c.args.section.now in
    let rest = c.split_at.result.1.now in
    let i = c.loop-byte-2.byte-index in
    let front = take (length s - length rest) s in
    let split : length s - length rest ≡ c.min.result = omega (arith, c.split_at.ensures.back_len) in
    let whole : front ++ take i rest ≡ s =
    ap (λ back. front ++ back) (take_all i rest c.loop-byte-2-test.false)
    ∙ ap (λ n. take n s ++ rest) split
    ∙ ap (λ random. random ++ rest) (sym c.split_at.ensures.front)
    ∙ sym c.split_at.ensures.by_index.0 in
    finished _ (opened (front ++ take i rest)) (opened s) (c.finish.ensures (front ++ take i rest) c.loop-byte-2.invariant.taken) (ap opened whole)
