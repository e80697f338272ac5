use Rattle.std.proofs.Common.{◌≡◌, ◌<◌, ◌≤◌, ◌+◌, ◌++◌, ℕ, List, ◌∷◌, add-one, ap, append-nil, append_assoc, arith, drop, get_or, length, refl, sym, ◌∙◌}
use Rattle.std.proofs.Math.Seq.{drop-cons}
use Rattle.std.proofs.lemmas.List.{drop_all}
use Rattle.std.specs.List.{flat_map}
use Rattle.t1draw.specs.Folders.{spelled_byte}
use Rattle.t1draw.proofs.spelling.push_spelled.Goals as goal

head_of : (name : List ℕ) (i : ℕ) → i < length name → drop i name ≡ get_or name i 0 ∷ drop (i + 1) name
head_of name i less = rw (add-one, drop-cons name i 0) refl

-- one byte more is spelled
one_more : (name before after : List ℕ) (i : ℕ) → i < length name → after ≡ before ++ spelled_byte (get_or name i 0)
    → after ++ flat_map spelled_byte (drop (i + 1) name) ≡ before ++ flat_map spelled_byte (drop i name)
one_more name before after i less is =
    ap (λ (t : List ℕ). t ++ flat_map spelled_byte (drop (i + 1) name)) is
    ∙ append_assoc before (spelled_byte (get_or name i 0)) (flat_map spelled_byte (drop (i + 1) name))
    ∙ ap (λ (bytes : List ℕ). before ++ flat_map spelled_byte bytes) (sym (head_of name i less))

none_left : (name before : List ℕ) (i : ℕ) → length name ≤ i → before ≡ before ++ flat_map spelled_byte (drop i name)
none_left name before i past = sym (ap (λ (bytes : List ℕ). before ++ flat_map spelled_byte bytes) (drop_all i name past) ∙ append-nil before)

pub loop-byte-preserved : goal.loop-byte-preserved
loop-byte-preserved c =
    one_more c.args.name.now _ _ c.loop-byte.byte-index (omega (arith, c.loop-byte-test.true)) c.in_ok-push_byte.ensures ∙ c.loop-byte.invariant

pub returns : goal.returns
returns c = none_left c.args.name.now _ c.loop-byte.byte-index (omega (arith, c.loop-byte-test.false)) ∙ c.loop-byte.invariant
