-- One step of the pairing of brackets over what is left of a text.
use Rattle.std.proofs.Common.{Bool, sym, ◌∙◌, ap, Option, Some, None, ◌≡◌, ◌+◌, ◌-◌, ◌<◌, ◌≤◌, ℕ, zero, suc, true, false, List, [], length, drop, get_or, refl, arith}
use Rattle.std.proofs.lemmas.List.{at_drop_more, at_drop_all}
use Rattle.std.specs.Bool.{then_some}
use Rattle.t1_words.specs.Pairs.{holds, is_none_open, open_after, skipped_len, pairs}

pub pairs_none : (k : ℕ) (o : List ℕ) → pairs k o [] ≡ is_none_open o
unfolding pairs
pairs_none zero o = refl
pairs_none (suc k) o = refl

pub pairs_end : (s : List ℕ) (at k : ℕ) (o : List ℕ) → length s ≤ at → pairs k o (drop at s) ≡ is_none_open o
pairs_end s at k o h = rw (at_drop_all (pairs k o) s at h) (pairs_none k o)

pub pairs_skip : (s : List ℕ) (at k : ℕ) (o : List ℕ) → at < length s → 0 < k → pairs k o (drop at s) ≡ pairs (k - 1) o (drop (at + 1) s)
unfolding pairs
pairs_skip s at zero o h positive = absurd (omega arith)
pairs_skip s at (suc k) o h positive =
    let e : suc k - 1 ≡ k = omega arith in
    rw (e) (at_drop_more (pairs (suc k) o) s at 0 h)

pub pairs_more : (s : List ℕ) (at k : ℕ) (o : List ℕ) → at < length s → k ≤ 0 → pairs k o (drop at s)
    ≡ holds (λ left. holds (λ n. pairs (n - 1) left (drop (at + 1) s)) (skipped_len (get_or s at 0) (drop (at + 1) s))) (open_after (get_or s at 0) o)
unfolding pairs
pairs_more s at zero o h none = at_drop_more (pairs zero o) s at 0 h
pairs_more s at (suc k) o h none = absurd (omega arith)

-- A byte that has no partner, or begins what isn't closed.
pub pairs_stuck : (s : List ℕ) (at k : ℕ) (o left : List ℕ) → at < length s → k ≤ 0 → open_after (get_or s at 0) o ≡ Some left
    → skipped_len (get_or s at 0) (drop (at + 1) s) ≡ None → pairs k o (drop at s) ≡ false
pairs_stuck s at k o left h none opens skips = rw (pairs_more s at k o h none, opens, skips) refl

pub pairs_on : (s : List ℕ) (at k : ℕ) (o left : List ℕ) (n : ℕ) → at < length s → k ≤ 0 → open_after (get_or s at 0) o ≡ Some left
    → skipped_len (get_or s at 0) (drop (at + 1) s) ≡ Some n → pairs k o (drop at s) ≡ pairs (n - 1) left (drop (at + 1) s)
pairs_on s at k o left n h none opens skips = rw (pairs_more s at k o h none, opens, skips) refl

-- What is kept, where a test holds.
pub kept : {A : Type 0} {test : Bool} {x : A} {y : Option A} → test ≡ true → then_some test x ≡ y → y ≡ Some x
kept {x = x} is e = sym e ∙ ap (λ b. then_some b x) is
