-- Texts that go out one after another, and what holds where a call failed.
use Rattle.std.proofs.Common.{refl, inl, inr, append-nil, ◌≡◌, ℕ, ◌+◌, ◌-◌, ◌==◌, ◌&&◌, ◌<◌, arith, Bool, true, false, List, ◌++◌, [], length, take, drop, suc, get_or, Result, Ok, Err, ap, sym, subst, ◌∙◌, append_assoc, length-append}
use Rattle.std.proofs.lemmas.Bool.Decides.{nat_tests}
use Rattle.std.proofs.lemmas.List.{take_rest}
use Rattle.std.proofs.Math.Seq.{take-add}
use Rattle.std.proofs.KnownBytes.{Appends-trans, Appends-kept}
use Rattle.std.specs.List.{flat_map}
use Rattle.std.specs.Result.{IsErrAnd}
use Rattle.t1_io.specs.Devices.{CallFailed, Delivers, Flushes, PutFailed, SinkState, Writes, Wrote, one_more}
use Rattle.t1_io.proofs.PutLemmas.{AppendsFront-take, flat_map-split, flat_map-part}

-- what waits after two texts is what waits after both
and-eqb-add : (b : Bool) (m n : ℕ) → ((b && m == 0) && n == 0) ≡ (b && (m + n) == 0)
and-eqb-add true m n = grind (arith, nat_tests)
and-eqb-add false m n = refl

waits-append : (a b c : Bool) (x y : List ℕ) → b ≡ (a && length x == 0) → c ≡ (b && length y == 0) → c ≡ (a && length (x ++ y) == 0)
waits-append a b c x y first second =
    second ∙ ap (λ (w : Bool). w && length y == 0) first ∙ and-eqb-add a (length x) (length y)
    ∙ ap (λ (n : ℕ). a && n == 0) (sym (length-append x y))

-- one text, and then another
pub Wrote-trans : (a b c : SinkState) (x y : List ℕ) → Wrote a b x → Wrote b c y → Wrote a c (x ++ y)
Wrote-trans a b c x y first second = record {
  bytes = Appends-trans a.written b.written c.written x y first.bytes second.bytes;
  waits = waits-append a.flushed b.flushed c.flushed x y first.waits second.waits;
  flushes = second.flushes ∙ first.flushes;
  failed_puts = second.failed_puts ∙ first.failed_puts;
  failed = second.failed ∙ first.failed;
}

-- n bytes more of the rest
pub Wrote-take : (a b c : SinkState) (bytes : List ℕ) (at n : ℕ) → Wrote a b (take at bytes)
    → Wrote b c (take n (take (length bytes - at) (drop at bytes))) → Wrote a c (take (at + n) bytes)
Wrote-take a b c bytes at n before more =
    let rest : Wrote b c (take n (drop at bytes)) = subst (λ (l : List ℕ). Wrote b c (take n l)) (take_rest bytes at) more in
    subst (Wrote a c) (sym (take-add at n bytes)) (Wrote-trans a b c (take at bytes) (take n (drop at bytes)) before rest)

-- one part more
pub Wrote-part : {X : Type 0} (f : X → List ℕ) (xs : List X) (i : ℕ) (d : X) (a b c : SinkState) → i < length xs
    → Wrote a b (flat_map f (take i xs)) → Wrote b c (f (get_or xs i d)) → Wrote a c (flat_map f (take (i + 1) xs))
Wrote-part f xs i d a b c lt before more =
    subst (Wrote a c) (flat_map-part f xs i d lt) (Wrote-trans a b c (flat_map f (take i xs)) (f (get_or xs i d)) before more)

-- a put failed in the first of two texts
pub PutFailed-first : (a b : SinkState) (x y : List ℕ) → PutFailed a b x → PutFailed a b (x ++ y)
PutFailed-first a b x y broke =
    let (front, (rest, (split, out))) = broke.front in
    record {
      front = (front, (rest ++ y, (ap (λ (l : List ℕ). l ++ y) split ∙ append_assoc front rest y, out)));
      flushes = broke.flushes;
      failed_puts = broke.failed_puts;
      failed = broke.failed;
    }

-- a put failed in the second of two texts
pub PutFailed-second : (a b c : SinkState) (x y : List ℕ) → Wrote a b x → PutFailed b c y → PutFailed a c (x ++ y)
PutFailed-second a b c x y before broke =
    let (front, (rest, (split, out))) = broke.front in
    record {
      front = (
        x ++ front,
        (
          rest,
          (
            ap (λ (l : List ℕ). x ++ l) split ∙ sym (append_assoc x front rest),
            Appends-trans a.written b.written
                c.written x front before.bytes out,
          ),
        ),
      );
      flushes = broke.flushes ∙ before.flushes;
      failed_puts = broke.failed_puts ∙ ap one_more before.failed_puts;
      failed = broke.failed;
    }

-- a put failed in one of many parts
pub PutFailed-part : {X : Type 0} (f : X → List ℕ) (xs : List X) (i : ℕ) (d : X) (a b c : SinkState) → i < length xs
    → Wrote a b (flat_map f (take i xs)) → PutFailed b c (f (get_or xs i d)) → PutFailed a c (flat_map f xs)
PutFailed-part f xs i d a b c lt before broke =
    let part = f (get_or xs i d) in
    let left = flat_map f (drop (suc i) xs) in
    subst (PutFailed a c) (sym (flat_map-split f xs i d lt))
    (PutFailed-second a b c (flat_map f (take i xs)) (part ++ left) before (PutFailed-first b c part left broke))

-- a put failed after a prefix of a text
pub PutFailed-behind : (a b c : SinkState) (bytes : List ℕ) (at : ℕ) → Wrote a b (take at bytes)
    → CallFailed b c × (c.failed_puts ≡ one_more b.failed_puts) → PutFailed a c bytes
PutFailed-behind a b c bytes at before (failed, counted) = record {
  front = AppendsFront-take a.written b.written c.written bytes at before.bytes failed.bytes;
  flushes = failed.flushes ∙ before.flushes;
  failed_puts = counted ∙ ap one_more before.failed_puts;
  failed = failed.failed;
}

-- a text, and then what is written of another
pub Writes-then : {X E : Type 0} (a b c : SinkState) (x y : List ℕ) (r : Result X E) → Wrote a b x → Writes b c y r → Writes a c (x ++ y) r
Writes-then a b c x y (Ok v) before wrote = Wrote-trans a b c x y before wrote
Writes-then a b c x y (Err e) before broke = PutFailed-second a b c x y before broke

-- the exit of a `?` where a put failed
pub Writes-failed : {X E : Type 0} (a b : SinkState) (x : List ℕ) (r : Result X E) (P : E → Type 0) → IsErrAnd r P → PutFailed a b x → Writes a b x r
Writes-failed a b x (Ok v) P never broke = absurd never
Writes-failed a b x (Err e) P is broke = broke

-- a text that was written, and then flushed
pub Delivers-flush : {X E : Type 0} (a b c : SinkState) (x : List ℕ) (r : Result X E) → Wrote a b x → Flushes b c r → Delivers a c x r
Delivers-flush a b c x (Ok v) before flushed = record {
  bytes = Appends-kept a.written b.written c.written x before.bytes flushed.bytes;
  waits = flushed.waits;
  flushes = flushed.flushes ∙ ap one_more before.flushes;
  failed_puts = flushed.failed_puts ∙ before.failed_puts;
  failed = flushed.failed ∙ before.failed;
}
Delivers-flush a b c x (Err e) before (failed, kept) = record {
  front = (x, ([], (sym (append-nil x), Appends-kept a.written b.written c.written x before.bytes failed.bytes)));
  flushes = failed.flushes ∙ before.flushes;
  failed = failed.failed;
  call = inr (kept ∙ before.failed_puts, Appends-kept a.written b.written c.written x before.bytes failed.bytes);
}

-- the exit of a `?` where a put of the text failed
pub Delivers-failed : {X E : Type 0} (a b : SinkState) (x : List ℕ) (r : Result X E) (P : E → Type 0) → IsErrAnd r P → PutFailed a b x → Delivers a b x r
Delivers-failed a b x (Ok v) P never broke = absurd never
Delivers-failed a b x (Err e) P is broke = record { front = broke.front; flushes = broke.flushes; failed = broke.failed; call = inl broke.failed_puts }
