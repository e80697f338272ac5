-- A text is read turn by turn, whatever its turns are, if each takes a byte.
use Rattle.std.proofs.Common.{◌≡◌, ◌<◌, ℕ, zero, suc, Option, Some, None, Result, Ok, Err, IfOk, List, [], ◌∷◌, ◌++◌, length, refl, ap, sym, ◌∙◌, arith, append_assoc, length-append}
use Rattle.t1_font.specs.declared.unread.Unread.{Unread}
use Rattle.t1_font.specs.declared.unread.Unread.TheVariants.{Memory}
use Rattle.t1_font.specs.Readings.{◌>>=◌, is_memory}
use Rattle.t1_seal.specs.Readings.{RefusesBy}
use Rattle.t1_font.specs.Fonts.{Stated, Marks, FontValue, value_of}
use Rattle.t1_font.specs.Puts.{put, put_one}
use Rattle.t1_font.specs.TextTurns.{TextTurn, over, goes, TextRead, Reader, with_one, stated_within}
use Rattle.t1_font.specs.Runs.{go_on, run_within, run_of, value_read}

-- A rest is at the end of a text, after a byte or more.
pub record IsBehind (s rest : List ℕ) : Type 0 where
  pub front : List ℕ
  pub whole : s ≡ front ++ rest
  pub some : 0 < length front

pub is_shorter : (s rest : List ℕ) → IsBehind s rest → length rest < length s
is_shorter s rest h = let e : length s ≡ length (h.front ++ rest) = ap length h.whole in omega (arith, e, h.some, length-append h.front rest)

-- What follows a rest, a byte or none, is after it as well.
pub is_behind_rest : (s rest front left : List ℕ) → IsBehind s rest → rest ≡ front ++ left → IsBehind s left
is_behind_rest s rest front left h e = record {
  front = h.front ++ front;
  whole = h.whole ∙ ap (λ x. h.front ++ x) e ∙ sym (append_assoc h.front front left);
  some = omega (arith, h.some, length-append h.front front);
}

-- What a turn leaves is after a byte or more.
abbrev pub Leaves : {M : Type 0} → List ℕ → TextTurn M → Type 0
Leaves s (over rest) = IsBehind s rest
Leaves s (goes e mode left) = IsBehind s left

-- Each turn takes a byte or more.
pub record Shortens {M : Type 0} (turn : Reader M) : Type 0 where
  pub less : (v : FontValue) (mode : M) (s : List ℕ) → IfOk (turn v mode s) (Leaves s)

-- A rest is at the end of a text.
pub record IsEndOf (s rest : List ℕ) : Type 0 where
  pub front : List ℕ
  pub whole : s ≡ front ++ rest

is_end_behind : (s left rest : List ℕ) → IsBehind s left → IsEndOf left rest → IsEndOf s rest
is_end_behind s left rest h e = record {
  front = h.front ++ e.front;
  whole = h.whole ∙ ap (λ x. h.front ++ x) e.whole ∙ sym (append_assoc h.front e.front rest);
}

mapped_ok : {A : Type 0} (P Q : A → Type 0) (r : Result A Unread) → ((x : A) → P x → Q x) → IfOk r P → IfOk r Q
mapped_ok P Q (Ok x) f h = f x h
mapped_ok P Q (Err e) f h = tt

module _ {M : Type 0} (turn : Reader M) (ended : Unread) (shortens : Shortens turn) where
  pub enough : (n m : ℕ) (v : FontValue) (mode : M) (s : List ℕ) → length s < n → length s < m → run_within turn ended n v mode s
      ≡ run_within turn ended m v mode s
  unfolding run_within
  enough zero m v mode s a b = absurd (omega arith)
  enough (suc n) zero v mode s a b = absurd (omega arith)
  enough (suc n) (suc m) v mode s a b =
      elim (turn v mode s) as (λ r. IfOk r (Leaves s) → (r >>= go_on (run_within turn ended n) v) ≡ (r >>= go_on (run_within turn ended m) v)) [
        | Err e ↦ λ _. refl
        | Ok t ↦ elim t as (λ t. Leaves s t → go_on (run_within turn ended n) v t ≡ go_on (run_within turn ended m) v t) [
          | over rest ↦ λ _. refl
          | goes e next left ↦ λ h. (let less = is_shorter s left h in enough n m (put_one v e) next left (omega (arith, less)) (omega (arith, less)))
        ]
      ] (shortens.less v mode s)

  pub run_step : (v : FontValue) (mode : M) (s : List ℕ) → run_of turn ended v mode s ≡ (turn v mode s >>= go_on (run_of turn ended) v)
  unfolding run_within
  run_step v mode s =
      elim (turn v mode s) as (λ r. IfOk r (Leaves s) → (r >>= go_on (run_within turn ended (length s)) v) ≡ (r >>= go_on (run_of turn ended) v)) [
        | Err e ↦ λ _. refl
        | Ok t ↦ elim t as (λ t. Leaves s t → go_on (run_within turn ended (length s)) v t ≡ go_on (run_of turn ended) v t) [
          | over rest ↦ λ _. refl
          | goes e next left ↦ λ h. enough (length s) (suc (length left)) (put_one v e) next left (is_shorter s left h) (omega arith)
        ]
      ] (shortens.less v mode s)

  pub run_fails : (v : FontValue) (mode : M) (s : List ℕ) (e : Unread) → turn v mode s ≡ Err e → run_of turn ended v mode s ≡ Err e
  run_fails v mode s e h = run_step v mode s ∙ ap (λ r. r >>= go_on (run_of turn ended) v) h

  pub run_over : (v : FontValue) (mode : M) (s rest : List ℕ) → turn v mode s ≡ Ok (over rest) → run_of turn ended v mode s
      ≡ Ok (record { value = v; rest = rest })
  run_over v mode s rest h = run_step v mode s ∙ ap (λ r. r >>= go_on (run_of turn ended) v) h

  pub run_goes : (v : FontValue) (mode : M) (s : List ℕ) (e : Option Stated) (next : M) (left : List ℕ) → turn v mode s ≡ Ok (goes e next left)
      → run_of turn ended v mode s ≡ run_of turn ended (put_one v e) next left
  run_goes v mode s e next left h = run_step v mode s ∙ ap (λ r. r >>= go_on (run_of turn ended) v) h

  pub shorter : (v : FontValue) (mode : M) (s : List ℕ) (e : Option Stated) (next : M) (left : List ℕ) → turn v mode s ≡ Ok (goes e next left)
      → length left < length s
  shorter v mode s e next left h = let behind : IsBehind s left = rw h at (shortens.less v mode s) in is_shorter s left behind

  -- What follows a text is at its end.
  pub run_ends : (n : ℕ) (v : FontValue) (mode : M) (s : List ℕ) → IfOk (run_within turn ended n v mode s) (λ read. IsEndOf s read.rest)
  unfolding run_within
  run_ends zero v mode s = tt
  run_ends (suc n) v mode s =
      elim (turn v mode s) as (λ r. IfOk r (Leaves s) → IfOk (r >>= go_on (run_within turn ended n) v) (λ read. IsEndOf s read.rest)) [
        | Err e ↦ λ _. tt
        | Ok t ↦ elim t as (λ t. Leaves s t → IfOk (go_on (run_within turn ended n) v t) (λ read. IsEndOf s read.rest)) [
          | over rest ↦ λ h. record { front = h.front; whole = h.whole }
          | goes e next left ↦ λ h. mapped_ok (λ read. IsEndOf left read.rest) (λ read. IsEndOf s read.rest) (run_within turn ended n (put_one v e) next left)
              (λ read k. is_end_behind s left read.rest h k) (run_ends n (put_one v e) next left)
        ]
      ] (shortens.less v mode s)

-- What is stated when a turn was taken: `after` says it of the rest.
abbrev pub follow : {M : Type 0} → (List Stated → M → List ℕ → Result TextRead Unread) → List Stated → TextTurn M → Result TextRead Unread
follow after before t = elim t [
  | over rest ↦ Ok (record { stated = before; rest = rest })
  | goes e next left ↦ after (with_one before e) next left
]

-- The value that is kept is that of all that was stated, looked up afterwards.
module _ {M : Type 0} (turn : Reader M) (ended : Unread) (marks : Marks)
    (step : (es : List Stated) (e : Stated) → value_of marks (es ++ e ∷ []) ≡ put (value_of marks es) e) where
  one_step : (es : List Stated) (e : Option Stated) → put_one (value_of marks es) e ≡ value_of marks (with_one es e)
  one_step es None = refl
  one_step es (Some e) = sym (step es e)

  pub run_is_read : (n : ℕ) (before : List Stated) (mode : M) (s : List ℕ) → run_within turn ended n (value_of marks before) mode s ≡ value_read marks
      (stated_within turn ended marks n before mode s)
  unfolding run_within stated_within
  run_is_read zero before mode s = refl
  run_is_read (suc n) before mode s =
      elim (turn (value_of marks before) mode s) as (λ r. (r >>= go_on (run_within turn ended n) (value_of marks before)) ≡ value_read marks
      (r >>= follow (stated_within turn ended marks n) before)) [
        | Err e ↦ refl
        | Ok t ↦ elim t as (λ t. go_on (run_within turn ended n) (value_of marks before) t ≡ value_read marks
            (follow (stated_within turn ended marks n) before t)) [
              | over rest ↦ refl
              | goes e next left ↦ ap (λ v. run_within turn ended n v next left) (one_step before e) ∙ run_is_read n (with_one before e) next left
            ]
      ]

-- A refusal that was read is the one that is returned.
pub fails : {Y : Type 0} (e : Unread) (read : Result Y Unread) → read ≡ Err e → RefusesBy is_memory e read
fails Memory read h = tt
fails _ read h = h
