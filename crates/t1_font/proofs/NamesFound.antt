-- A token that is a name is a slash and regular bytes.
use Rattle.std.proofs.Common.{◌≡◌, ◌+◌, ◌==◌, ℕ, zero, suc, true, false, Option, Some, None, Ok, Err, IfOk, List, [], ◌∷◌, take, drop, refl, sym, subst, inl, inr, arith, IsTrue, slice_index}
use Rattle.std.proofs.lemmas.Bool.{cases_Bool}
use Rattle.std.specs.List.{list_all}
use Rattle.t1_scan.specs.Bytes.{is_regular}
use Rattle.t1_scan.specs.Lengths.{token_len, run_len, blank_len}
use Rattle.t1_scan.specs.Numbers.{number_of}
use Rattle.t1_scan.specs.Tokens.{Found, cut, first_of, kind_of, number_or_word, token_of}
use Rattle.t1_scan.proofs.Prefixes.{prefix_all}
use Rattle.t1_font.specs.declared.unread.Unread.{Unread}
use Rattle.t1_font.specs.declared.unread.Unread.TheVariants.{Unclosed}
use Rattle.t1_font.specs.Tokens.{is_name_kind, token_at, wanted}

abbrev pub NamedFound : Found → Type 0
NamedFound t = is_name_kind t.kind ≡ true → IsTrue (list_all is_regular (drop 1 t.text))

-- What was found, if there is a token.
abbrev NamedIf : Option Found → Type 0
NamedIf None = Unit {0}
NamedIf (Some t) = NamedFound t

no_number_name : (o : Option _) → is_name_kind (number_or_word o) ≡ true → ⊥
no_number_name None e = cc
no_number_name (Some v) e = cc

no_name : (b : ℕ) (s : List ℕ) → (b == 47) ≡ false → is_name_kind (kind_of (b ∷ s)) ≡ true → ⊥
unfolding kind_of
no_name b s other e =
    elim (cases_Bool (b == 40)) [
      | inl y ↦ (let never : false ≡ true = rw (other, y) at e in cc)
      | inr n40 ↦ elim (cases_Bool (b == 60)) [
        | inl y ↦ elim (cases_Bool (slice_index s 0 == 60)) [
          | inl z ↦ (let never : false ≡ true = rw (other, n40, y, z) at e in cc)
          | inr z ↦ (let never : false ≡ true = rw (other, n40, y, z) at e in cc)
        ]
        | inr n60 ↦ elim (cases_Bool (b == 123)) [
          | inl y ↦ (let never : false ≡ true = rw (other, n40, n60, y) at e in cc)
          | inr n123 ↦ elim (cases_Bool (b == 91)) [
            | inl y ↦ (let never : false ≡ true = rw (other, n40, n60, n123, y) at e in cc)
            | inr n91 ↦ (let number : is_name_kind (number_or_word (number_of (b ∷ s))) ≡ true = rw (other, n40, n60, n123, n91) at e in
                no_number_name (number_of (b ∷ s)) number)
          ]
        ]
      ]
    ]

no_blank_name : is_name_kind (kind_of []) ≡ true → ⊥
unfolding kind_of
no_blank_name e = cc

cut_other : (b : ℕ) (s : List ℕ) (len : Option ℕ) → (b == 47) ≡ false → IfOk (cut (b ∷ s) len) NamedIf
cut_other b s None other = tt
cut_other b s (Some zero) other = λ e. absurd (no_blank_name e)
cut_other b s (Some (suc n)) other = λ e. absurd (no_name b (take n s) other e)

slash : (b : ℕ) (s : List ℕ) → (b == 47) ≡ true → token_len b s ≡ Some (suc (run_len s))
unfolding token_len
slash b s y = let more : 1 + run_len s ≡ suc (run_len s) = omega arith in rw (y, more) refl

first_named : (s : List ℕ) → IfOk (first_of s) NamedIf
first_named [] = tt
first_named (b ∷ s) =
    elim (cases_Bool (b == 47)) [
      | inl y ↦ subst (λ o. IfOk (cut (b ∷ s) o) NamedIf) (sym (slash b s y)) (λ e. prefix_all is_regular s)
      | inr n ↦ cut_other b s (token_len b s) n
    ]

pub wanted_named : (ended : Unread) (s : List ℕ) → IfOk (wanted ended s) NamedFound
unfolding wanted token_at
wanted_named ended s =
    elim (token_of s) as (λ r. IfOk r NamedIf
    → IfOk (elim r [ Err _ ↦ Err Unclosed | Ok found ↦ elim found [ None ↦ Err ended | Some t ↦ Ok t ] ]) NamedFound) [
      | Err e ↦ λ _. tt
      | Ok found ↦ elim found as (λ found. NamedIf found → IfOk (elim found [ None ↦ Err ended | Some t ↦ Ok t ]) NamedFound) [
        | None ↦ λ _. tt
        | Some t ↦ λ h. h
      ]
    ] (first_named (drop (blank_len false s) s))
