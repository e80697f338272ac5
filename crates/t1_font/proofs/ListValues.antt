-- The value of an array or a procedure, by the tokens between its own brackets.
use Rattle.std.proofs.Common.{◌≡◌, ◌<◌, ◌+◌, ◌-◌, ◌⊎◌, inl, inr, ℕ, zero, suc, ℤ, true, false, not, Option, Some, None, Result, Ok, Err, List, [], ◌∷◌, ◌++◌, length, map, take, refl, ap, sym, ◌∙◌, arith, length-append}
use Rattle.std.proofs.Math.Seq.{take-append_seam}
use Rattle.std.proofs.lemmas.Bool.{or_cases}
use Rattle.t1_scan.specs.declared.error.ScanError.{ScanError}
use Rattle.t1_scan.specs.declared.token.Kind.{Kind}
use Rattle.t1_scan.specs.declared.token.Kind.TheVariants.{Number, Name, Word, Text, Proc, Array}
use Rattle.t1_scan.specs.Spelling.{Plain, Body, body_text}
use Rattle.t1_scan.specs.Texts.{Lexeme, lexeme_of, are_blanks, IsReadAs}
use Rattle.t1_scan.specs.Tokens.{Found, token_of}
use Rattle.t1_scan.proofs.Cover.{shortens}
use Rattle.t1_scan.proofs.TextsRead.{reads_token}
use Rattle.t1_scan.proofs.TokensFound.{ends_in_blanks}
use Rattle.t1_font.specs.Laws.Lists.{kinds_of, IsReadAsNumbers, IsWrittenWith, has_other_kind, BothAre, CountsNumbers, NumbersAlone, OtherElse, OtherToken, InsideDecides, WrittenNumbers, WrittenOthers}
use Rattle.t1_font.specs.Tokens.{token_at, is_number_kind, inside_of}
use Rattle.t1_font.specs.Values.{Value, numbers, other, ListItem, ends, is_other, item_of, item_at, number_first, numbers_from, numbers_within, numbers_of, list_after, list_value, value_of_token}
use Rattle.t1_font.specs.Laws.Written.{token, IsWritten}

-- What comes next, by the first token.
abbrev item_in : Result (Option Found) ScanError → ListItem
item_in r = elim r [ Err _ ↦ is_other | Ok found ↦ elim found [ None ↦ ends | Some t ↦ item_of t.kind t.rest ] ]

item_is : (s : List ℕ) (r : Result (Option Found) ScanError) → token_of s ≡ r → item_at s ≡ item_in r
unfolding item_at token_at
item_is s r h = ap item_in h

item_end : (s : List ℕ) → token_of s ≡ Ok None → item_at s ≡ ends
item_end s h = item_is s (Ok None) h

item_token : (s : List ℕ) (t : Found) → token_of s ≡ Ok (Some t) → item_at s ≡ item_of t.kind t.rest
item_token s t h = item_is s (Ok (Some t)) h

item_refused : (s : List ℕ) (e : ScanError) → token_of s ≡ Err e → item_at s ≡ is_other
item_refused s e h = item_is s (Err e) h

within_is : (n : ℕ) (s : List ℕ) → numbers_within (suc n) s ≡ numbers_from (numbers_within n) (item_at s)
unfolding numbers_within
within_is n s = refl

within_zero : (s : List ℕ) → numbers_within zero s ≡ None
unfolding numbers_within
within_zero s = refl

-- Numbers alone have their values.
gives_values : (n : ℕ) (s : List ℕ) (ts : List Lexeme) (values : List ℤ) → length s < n → IsReadAs s ts → kinds_of ts ≡ map Number values
    → numbers_within n s ≡ Some values
gives_values zero s ts values less read same = absurd (omega arith)
gives_values (suc n) s [] [] less read same = within_is n s ∙ ap (numbers_from (numbers_within n)) (item_end s read)
gives_values (suc n) s [] (z ∷ values) less read same = cc
gives_values (suc n) s (t ∷ ts) [] less read same = cc
gives_values (suc n) s (t ∷ ts) (z ∷ values) less read same =
    let found : Found = record { kind = t.kind; text = t.text; rest = read.0 } in
    let kind : t.kind ≡ Number z = cc in
    let more : kinds_of ts ≡ map Number values = cc in
    let shorter = (shortens s found read.1).shorter in
    let later = gives_values n read.0 ts values (omega (arith, shorter, less)) read.2 more in
    within_is n s
    ∙ ap (numbers_from (numbers_within n)) (item_token s found read.1 ∙ ap (λ k. item_of k read.0) kind)
    ∙ ap (number_first z) later

-- After another token there is no value.
of_kind : (k : Kind) (rest : List ℕ) (n : ℕ) → (not (is_number_kind k) ≡ true) ⊎ (numbers_within n rest ≡ None)
    → numbers_from (numbers_within n) (item_of k rest) ≡ None
of_kind (Number z) rest n (inl h) = cc
of_kind (Number z) rest n (inr h) = ap (number_first z) h
of_kind Name rest n h = refl
of_kind Word rest n h = refl
of_kind Text rest n h = refl
of_kind Proc rest n h = refl
of_kind Array rest n h = refl

gives_none : (n : ℕ) (s : List ℕ) (ts : List Lexeme) → IsReadAs s ts → has_other_kind (kinds_of ts) ≡ true → numbers_within n s ≡ None
gives_none zero s ts read one = within_zero s
gives_none (suc n) s [] read one = cc
gives_none (suc n) s (t ∷ ts) read one =
    let found : Found = record { kind = t.kind; text = t.text; rest = read.0 } in
    let which : (not (is_number_kind t.kind) ≡ true) ⊎ (numbers_within n read.0 ≡ None) =
    elim (or_cases (not (is_number_kind t.kind)) (has_other_kind (kinds_of ts)) one) [
      | inl h ↦ inl h
      | inr h ↦ inr (gives_none n read.0 ts read.2 h)
    ] in
    within_is n s
    ∙ ap (numbers_from (numbers_within n)) (item_token s found read.1)
    ∙ of_kind t.kind read.0 n which

-- What has values is read as numbers.
pushed : (z : ℤ) (later : Option (List ℤ)) (values : List ℤ) → number_first z later ≡ Some values → (more : List ℤ) × (later ≡ Some more) × (values ≡ z ∷ more)
pushed z None values h = cc
pushed z (Some more) values h = (more, refl, cc)

number_is : (n : ℕ) (k : Kind) (rest : List ℕ) (values : List ℤ) → numbers_from (numbers_within n) (item_of k rest) ≡ Some values → (z : ℤ) × (more : List ℤ)
    × (k ≡ Number z) × (numbers_within n rest ≡ Some more) × (values ≡ z ∷ more)
number_is n (Number z) rest values h =
    let p = pushed z (numbers_within n rest) values h in (z, p.0, refl, p.1, p.2)
number_is n Name rest values h = cc
number_is n Word rest values h = cc
number_is n Text rest values h = cc
number_is n Proc rest values h = cc
number_is n Array rest values h = cc

none_or_values : (o : Option (List ℤ)) (values : List ℤ) → o ≡ None → o ≡ Some values → ⊥
none_or_values o values h k = cc

read_as_numbers : (n : ℕ) (s : List ℕ) (values : List ℤ) → numbers_within n s ≡ Some values → IsReadAsNumbers s values
read_as_numbers zero s values h = absurd (none_or_values (numbers_within zero s) values (within_zero s) h)
read_as_numbers (suc n) s values h =
    let next : numbers_from (numbers_within n) (item_at s) ≡ Some values = sym (within_is n s) ∙ h in
    elim (token_of s) as (λ r. token_of s ≡ r → IsReadAsNumbers s values) [
      | Err e ↦ λ is. absurd (none_or_values (numbers_from (numbers_within n) (item_at s)) values
          (ap (numbers_from (numbers_within n)) (item_refused s e is)) next)
      | Ok found ↦ elim found as (λ found. token_of s ≡ Ok found → IsReadAsNumbers s values) [
        | None ↦ λ is.
            (let here : Some [] ≡ Some values = sym (ap (numbers_from (numbers_within n)) (item_end s is)) ∙ next in
            let same : [] ≡ values = cc in
            record { tokens = []; read = is; kinds = ap (map Number) same })
        | Some t ↦ λ is.
            (let p = number_is n t.kind t.rest values (sym (ap (numbers_from (numbers_within n)) (item_token s t is)) ∙ next) in
            let later = read_as_numbers n t.rest p.1 p.3 in
            record {
              tokens = record { kind = t.kind; text = t.text } ∷ later.tokens;
              read = (t.rest, is, later.read);
              kinds = ap (λ k. k ∷ kinds_of later.tokens) p.2 ∙ ap (λ ks. Number p.0 ∷ ks) later.kinds ∙ ap (map Number) (sym p.4);
            })
      ]
    ] refl

-- The value, by the numbers.
value_of_values : (values : List ℤ) → list_after 0 [] (Some values) ≡ numbers (length values) (take 16 values)
value_of_values values = let e : 0 + length values ≡ length values = omega arith in rw e refl

list_value_is : (s : List ℕ) → list_value s ≡ list_after 0 [] (numbers_of s)
unfolding list_value
list_value_is s = refl

values_of : (s : List ℕ) (values : List ℤ) → IsReadAsNumbers s values → numbers_of s ≡ Some values
values_of s values h = gives_values (suc (length s)) s h.tokens values (omega arith) h.read h.kinds

pub counts_numbers : CountsNumbers
counts_numbers s values h = list_value_is s ∙ ap (list_after 0 []) (values_of s values h) ∙ value_of_values values

-- A list's numbers are none, or those that it is read as.
none_or_some : (s : List ℕ) → (numbers_of s ≡ None) ⊎ ((values : List ℤ) × (numbers_of s ≡ Some values))
none_or_some s = elim (numbers_of s) as (λ o. numbers_of s ≡ o → (numbers_of s ≡ None) ⊎ ((values : List ℤ) × (numbers_of s ≡ Some values))) [
  | None ↦ λ h. inl h
  | Some values ↦ λ h. inr (values, h)
] refl

value_of_none : (s : List ℕ) → numbers_of s ≡ None → list_value s ≡ other
value_of_none s h = list_value_is s ∙ ap (list_after 0 []) h

pub numbers_alone : NumbersAlone
numbers_alone s count first h = elim (none_or_some s) [
  | inl none ↦ absurd (let e : other ≡ numbers count first = sym (value_of_none s none) ∙ h in cc)
  | inr p ↦
      (let read = read_as_numbers (suc (length s)) s p.0 p.1 in
      let e : numbers (length p.0) (take 16 p.0) ≡ numbers count first = sym (counts_numbers s p.0 read) ∙ h in
      (p.0, read, cc, cc))
]

no_numbers : (s : List ℕ) → list_value s ≡ other → (values : List ℤ) → IsReadAsNumbers s values → ⊥
no_numbers s h values read =
    let e : numbers (length values) (take 16 values) ≡ other = sym (counts_numbers s values read) ∙ h in cc

is_else : (s : List ℕ) → ((values : List ℤ) → IsReadAsNumbers s values → ⊥) → list_value s ≡ other
is_else s h = elim (none_or_some s) [
  | inl none ↦ value_of_none s none
  | inr p ↦ absurd (h p.0 (read_as_numbers (suc (length s)) s p.0 p.1))
]

pub other_else : OtherElse
other_else s = (no_numbers s, is_else s)

pub other_token : OtherToken
other_token s ts read one = value_of_none s (gives_none (suc (length s)) s ts read one)

-- What is between the brackets.
inside_is : (front back : ℕ) (s : List ℕ) → inside_of (front ∷ (s ++ (back ∷ []))) ≡ s
inside_is front back s =
    let n : suc (length (s ++ back ∷ [])) - 2 ≡ length s = omega (arith, length-append s (back ∷ [])) in
    ap (λ n. take n (s ++ back ∷ [])) n ∙ take-append_seam s (back ∷ [])

pub inside_decides : InsideDecides
unfolding value_of_token
inside_decides body =
    (ap list_value (inside_is 91 93 (body_text body)), ap list_value (inside_is 123 125 (body_text body)))

pub both : (body : Body) (value : Value) → list_value (body_text body) ≡ value → BothAre body value
both body value h = ((inside_decides body).0 ∙ h, (inside_decides body).1 ∙ h)

-- What is written with tokens is read as just these.
read_written : (s : List ℕ) (ts : List Plain) (rest : List ℕ) → IsWritten s (map token ts) rest → are_blanks false rest ≡ true → IsReadAs s (map lexeme_of ts)
read_written s [] rest h blanks = ap token_of h ∙ (ends_in_blanks rest).1 blanks
read_written s (t ∷ ts) rest h blanks = (h.0, reads_token s t h.0 h.1, read_written h.0 ts rest h.2 blanks)

body_read : (body : Body) (ts : List Plain) → IsWrittenWith body ts → IsReadAs (body_text body) (map lexeme_of ts)
body_read body ts h = read_written (body_text body) ts h.rest h.tokens h.ends

pub written_numbers : WrittenNumbers
written_numbers body ts values h same =
    both body (numbers (length values) (take 16 values))
    (counts_numbers (body_text body) values (record { tokens = map lexeme_of ts; read = body_read body ts h; kinds = same }))

pub written_others : WrittenOthers
written_others body ts h one =
    both body other (other_token (body_text body) (map lexeme_of ts) (body_read body ts h) one)
