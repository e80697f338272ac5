-- The first token of a row of which a test holds.
use Rattle.std.proofs.Common.{◌≡◌, ℕ, zero, suc, ◌+◌, ◌<◌, Bool, true, false, if◌then◌else◌, Option, None, Some, List, [], ◌∷◌, ◌++◌, append-nil, append_assoc, length, length-append, slice_get, take, refl, sym, ap, ◌∙◌, arith}
use Rattle.t1_font.specs.Rows.{RowToken}
use Rattle.t1_texts.specs.RowFaults.{Placed, first_from, first_where}
use Rattle.t1_reasons.specs.NamedWords.{IsFirstToken, NoTokenIsSuch, RowTest}

-- No token is such among those behind a front.
abbrev NoneBehind : RowTest → List RowToken → List RowToken → Type 0
NoneBehind e front ts = (k : ℕ) (t : RowToken) → slice_get ts k ≡ Some t → e (front ++ take k ts) t ≡ false

record IsFirstBehind (e : RowTest) (front ts : List RowToken) (number : ℕ) : Type 0 where
  place : ℕ
  token : RowToken
  number_is : number ≡ length front + place
  there : slice_get ts place ≡ Some token
  such : e (front ++ take place ts) token ≡ true
  first : (k : ℕ) (t : RowToken) → k < place → slice_get ts k ≡ Some t → e (front ++ take k ts) t ≡ false

abbrev IsFound : RowTest → List RowToken → List RowToken → Option Placed → Type 0
IsFound e front ts None = NoneBehind e front ts
IsFound e front ts (Some p) = IsFirstBehind e front ts p.place

-- With one token more in front.
moved : (e : RowTest) (front ts : List RowToken) (s t : RowToken) (k : ℕ) (b : Bool)
    → e ((front ++ s ∷ []) ++ take k ts) t ≡ b → e (front ++ take (suc k) (s ∷ ts)) t ≡ b
moved e front ts s t k b is = ap (λ f. e f t) (sym (append_assoc front (s ∷ []) (take k ts))) ∙ is

at_front : (e : RowTest) (front : List RowToken) (s t : RowToken) (b : Bool) → s ≡ t → e front s ≡ b → e (front ++ []) t ≡ b
at_front e front s t b same is = ap (λ f. e f t) (append-nil front) ∙ ap (e front) (sym same) ∙ is

here : (e : RowTest) (front ts : List RowToken) (s : RowToken) → e front s ≡ true → IsFirstBehind e front (s ∷ ts) (length front)
here e front ts s is = record {
  place = 0;
  token = s;
  number_is = omega arith;
  there = refl;
  such = at_front e front s s true refl is;
  first = λ k t less there. absurd (omega (arith, less));
}

none_more : (e : RowTest) (front ts : List RowToken) (s : RowToken) → e front s ≡ false → NoneBehind e (front ++ s ∷ []) ts → NoneBehind e front (s ∷ ts)
none_more e front ts s isnt none zero t there = let same : s ≡ t = cc in at_front e front s t false same isnt
none_more e front ts s isnt none (suc k) t there = moved e front ts s t k false (none k t there)

further : (e : RowTest) (front ts : List RowToken) (s : RowToken) (n : ℕ) → e front s ≡ false → IsFirstBehind e (front ++ s ∷ []) ts n
    → IsFirstBehind e front (s ∷ ts) n
further e front ts s n isnt rest = record {
  place = suc rest.place;
  token = rest.token;
  number_is = rest.number_is ∙ (let more = length-append front (s ∷ []) in omega (arith, more));
  there = rest.there;
  such = moved e front ts s rest.token rest.place true rest.such;
  first = λ k t less there. before k t less there;
}
  where
    before : (k : ℕ) (t : RowToken) → k < suc rest.place → slice_get (s ∷ ts) k ≡ Some t → e (front ++ take k (s ∷ ts)) t ≡ false
    before zero t less there = let same : s ≡ t = cc in at_front e front s t false same isnt
    before (suc k) t less there = moved e front ts s t k false (rest.first k t (omega (arith, less)) there)

found : (e : RowTest) (front ts : List RowToken) → IsFound e front ts (first_from e front ts)
found e front [] = λ k t there. let no : None ≡ Some t = there in cc
found e front (s ∷ ts) = go (e front s) refl (first_from e (front ++ s ∷ []) ts) (found e (front ++ s ∷ []) ts)
  where
    go : (b : Bool) → e front s ≡ b → (later : Option Placed) → IsFound e (front ++ s ∷ []) ts later
        → IsFound e front (s ∷ ts) (if b then Some (record { token = s; place = length front }) else later)
    go true is later rest = here e front ts s is
    go false isnt None rest = none_more e front ts s isnt rest
    go false isnt (Some p) rest = further e front ts s p.place isnt rest

-- The same of a row from its front on.
abbrev pub IsFirstIn : RowTest → List RowToken → Option Placed → Type 0
IsFirstIn is_such row None = NoTokenIsSuch is_such row
IsFirstIn is_such row (Some p) = IsFirstToken is_such row p.place

pub is_first : (is_such : RowTest) (row : List RowToken) → IsFirstIn is_such row (first_where is_such row)
is_first is_such row = go (first_where is_such row) (found is_such [] row)
  where
    go : (first : Option Placed) → IsFound is_such [] row first → IsFirstIn is_such row first
    go None none = none
    go (Some p) first =
        let same : p.place ≡ first.place = omega (arith, first.number_is) in
        record {
          token = first.token;
          there = ap (slice_get row) same ∙ first.there;
          such = ap (λ k. is_such (take k row) first.token) same ∙ first.such;
          first = λ k t less there. first.first k t (omega (arith, less, same)) there;
        }
