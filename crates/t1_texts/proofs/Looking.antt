-- Looking through tokens one by one.
use Rattle.std.proofs.Common.{◌≡◌, ◌<◌, ◌≤◌, ◌+◌, ◌-◌, ℕ, ℤ, zero, suc, Bool, true, false, ◌&&◌, ◌||◌, not, if◌then◌else◌, Option, Some, None, is_some, List, [], ◌∷◌, ◌++◌, drop, take, length, append-nil, append_assoc, refl, sym, ap, subst, ◌∙◌, arith}
use Rattle.std.proofs.Math.Bool.{or-false}
use Rattle.std.proofs.lemmas.List.Folds.{list_any-append}
use Rattle.std.proofs.lemmas.Slice.Eq.{bytes_eq-Decides}
use Rattle.std.specs.Borrow.{Bor}
use Rattle.std.specs.List.{AllByRecursion, list_all, list_any}
use Rattle.t1_scan.specs.declared.token.Kind.{Kind}
use Rattle.t1_scan.specs.declared.token.Kind.TheVariants.{Number}
use Rattle.std.specs.Str.{bytes_eq}
use Rattle.t1_font.specs.declared.row.Entry.{Entry}
use Rattle.t1_font.specs.declared.row.Role.TheVariants.{Other, Reader}
use Rattle.t1_font.specs.Rows.{HasEntry, IsNumber, RowToken, after_first, entry_token, first_in}
use Rattle.t1_font.specs.Tokens.{is_number_kind}
use Rattle.t1_texts.specs.Given.{is_given, is_unknown, names}
use Rattle.t1_texts.specs.declared.faults.Watch.{Watch}
use Rattle.t1_texts.specs.Private.Watching.{AreGiven, IsWatchOf, Reads, or_here}
use Rattle.std.specs.Option.{option_map}
use Rattle.t1_texts.specs.declared.faults.Placed.{Placed as PlacedToken}
use Rattle.t1_texts.specs.RowFaults.{Placed, RowFaults, faults_in, first_from, first_where, has_no_partner, placed_view}
use Rattle.t1_texts.specs.Readers.{first_reads, is_reader, is_unread, reads}

-- ---- the next token

pub no_more : (n : ℕ) (row : List RowToken) → first_in row ≡ None → take n row ≡ []
no_more zero row is = refl
no_more (suc n) [] is = refl
no_more (suc n) (t ∷ ts) is = cc

pub one_more : (n : ℕ) (row : List RowToken) (t : RowToken) → 0 < n → first_in row ≡ Some t → take n row ≡ t ∷ take (n - 1) (after_first row)
one_more zero row t some is = absurd (omega (arith, some))
one_more (suc n) [] t some is = cc
one_more (suc n) (x ∷ xs) t some is =
    let same : x ≡ t = cc in
    let less : suc n - 1 ≡ n = omega arith in
    rw less (ap (λ y. y ∷ take n xs) same)

pub given_on : (word : List ℕ) (n : ℕ) (row rest : List RowToken) (t : RowToken) → first_in row ≡ Some t → rest ≡ after_first row → 0 < n
    → names word t ≡ false → is_given word (take (n - 1) rest) ≡ is_given word (take n row)
given_on word n row rest t first later some other = rw (one_more n row t some first, other, later) refl

-- ---- readers

-- What is left to find, where a name was just passed or not, and what is known so far.
abbrev pub reads_on : List ℕ → Bool → Bool → List RowToken → Bool
reads_on word behind good [] = good
reads_on word behind good (t ∷ ts) = reads_on word (names word t) (not (names word t) && (if behind then reads t else good)) ts

module _ (word : List ℕ) where
  abbrev IsLast : List RowToken → Bool → Bool → Type 0
  IsLast ts found other = found ≡ (if list_any (names word) ts then is_reader word ts else other)

  either_way : (ts : List RowToken)
      → ((good : Bool) → IsLast ts (reads_on word false good ts) good) × IsLast ts (reads_on word true false ts) (first_reads ts)
  either_way [] = (λ good. refl, refl)
  either_way (t ∷ ts) = let later = either_way ts in (λ good. other good (names word t) later.1 (later.0 good), name (names word t) later.1 (later.0 (reads t)))
    where
      same : (any good : Bool) → (if any then is_reader word ts else good) ≡ (if any then (if any then is_reader word ts else false) else good)
      same true good = refl
      same false good = refl

      other : (good b : Bool) → IsLast ts (reads_on word true false ts) (first_reads ts) → IsLast ts (reads_on word false good ts) good
          → reads_on word b (not b && good) ts
          ≡ (if b || list_any (names word) ts then (if list_any (names word) ts then is_reader word ts else b && first_reads ts) else good)
      other good true is_name is_other = is_name
      other good false is_name is_other = is_other ∙ same (list_any (names word) ts) good

      name : (b : Bool) → IsLast ts (reads_on word true false ts) (first_reads ts) → IsLast ts (reads_on word false (reads t) ts) (reads t)
          → reads_on word b (not b && reads t) ts
          ≡ (if b || list_any (names word) ts then (if list_any (names word) ts then is_reader word ts else b && first_reads ts) else reads t)
      name true is_name is_other = is_name
      name false is_name is_other = is_other ∙ same (list_any (names word) ts) (reads t)

  none_reads : (ts : List RowToken) → (if list_any (names word) ts then is_reader word ts else false) ≡ is_reader word ts
  none_reads [] = refl
  none_reads (t ∷ ts) = go (names word t) (list_any (names word) ts)
    where
      go : (b any : Bool) → (if b || any then (if any then is_reader word ts else b && first_reads ts) else false)
          ≡ (if any then is_reader word ts else b && first_reads ts)
      go true any = refl
      go false true = refl
      go false false = refl

  pub reads_from_start : (ts : List RowToken) → reads_on word false false ts ≡ is_reader word ts
  reads_from_start ts = (either_way ts).0 false ∙ none_reads ts

pub reads_more : (word : List ℕ) (behind good : Bool) (n : ℕ) (row rest : List RowToken) (t : RowToken) → first_in row ≡ Some t → rest ≡ after_first row
    → 0 < n
    → reads_on word (names word t) (not (names word t) && (if behind then reads t else good)) (take (n - 1) rest) ≡ reads_on word behind good (take n row)
reads_more word behind good n row rest t first later some = rw (one_more n row t some first, later) refl

pub reads_no_more : (word : List ℕ) (behind good : Bool) (n : ℕ) (row : List RowToken) → first_in row ≡ None → good ≡ reads_on word behind good (take n row)
reads_no_more word behind good n row none = rw (no_more n row none) refl

pub reads_end : (word : List ℕ) (behind good : Bool) (n : ℕ) (row : List RowToken) → n ≤ 0 → good ≡ reads_on word behind good (take n row)
reads_end word behind good zero row none = refl
reads_end word behind good (suc n) row none = absurd (omega (arith, none))

-- ---- words that are kept

pub kept_is_given : (words : List (Bor (List ℕ))) (word : List ℕ) (before : List RowToken) → list_all (λ w. is_given w.now before) words ≡ true
    → list_any (λ kept. bytes_eq kept.now word) words ≡ true → true ≡ is_given word before
kept_is_given [] word before all some = cc
kept_is_given (w ∷ ws) word before all some =
    go (bytes_eq w.now word) (is_given w.now before) refl refl all some (kept_is_given ws word before)
  where
    go : (same given : Bool) → bytes_eq w.now word ≡ same → is_given w.now before ≡ given → (given && list_all (λ w. is_given w.now before) ws) ≡ true
        → (same || list_any (λ kept. bytes_eq kept.now word) ws) ≡ true
        → (list_all (λ w. is_given w.now before) ws ≡ true → list_any (λ kept. bytes_eq kept.now word) ws ≡ true → true ≡ is_given word before)
        → true ≡ is_given word before
    go same false is found all some later = cc
    go true true is found all some later =
        let spelled : w.now ≡ word = (bytes_eq-Decides w.now word).0 is in sym found ∙ ap (λ n. is_given n before) spelled
    go false true is found all some later = later all some

-- What is given stays given.
still_given : (word : List ℕ) (before : List RowToken) (t : RowToken) → is_given word before ≡ true → is_given word (before ++ t ∷ []) ≡ true
still_given word before t is = list_any-append (names word) before (t ∷ []) ∙ (rw is refl)

pub still_all_given : (words : List (Bor (List ℕ))) (before : List RowToken) (t : RowToken) → AreGiven words before → AreGiven words (before ++ t ∷ [])
still_all_given [] before t all = refl
still_all_given (w ∷ ws) before t all = go (is_given w.now before) refl all (still_all_given ws before t)
  where
    go : (given : Bool) → is_given w.now before ≡ given → (given && list_all (λ w. is_given w.now before) ws) ≡ true
        → (AreGiven ws before → AreGiven ws (before ++ t ∷ []))
        → (is_given w.now (before ++ t ∷ []) && list_all (λ w. is_given w.now (before ++ t ∷ [])) ws) ≡ true
    go true is all later = rw (still_given w.now before t is) (later all)
    go false is all later = cc

-- ---- a reader that is kept

-- A word that reads charstrings still does behind a token that isn't its name.
pub still_reads : (word : List ℕ) (before : List RowToken) (t : RowToken) → is_reader word before ≡ true → names word t ≡ false
    → is_reader word (before ++ t ∷ []) ≡ true
still_reads word [] t is other = cc
still_reads word (x ∷ xs) t is other = go (list_any (names word) xs) refl (names word x) refl is (still_reads word xs t)
  where
    any_stays : list_any (names word) (xs ++ t ∷ []) ≡ list_any (names word) xs
    any_stays = list_any-append (names word) xs (t ∷ []) ∙ (rw other (or-false (list_any (names word) xs)))

    first_stays : (ys : List RowToken) → first_reads ys ≡ true → first_reads (ys ++ t ∷ []) ≡ true
    first_stays [] is = cc
    first_stays (y ∷ ys) is = is

    go : (any : Bool) → list_any (names word) xs ≡ any → (b : Bool) → names word x ≡ b
        → (if any then is_reader word xs else b && first_reads xs) ≡ true
        → (is_reader word xs ≡ true → names word t ≡ false → is_reader word (xs ++ t ∷ []) ≡ true)
        → (if list_any (names word) (xs ++ t ∷ []) then is_reader word (xs ++ t ∷ []) else names word x && first_reads (xs ++ t ∷ [])) ≡ true
    go true some b here is later = rw (any_stays, some) (later is other)
    go false none true here is later = rw (any_stays, none, here) (first_stays xs is)
    go false none false here is later = cc

-- ---- the first of a kind

abbrev at_end : List RowToken → RowToken → Placed
at_end before t = record { token = t; place = length before }

first_further : (test : List RowToken → RowToken → Bool) (before xs : List RowToken) (t : RowToken)
    → first_from test before (xs ++ t ∷ []) ≡ or_here (first_from test before xs) (test (before ++ xs) t) (at_end (before ++ xs) t)
first_further test before [] t = subst (λ b. first_from test before (t ∷ []) ≡ or_here None (test b t) (at_end b t)) (sym (append-nil before)) (go (test before t))
  where
    go : (b : Bool) → (if b then Some (at_end before t) else None) ≡ or_here None b (at_end before t)
    go true = refl
    go false = refl
first_further test before (x ∷ xs) t = go (test before x) (first_further test (before ++ x ∷ []) xs t)
  where
    there : List RowToken → Option Placed → Option Placed
    there whole found = or_here found (test whole t) (at_end whole t)

    go : (b : Bool)
        → first_from test (before ++ x ∷ []) (xs ++ t ∷ []) ≡ there ((before ++ x ∷ []) ++ xs) (first_from test (before ++ x ∷ []) xs)
        → (if b then Some (at_end before x) else first_from test (before ++ x ∷ []) (xs ++ t ∷ []))
        ≡ there (before ++ (x ∷ xs)) (if b then Some (at_end before x) else first_from test (before ++ x ∷ []) xs)
    go true later = refl
    go false later = subst (λ whole. first_from test (before ++ x ∷ []) (xs ++ t ∷ []) ≡ there whole (first_from test (before ++ x ∷ []) xs))
        (append_assoc before (x ∷ []) xs) later

pub first_more : (test : List RowToken → RowToken → Bool) (before : List RowToken) (t : RowToken)
    → first_where test (before ++ t ∷ []) ≡ or_here (first_where test before) (test before t) (at_end before t)
first_more test before t = first_further test [] before t

abbrev pub faults_more : List RowToken → RowToken → ℕ → RowFaults → RowFaults
faults_more before t place old =
    let here : Placed = record { token = t; place = place } in
    record {
      unpaired = or_here old.unpaired (has_no_partner before t) here;
      unknown = or_here old.unknown (is_unknown before t) here;
      unread = or_here old.unread (is_unread before t) here;
    }

-- What isn't asked where one is found changes nothing.
pub asked_once : (found : Option Placed) (test : Bool) (here : Placed) → or_here found (not (is_some found) && test) here ≡ or_here found test here
asked_once None test here = refl
asked_once (Some placed) test here = refl

pub some_viewed : (found : Option PlacedToken) → is_some found ≡ is_some (option_map placed_view found)
some_viewed None = refl
some_viewed (Some placed) = refl

pub more_faults : (before : List RowToken) (t : RowToken) (place : ℕ) (old : RowFaults) → length before ≡ place → old ≡ faults_in before
    → faults_more before t place old ≡ faults_in (before ++ t ∷ [])
more_faults before t place old here is = rw (← here, is, first_more has_no_partner before t, first_more is_unknown before t, first_more is_unread before t) refl

-- ---- from token to token

pub all_taken : (n : ℕ) (row : List RowToken) → first_in (drop n row) ≡ None → take n row ≡ row
all_taken zero [] none = refl
all_taken zero (x ∷ xs) none = cc
all_taken (suc n) [] none = refl
all_taken (suc n) (x ∷ xs) none = ap (λ ys. x ∷ ys) (all_taken n xs none)

-- ---- numbers, of which no rule speaks

number_is : (kind : Kind) → is_number_kind kind ≡ true → (z : ℤ) × (kind ≡ Number z)
number_is (Number z) is = (z, refl)
number_is _ is = cc

or_nothing : (found : Option Placed) (here : Placed) → or_here found false here ≡ found
or_nothing None here = refl
or_nothing (Some placed) here = refl

same_first : (test : List RowToken → RowToken → Bool) (before : List RowToken) (t : RowToken) → test before t ≡ false
    → first_where test (before ++ t ∷ []) ≡ first_where test before
same_first test before t other = first_more test before t ∙ rw other (or_nothing (first_where test before) (at_end before t))

module _ (before : List RowToken) (t : RowToken) (is : IsNumber t) where
  paired : has_no_partner before t ≡ false
  paired = let kind = number_is t.kind is.0 in rw kind.1 refl

  known : is_unknown before t ≡ false
  known = let kind = number_is t.kind is.0 in rw kind.1 refl

  other_role : is_unread before t ≡ false
  other_role = rw (is.1) refl

  no_name : (word : List ℕ) → names word t ≡ false
  no_name word = let kind = number_is t.kind is.0 in rw kind.1 refl

  same_faults : faults_in (before ++ t ∷ []) ≡ faults_in before
  same_faults =
      rw (same_first has_no_partner before t paired, same_first is_unknown before t known, same_first is_unread before t other_role) refl

  still_reads_on : (word : Option (Bor (List ℕ))) → Reads word before → Reads word (before ++ t ∷ [])
  still_reads_on None good = tt
  still_reads_on (Some word) good = still_reads word.now before t good (no_name word.now)

  number_passed : (watch : Watch) → IsWatchOf watch before → IsWatchOf watch (before ++ t ∷ [])
  number_passed watch w = record {
    faults = w.faults ∙ sym same_faults;
    given = still_all_given watch.given.words.items before t w.given;
    reader = still_reads_on watch.reader.word w.reader;
  }

pub numbers_passed : (watch : Watch) (before numbers : List RowToken) → AllByRecursion IsNumber numbers → IsWatchOf watch before
    → IsWatchOf watch (before ++ numbers)
numbers_passed watch before [] all w = subst (IsWatchOf watch) (sym (append-nil before)) w
numbers_passed watch before (t ∷ ts) all w =
    subst (IsWatchOf watch) (append_assoc before (t ∷ []) ts)
    (numbers_passed watch (before ++ t ∷ []) ts all.1 (number_passed before t all.0 watch w))

-- ---- several tokens

-- The first m tokens of a row are the first n and these, and those are left.
pub record Took (m n : ℕ) (row xs ys : List RowToken) : Type 0 where
  pub took : take m row ≡ take n row ++ xs
  pub left : drop m row ≡ ys
  pub few : m ≤ length row

from_start : (m : ℕ) (xs ys : List RowToken) → m ≡ length xs → Took m 0 (xs ++ ys) xs ys
from_start zero [] ys is = record { took = refl; left = refl; few = omega arith }
from_start (suc m) [] ys is = absurd (omega (arith, is))
from_start zero (x ∷ xs) ys is = absurd (omega (arith, is))
from_start (suc m) (x ∷ xs) ys is =
    let rest = from_start m xs ys (omega (arith, is)) in
    record { took = ap (λ ts. x ∷ ts) rest.took; left = rest.left; few = omega (arith, rest.few) }

pub take_several : (m n : ℕ) (row xs ys : List RowToken) → m ≡ n + length xs → n ≤ length row → drop n row ≡ xs ++ ys → Took m n row xs ys
take_several m zero row xs ys is few left = subst (λ r. Took m 0 r xs ys) (sym left) (from_start m xs ys (omega (arith, is)))
take_several zero (suc n) row xs ys is few left = absurd (omega (arith, is))
take_several (suc m) (suc n) [] xs ys is few left = absurd (omega (arith, few))
take_several (suc m) (suc n) (x ∷ row) xs ys is few left =
    let rest = take_several m n row xs ys (omega (arith, is)) (omega (arith, few)) left in
    record { took = ap (λ ts. x ∷ ts) rest.took; left = rest.left; few = omega (arith, rest.few) }

-- An entry: its first token and its numbers, and then its word.
pub record Entered (n : ℕ) (row : List RowToken) (e : Entry) (rest : List RowToken) : Type 0 where
  pub numbers : List RowToken
  pub all : AllByRecursion IsNumber numbers
  pub front : Took (n + 1 + e.numbers) n row (entry_token Other e.first ∷ numbers) (entry_token Reader e.word ∷ rest)
  pub whole : Took (n + 1 + e.numbers + 1) (n + 1 + e.numbers) row (entry_token Reader e.word ∷ []) rest

pub entered : (n : ℕ) (row : List RowToken) (e : Entry) (rest left : List RowToken) → n ≤ length row → left ≡ drop n row → HasEntry e left rest
    → Entered n row e rest
entered n row e rest left few is h =
    let front = take_several (n + 1 + e.numbers) n row (entry_token Other e.first ∷ h.numbers) (entry_token Reader e.word ∷ rest)
    (omega (arith, h.count)) few (sym is ∙ h.whole) in
    record {
      numbers = h.numbers;
      all = h.all;
      front = front;
      whole = take_several (n + 1 + e.numbers + 1) (n + 1 + e.numbers) row (entry_token Reader e.word ∷ []) rest (omega arith) front.few front.left;
    }

pub front_passed : (watch : Watch) (n : ℕ) (row : List RowToken) (e : Entry) (rest : List RowToken) (h : Entered n row e rest)
    → IsWatchOf watch (take n row ++ entry_token Other e.first ∷ []) → IsWatchOf watch (take (n + 1 + e.numbers) row)
front_passed watch n row e rest h w =
    subst (IsWatchOf watch) (append_assoc (take n row) (entry_token Other e.first ∷ []) h.numbers ∙ sym h.front.took)
    (numbers_passed watch (take n row ++ entry_token Other e.first ∷ []) h.numbers h.all w)
