-- What is read is a token in its plain form, and a text that doesn't begin with such a token is refused.
use Rattle.std.proofs.Common.{◌≡◌, ◌==◌, ℕ, ℤ, suc, Bool, true, false, ◌||◌, not, Option, Some, None, Result, Ok, Err, List, [], ◌∷◌, ◌++◌, length, drop, take, is_none, refl, sym, ap, subst, ◌∙◌, ◌⊎◌, inl, inr, arith}
use Rattle.std.proofs.Math.Seq.{drop-length}
use Rattle.std.proofs.lemmas.Bool.{and_from, and_parts, cases_Bool, false≢true}
use Rattle.std.proofs.lemmas.Bool.Decides.{nat_tests}
use Rattle.std.proofs.lemmas.List.{take-append-drop, append_assoc}
use Rattle.std.specs.List.{list_all}
use Rattle.t1_scan.specs.declared.error.ScanError.{ScanError}
use Rattle.t1_scan.specs.declared.error.ScanError.TheVariants.{Unclosed}
use Rattle.t1_scan.specs.Bytes.{is_blank, is_regular}
use Rattle.t1_scan.specs.Lengths.{further, is_comment_after, blank_len, run_len, string_len, angle_len, part_len, inside_len, token_len}
use Rattle.t1_scan.specs.Numbers.{number_of}
use Rattle.t1_scan.specs.Tokens.{Found, cut, first_of, token_of}
use Rattle.t1_scan.specs.Spelling.{letters_text, body_text, Plain, name, word, single, double_open, double_close, parenthesized, angled, braced, bracketed, spelled, meant}
use Rattle.t1_scan.specs.Laws.{FindsToken, EndsInBlanks, RefusesTheRest}
use Rattle.t1_scan.specs.Texts.{IsReadable, are_blanks, ends_run, can_end, BeginsWith, IsReading}
use Rattle.t1_scan.proofs.Prefixes.{prefix_all, prefix_stops}
use Rattle.t1_scan.proofs.StringsFound.{is_byte, further_some, none_some, has_letters, has_hexadecimal}
use Rattle.t1_scan.proofs.NumbersFound.{is_number}
use Rattle.t1_scan.proofs.BodiesFound.{has_body}
use Rattle.t1_scan.proofs.PartsFound.{list_cases, not_angle, no_angle, angle_other}
use Rattle.t1_scan.proofs.TextsRead.{reads_token}
use Rattle.t1_scan.proofs.TokensRead.{answer}
use Rattle.t1_scan.proofs.Cover.{gap_front, all_blanks}

-- a token before a text
record HasToken (s : List ℕ) : Type 0 where
  token : Plain
  rest : List ℕ
  readable : IsReadable token
  ends : can_end token rest ≡ true
  whole : s ≡ spelled token ++ rest

-- the longest leading run
run_stops : (s : List ℕ) → ends_run (drop (run_len s) s) ≡ true
run_stops s =
    elim (list_cases (drop (run_len s) s)) [
      | inl none ↦ rw none refl
      | inr w ↦ (let stops = prefix_stops is_regular s w.0 w.1 w.2 in rw w.2 (rw stops refl))
    ]

name_token : (u : List ℕ) → HasToken (47 ∷ u)
name_token u = record {
  token = name (take (run_len u) u);
  rest = drop (run_len u) u;
  readable = record { plain = prefix_all is_regular u; shallow = omega arith };
  ends = run_stops u;
  whole = ap (λ t. 47 ∷ t) (sym (take-append-drop (run_len u) u));
}

number_cases : (o : Option ℤ) → (is_none o ≡ true) ⊎ ((v : ℤ) × (o ≡ Some v))
number_cases None = inl refl
number_cases (Some v) = inr (v, refl)

run_token : (b : ℕ) (u : List ℕ) → is_regular b ≡ true → HasToken (b ∷ u)
run_token b u h =
    let run = b ∷ take (run_len u) u in
    let rest = drop (run_len u) u in
    let whole : b ∷ u ≡ run ++ rest = ap (λ t. b ∷ t) (sym (take-append-drop (run_len u) u)) in
    let regular : list_all is_regular run ≡ true = and_from (is_regular b) (list_all is_regular (take (run_len u) u)) h (prefix_all is_regular u) in
    let some : (length run == 0) ≡ false = grind (arith, nat_tests) in
    elim (number_cases (number_of run)) [
      | inl none ↦ record {
        token = word run;
        rest = rest;
        readable = record { plain = rw (regular, some, none) refl; shallow = omega arith };
        ends = run_stops u;
        whole = whole;
      }
      | inr w ↦
          (let x = is_number run w.0 w.1 in
          record {
            token = x.token;
            rest = rest;
            readable = record { plain = x.plain; shallow = omega (arith, x.depth) };
            ends = x.ends rest (run_stops u);
            whole = whole ∙ ap (λ t. t ++ rest) (sym x.text);
          })
    ]

close_token : (u : List ℕ) → HasToken (62 ∷ u)
close_token [] = record { token = single 62; rest = []; readable = record { plain = refl; shallow = omega arith }; ends = refl; whole = refl }
close_token (c ∷ u) =
    elim (cases_Bool (c == 62)) [
      | inl h ↦ record {
        token = double_close;
        rest = u;
        readable = record { plain = refl; shallow = omega arith };
        ends = refl;
        whole =
            ap (λ x. 62 ∷ x ∷ u) (is_byte c 62 h);
      }
      | inr h ↦ record { token = single 62; rest = c ∷ u; readable = record { plain = refl; shallow = omega arith }; ends = rw h refl; whole = refl }
    ]

string_token : (u : List ℕ) (m : ℕ) → string_len false 1 u ≡ Some m → HasToken (40 ∷ u)
string_token u m e =
    let l = has_letters (length u) 0 u m (omega arith) e in
    record {
      token = parenthesized l.letters;
      rest = l.rest;
      readable = record { plain = l.plain; shallow = omega arith };
      ends = refl;
      whole = ap (λ t. 40 ∷ t) (l.whole ∙ sym (append_assoc (letters_text l.letters) (41 ∷ []) l.rest));
    }

angle_token : (u : List ℕ) (m : ℕ) → angle_len u ≡ Some m → HasToken (60 ∷ u)
angle_token [] m e = absurd (none_some no_angle e)
angle_token (c ∷ u) m e =
    elim (cases_Bool (c == 60)) [
      | inl h ↦ record {
        token = double_open;
        rest = u;
        readable = record { plain = refl; shallow = omega arith };
        ends = refl;
        whole =
            ap (λ x. 60 ∷ x ∷ u) (is_byte c 60 h);
      }
      | inr h ↦
          (let x = has_hexadecimal (c ∷ u) m (sym (angle_other c u h) ∙ e) in
          record {
            token = angled x.bytes;
            rest = x.rest;
            readable = record {
              plain = and_from _ (list_all (λ b. not (b == 62)) x.bytes) (not_angle c u x.bytes x.rest x.whole h)
                  x.plain;
              shallow = omega arith;
            };
            ends = refl;
            whole = ap (λ t. 60 ∷ t) (x.whole ∙ sym (append_assoc x.bytes (62 ∷ []) x.rest));
          })
    ]

procedure_token : (u : List ℕ) (m : ℕ) → inside_len 0 0 1 u ≡ Some m → HasToken (123 ∷ u)
procedure_token u m e =
    let x = has_body (suc (length u)) true 0 0 u m refl (omega arith) (omega arith) e in
    record {
      token = braced x.body;
      rest = x.rest;
      readable = record { plain = x.plain; shallow = omega (arith, x.shallow) };
      ends = refl;
      whole = ap (λ t. 123 ∷ t) (x.whole ∙ sym (append_assoc (body_text x.body) (125 ∷ []) x.rest));
    }

array_token : (u : List ℕ) (m : ℕ) → inside_len 0 1 0 u ≡ Some m → HasToken (91 ∷ u)
array_token u m e =
    let x = has_body (suc (length u)) false 0 0 u m refl (omega arith) (omega arith) e in
    record {
      token = bracketed x.body;
      rest = x.rest;
      readable = record { plain = x.plain; shallow = omega (arith, x.shallow) };
      ends = refl;
      whole = ap (λ t. 91 ∷ t) (x.whole ∙ sym (append_assoc (body_text x.body) (93 ∷ []) x.rest));
    }

len_40 : (u : List ℕ) → token_len 40 u ≡ further 1 (string_len false 1 u)
unfolding token_len part_len
len_40 u = refl

len_60 : (u : List ℕ) → token_len 60 u ≡ further 1 (angle_len u)
unfolding token_len part_len
len_60 u = refl

len_91 : (u : List ℕ) → token_len 91 u ≡ further 1 (inside_len 0 1 0 u)
unfolding token_len
len_91 u = refl

len_123 : (u : List ℕ) → token_len 123 u ≡ further 1 (inside_len 0 0 1 u)
unfolding token_len
len_123 u = refl

-- one of ) ] }
other_token : (b : ℕ) (u : List ℕ) → not (is_blank b || b == 37) ≡ true → is_regular b ≡ false → (b == 47) ≡ false → (b == 40) ≡ false → (b == 60) ≡ false
    → (b == 91) ≡ false → (b == 123) ≡ false → (b == 62) ≡ false → HasToken (b ∷ u)
other_token b u starts other h47 h40 h60 h91 h123 h62 =
    let one : (b == 41 || b == 62 || b == 93 || b == 125) ≡ true = grind (arith, nat_tests) in
    record { token = single b; rest = u; readable = record { plain = one; shallow = omega arith }; ends = rw h62 refl; whole = refl }

has_token : (b : ℕ) (u : List ℕ) (n : ℕ) → not (is_blank b || b == 37) ≡ true → token_len b u ≡ Some n → HasToken (b ∷ u)
has_token b u n starts e =
    let P : ℕ → Type 0 = λ c. token_len c u ≡ Some n → HasToken (c ∷ u) in
    elim (cases_Bool (is_regular b)) [
      | inl h ↦ run_token b u h
      | inr other ↦ elim (cases_Bool (b == 47)) [
        | inl h ↦ subst P (sym (is_byte b 47 h)) (λ f. name_token u) e
        | inr h47 ↦ elim (cases_Bool (b == 40)) [
          | inl h ↦ subst P (sym (is_byte b 40 h)) (λ f. (let q = further_some 1 n (string_len false 1 u) (sym (len_40 u) ∙ f) in string_token u q.0 q.1)) e
          | inr h40 ↦ elim (cases_Bool (b == 60)) [
            | inl h ↦ subst P (sym (is_byte b 60 h)) (λ f. (let q = further_some 1 n (angle_len u) (sym (len_60 u) ∙ f) in angle_token u q.0 q.1)) e
            | inr h60 ↦ elim (cases_Bool (b == 91)) [
              | inl h ↦ subst P (sym (is_byte b 91 h)) (λ f. (let q = further_some 1 n (inside_len 0 1 0 u) (sym (len_91 u) ∙ f) in array_token u q.0 q.1)) e
              | inr h91 ↦ elim (cases_Bool (b == 123)) [
                | inl h ↦ subst P (sym (is_byte b 123 h))
                    (λ f. (let q = further_some 1 n (inside_len 0 0 1 u) (sym (len_123 u) ∙ f) in procedure_token u q.0 q.1)) e
                | inr h123 ↦ elim (cases_Bool (b == 62)) [
                  | inl h ↦ subst P (sym (is_byte b 62 h)) (λ f. close_token u) e
                  | inr h62 ↦ other_token b u starts other h47 h40 h60 h91 h123 h62
                ]
              ]
            ]
          ]
        ]
      ]
    ]

-- the text from its blanks on
with_gap : (s : List ℕ) (b : ℕ) (u : List ℕ) → drop (blank_len false s) s ≡ b ∷ u → (x : HasToken (b ∷ u)) → BeginsWith s x.token x.rest
with_gap s b u e x = record {
  gap = take (blank_len false s) s;
  blanks = (gap_front false s b u e).gap;
  readable = x.readable;
  ends = x.ends;
  whole = sym (take-append-drop (blank_len false s) s) ∙ ap (λ r. take (blank_len false s) s ++ r) (e ∙ x.whole);
}

same_answer : (s : List ℕ) (found : Found) (x : Plain) (rest : List ℕ) → token_of s ≡ Ok (Some found) → token_of s ≡ answer (meant x) (spelled x) rest
    → record { kind = meant x; text = spelled x; rest = rest } ≡ found
same_answer s found x rest h e = cc

reading_of : (s : List ℕ) (found : Found) (x : Plain) (rest : List ℕ) → BeginsWith s x rest → token_of s ≡ Ok (Some found) → IsReading s found
reading_of s found x rest begins h =
    let same = same_answer s found x rest h (reads_token s x rest begins) in
    record {
      token = x;
      begins = subst (λ (f : Found). BeginsWith s x f.rest) same begins;
      text = ap (λ (f : Found). f.text) same;
      kind = ap (λ (f : Found). f.kind) same;
    }

cut_len : (b : ℕ) (u : List ℕ) (o : Option ℕ) (found : Found) → cut (b ∷ u) o ≡ Ok (Some found) → (n : ℕ) × (o ≡ Some n)
cut_len b u None found h = cc
cut_len b u (Some n) found h = (n, refl)

first_len : (r : List ℕ) (found : Found) → first_of r ≡ Ok (Some found) → (b : ℕ) × (u : List ℕ) × (n : ℕ) × (r ≡ b ∷ u) × (token_len b u ≡ Some n)
first_len [] found h = cc
first_len (b ∷ u) found h = let p = cut_len b u (token_len b u) found h in (b, u, p.0, refl, p.1)

pub finds_token : FindsToken
finds_token s found h =
    let p = first_len (drop (blank_len false s) s) found h in
    let starts = (gap_front false s p.0 p.1 p.3).starts in
    let x = has_token p.0 p.1 p.2 starts p.4 in
    reading_of s found x.token x.rest (with_gap s p.0 p.1 p.3 x) h

blanks_all : (c : Bool) (s : List ℕ) → are_blanks c s ≡ true → blank_len c s ≡ length s
unfolding blank_len
blanks_all c [] h = refl
blanks_all c (b ∷ s) h =
    let p = and_parts (c || (is_blank b || b == 37)) (are_blanks (is_comment_after c b) s) h in
    rw (p.0, blanks_all (is_comment_after c b) s p.1) (omega arith)

no_token : (s : List ℕ) → are_blanks false s ≡ true → token_of s ≡ Ok None
no_token s h = rw (blanks_all false s h, drop-length s) refl

pub ends_in_blanks : EndsInBlanks
ends_in_blanks s = (all_blanks s, no_token s)

answers : (r : Result (Option Found) ScanError) → (r ≡ Err Unclosed) ⊎ ((r ≡ Ok None) ⊎ ((found : Found) × (r ≡ Ok (Some found))))
answers (Err Unclosed) = inl refl
answers (Ok None) = inr (inl refl)
answers (Ok (Some found)) = inr (inr (found, refl))

not_read : {r : Result (Option Found) ScanError} {found : Found} → r ≡ Err Unclosed → r ≡ Ok (Some found) → ⊥
not_read h e = cc

not_ended : {r : Result (Option Found) ScanError} → r ≡ Err Unclosed → r ≡ Ok None → ⊥
not_ended h e = cc

refused : (s : List ℕ) → token_of s ≡ Err Unclosed → (are_blanks false s ≡ false) × ((t : Plain) (rest : List ℕ) → BeginsWith s t rest → ⊥)
refused s h = (
  elim (cases_Bool (are_blanks false s)) [ inl blanks ↦ absurd (not_ended h (no_token s blanks)) | inr more ↦ more ],
  λ t rest begins. not_read h
      (reads_token s t rest begins),
)

refuses : (s : List ℕ) → (are_blanks false s ≡ false) × ((t : Plain) (rest : List ℕ) → BeginsWith s t rest → ⊥) → token_of s ≡ Err Unclosed
refuses s h =
    elim (answers (token_of s)) [
      | inl e ↦ e
      | inr o ↦ elim o [
        | inl none ↦ absurd (false≢true (sym h.0 ∙ all_blanks s none))
        | inr w ↦ (let x = finds_token s w.0 w.1 in absurd (h.1 x.token w.0.rest x.begins))
      ]
    ]

pub refuses_the_rest : RefusesTheRest
refuses_the_rest s = (refused s, refuses s)
