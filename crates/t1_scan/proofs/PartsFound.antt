-- Where an array or a procedure ends, each part in it was spelled in plain form.
use Rattle.std.proofs.Common.{◌≡◌, ◌+◌, ◌==◌, ◌≤◌, ℕ, suc, Bool, true, false, not, Option, Some, None, List, [], ◌∷◌, ◌++◌, length, drop, take, refl, sym, ap, subst, ◌∙◌, ◌⊎◌, inl, inr, arith, append_assoc}
use Rattle.std.proofs.lemmas.Bool.{and_from, cases_Bool, false≢true}
use Rattle.std.proofs.lemmas.List.{take-append-drop}
use Rattle.std.proofs.lemmas.List.Sums.{prefix_len-le-length}
use Rattle.std.specs.List.{list_all}
use Rattle.t1_scan.specs.Bytes.{is_line_end}
use Rattle.t1_scan.specs.Lengths.{further, comment_len, string_len, close_len, angle_len, part_len, inside_len}
use Rattle.t1_scan.specs.Spelling.{Part, byte, comment, string, hexadecimal, double_angle, part_text, is_idle, is_part, is_not_angle, letters_text}
use Rattle.t1_scan.proofs.Prefixes.{prefix_all, prefix_stops}
use Rattle.t1_scan.proofs.Steps.{further_zero, IsOpenAfter, inside_unclosed}
use Rattle.t1_scan.proofs.BodiesRead.{IsStep, step, arrays_steady, braces_steady}
use Rattle.t1_scan.proofs.StringsFound.{is_byte, none_some, has_letters, has_hexadecimal}

-- nothing, or something
pub option_cases : (o : Option ℕ) → (o ≡ None) ⊎ ((m : ℕ) × (o ≡ Some m))
option_cases None = inl refl
option_cases (Some m) = inr (m, refl)

-- a hexadecimal string doesn't begin with `<`
pub not_angle : (c : ℕ) (t bytes rest : List ℕ) → (c ∷ t) ≡ bytes ++ (62 ∷ rest) → (c == 60) ≡ false → is_not_angle bytes ≡ true
not_angle c t [] rest e h = refl
not_angle c t (b ∷ bytes) rest e h =
    let same : c ≡ b = cc in subst (λ x. not (x == 60) ≡ true) same (rw h refl)

-- a part before what is left
pub record HasPart (f : Bool) (s : List ℕ) : Type 0 where
  pub part : Part
  pub rest : List ℕ
  pub plain : is_part f part ≡ true
  pub whole : s ≡ part_text part ++ rest

pub string_part : (f : Bool) (s : List ℕ) (m : ℕ) → string_len false 1 s ≡ Some m → HasPart f (40 ∷ s)
string_part f s m e =
    let l = has_letters (length s) 0 s m (omega arith) e in
    record {
      part = string l.letters;
      rest = l.rest;
      plain = l.plain;
      whole =
          ap (λ t. 40 ∷ t) (l.whole ∙ sym (append_assoc (letters_text l.letters) (41 ∷ []) l.rest));
    }

pub no_angle : angle_len [] ≡ None
unfolding angle_len
no_angle = refl

pub angle_other : (c : ℕ) (t : List ℕ) → (c == 60) ≡ false → angle_len (c ∷ t) ≡ close_len (c ∷ t)
unfolding angle_len
angle_other c t h = rw h refl

pub angle_part : (f : Bool) (s : List ℕ) (m : ℕ) → angle_len s ≡ Some m → HasPart f (60 ∷ s)
angle_part f [] m e = absurd (none_some no_angle e)
angle_part f (c ∷ t) m e =
    elim (cases_Bool (c == 60)) [
      | inl h ↦ record { part = double_angle; rest = t; plain = refl; whole = ap (λ x. 60 ∷ x ∷ t) (is_byte c 60 h) }
      | inr h ↦
          (let x = has_hexadecimal (c ∷ t) m (sym (angle_other c t h) ∙ e) in
          record {
            part = hexadecimal x.bytes;
            rest = x.rest;
            plain = and_from (is_not_angle x.bytes) (list_all (λ b. not (b == 62)) x.bytes) (not_angle c t x.bytes x.rest x.whole h) x.plain;
            whole = ap (λ u. 60 ∷ u) (x.whole ∙ sym (append_assoc x.bytes (62 ∷ []) x.rest));
          })
    ]

pub not_false : (b : Bool) → not b ≡ false → b ≡ true
not_false true h = refl
not_false false h = absurd (false≢true (sym h))

comment_part : (f : Bool) (s : List ℕ) (b : ℕ) (u : List ℕ) → drop (comment_len s) s ≡ b ∷ u → HasPart f (37 ∷ s)
comment_part f s b u h =
    let p : ℕ → Bool = λ c. not (is_line_end c) in
    let front = take (comment_len s) s in
    let ends = prefix_stops p s b u h in
    record {
      part = comment front b;
      rest = u;
      plain = and_from (list_all p front) (is_line_end b) (prefix_all p s) (not_false (is_line_end b) ends);
      whole = ap (λ t. 37 ∷ t) (sym (take-append-drop (comment_len s) s) ∙ ap (λ t. front ++ t) h ∙ sym (append_assoc front (b ∷ []) u));
    }

unclosed : (a p b : ℕ) (s : List ℕ) → 1 ≤ a + p → (b == 91) ≡ false → (b == 93) ≡ false → (b == 123) ≡ false → (b == 125) ≡ false → part_len b s ≡ None
    → inside_len 0 a p (b ∷ s) ≡ None
unclosed a p b s some h91 h93 h123 h125 e =
    let state : IsOpenAfter (b ∷ s) 0 a p a p = record { within = omega arith; arrays = arrays_steady a p b h91 h93; braces = braces_steady p b h123 h125 } in
    sym (further_zero (inside_len 0 a p (b ∷ s))) ∙ inside_unclosed state e (omega arith)

pub nothing_inside : (a p : ℕ) → inside_len 0 a p [] ≡ None
unfolding inside_len
nothing_inside a p = refl

pub part_40 : (s : List ℕ) → part_len 40 s ≡ further 1 (string_len false 1 s)
unfolding part_len
part_40 s = refl

pub part_60 : (s : List ℕ) → part_len 60 s ≡ further 1 (angle_len s)
unfolding part_len
part_60 s = refl

part_37 : (s : List ℕ) → part_len 37 s ≡ Some (1 + comment_len s)
unfolding part_len
part_37 s = refl

found_string : (f : Bool) (a p : ℕ) (s : List ℕ) (n : ℕ) → 1 ≤ a + p → inside_len 0 a p (40 ∷ s) ≡ Some n → HasPart f (40 ∷ s)
found_string f a p s n some e =
    elim (option_cases (string_len false 1 s)) [
      | inl none ↦ absurd (none_some (unclosed a p 40 s some refl refl refl refl (part_40 s ∙ ap (further 1) none)) e)
      | inr w ↦ string_part f s w.0 w.1
    ]

found_angle : (f : Bool) (a p : ℕ) (s : List ℕ) (n : ℕ) → 1 ≤ a + p → inside_len 0 a p (60 ∷ s) ≡ Some n → HasPart f (60 ∷ s)
found_angle f a p s n some e =
    elim (option_cases (angle_len s)) [
      | inl none ↦ absurd (none_some (unclosed a p 60 s some refl refl refl refl (part_60 s ∙ ap (further 1) none)) e)
      | inr w ↦ angle_part f s w.0 w.1
    ]

-- a comment that the text ends closes nothing
comment_step : (a p : ℕ) (s : List ℕ) → 1 ≤ a + p → a + p ≤ 32 → inside_len 0 a p (37 ∷ s) ≡ further (1 + comment_len s)
    (inside_len 0 a p (drop (comment_len s) s))
comment_step a p s some shallow =
    let state : IsStep a p a p 37 (1 + comment_len s) s = record {
      arrays = arrays_steady a p 37 refl refl;
      braces = braces_steady p 37 refl refl;
      some = some;
      len = part_37 s;
      one = omega arith;
      within = omega (arith, prefix_len-le-length (λ c. not (is_line_end c)) s);
    } in
    let more : 1 + comment_len s ≡ suc (comment_len s) = omega arith in
    step state shallow ∙ ap (λ r. further (1 + comment_len s) (inside_len 0 a p r)) (rw more refl)

pub list_cases : (r : List ℕ) → (r ≡ []) ⊎ ((b : ℕ) × (u : List ℕ) × (r ≡ b ∷ u))
list_cases [] = inl refl
list_cases (b ∷ u) = inr (b, u, refl)

found_comment : (f : Bool) (a p : ℕ) (s : List ℕ) (n : ℕ) → 1 ≤ a + p → a + p ≤ 32 → inside_len 0 a p (37 ∷ s) ≡ Some n → HasPart f (37 ∷ s)
found_comment f a p s n some shallow e =
    elim (list_cases (drop (comment_len s) s)) [
      | inl none ↦ absurd (none_some (comment_step a p s some shallow ∙ ap (λ r. further (1 + comment_len s) (inside_len 0 a p r)) none
          ∙ ap (further (1 + comment_len s)) (nothing_inside a p)) e)
      | inr w ↦ comment_part f s w.0 w.1 w.2
    ]

pub found_part : (f : Bool) (a p b : ℕ) (s : List ℕ) (n : ℕ) → 1 ≤ a + p → a + p ≤ 32
    → ((b == 37) ≡ false → (b == 40) ≡ false → (b == 60) ≡ false → is_idle f b ≡ true) → inside_len 0 a p (b ∷ s) ≡ Some n → HasPart f (b ∷ s)
found_part f a p b s n some shallow idle e =
    let P : ℕ → Type 0 = λ c. inside_len 0 a p (c ∷ s) ≡ Some n → HasPart f (c ∷ s) in
    elim (cases_Bool (b == 37)) [
      | inl h ↦ subst P (sym (is_byte b 37 h)) (found_comment f a p s n some shallow) e
      | inr h37 ↦ elim (cases_Bool (b == 40)) [
        | inl h ↦ subst P (sym (is_byte b 40 h)) (found_string f a p s n some) e
        | inr h40 ↦ elim (cases_Bool (b == 60)) [
          | inl h ↦ subst P (sym (is_byte b 60 h)) (found_angle f a p s n some) e
          | inr h60 ↦ record { part = byte b; rest = s; plain = idle h37 h40 h60; whole = refl }
        ]
      ]
    ]
