-- What was found in fonts, by their names, and what is left of them.
-- Each font's rows leave the list when they are taken, so what is left after some fonts is what these don't have.
use Rattle.std.proofs.Common.{◌≡◌, ◌<◌, ◌+◌, ◌&&◌, ◌||◌, ℕ, Bool, true, false, true≢false, List, [], ◌∷◌, ◌++◌, length, take, get_or, Option, None, Some, cond, is_some, option_map, string_bytes, inl, inr, refl, sym, ap, ap₂, subst, ◌∙◌}
use Rattle.std.proofs.lemmas.Bool.{cases_Bool}
use Rattle.std.proofs.lemmas.List.{take_more}
use Rattle.std.specs.Borrow.{Bor}
use Rattle.std.specs.Map.{lookup, set_value}
use Rattle.std.specs.Option.{option_or}
use Rattle.std.specs.Str.{bytes_eq}
use Rattle.t1_many.proofs.Texts.{apart, equal, itself}
use Rattle.t1_many.specs.KnownFaults.{is_among}
use Rattle.t1_many.specs.declared.readings.Reading.{Reading}
use Rattle.t1_known.specs.Private.Fonts.{FontsLeft, IsLeft, IsLeftToo, IsTaken, first_of, left_at, left_of, now_of}

pub flip : (a b : List ℕ) → bytes_eq a b ≡ bytes_eq b a
flip a b = elim (cases_Bool (bytes_eq a b)) [
  | inl same ↦ (let is : a ≡ b = equal a b same in let other : bytes_eq b a ≡ true = subst (λ t. bytes_eq t a ≡ true) is (itself a) in same ∙ sym other)
  | inr other ↦ other ∙ sym (apart a b other)
]

pub lookup-push : {K X : Type 0} (test : K → Bool) (es : List (K × X)) (k : K) (x : X)
    → lookup test (es ++ (k, x) ∷ []) ≡ option_or (lookup test es) (cond (test k) (Some x) None)
lookup-push test [] k x = refl
lookup-push test (e ∷ es) k x = elim (cases_Bool (test e.0)) [
  | inl here ↦ rw here refl
  | inr other ↦ rw other (lookup-push test es k x)
]

pub first-push : (readings : List Reading) (reading : Reading) (font : List ℕ)
    → first_of (readings ++ reading ∷ []) font
    ≡ option_or (first_of readings font) (cond (bytes_eq (string_bytes reading.font) font) (Some reading) None)
first-push [] reading font = refl
first-push (r ∷ readings) reading font = elim (cases_Bool (bytes_eq (string_bytes r.font) font)) [
  | inl here ↦ rw here refl
  | inr other ↦ rw other (first-push readings reading font)
]

-- ---- all are left

left-push : (left : FontsLeft) (key : Bor (List ℕ)) (r : Option (Bor Reading)) (font : List ℕ)
    → left_at (left ++ (key, r) ∷ []) font ≡ option_or (left_at left font) (cond (bytes_eq font key.now) (Some (now_of r)) None)
left-push left key r font =
    ap (option_map now_of) (lookup-push (λ (k : Bor (List ℕ)). bytes_eq font k.now) left key r)
    ∙ go (lookup (λ (k : Bor (List ℕ)). bytes_eq font k.now) left) (bytes_eq font key.now)
  where
    go : (o : Option (Option (Bor Reading))) (b : Bool)
        → option_map now_of (option_or o (cond b (Some r) None)) ≡ option_or (option_map now_of o) (cond b (Some (now_of r)) None)
    go (Some l) b = refl
    go None true = refl
    go None false = refl

-- where none is done
abbrev whole : Option Reading → Option (Option Reading)
whole o = left_of o false

or_whole : (a : Option Reading) (b : Bool) (r : Reading) → whole (option_or a (cond b (Some r) None)) ≡ option_or (whole a) (cond b (Some (Some r)) None)
or_whole (Some l) b r = refl
or_whole None true r = refl
or_whole None false r = refl

module _ (readings : List Reading) (left : FontsLeft) (is : IsLeft readings [] left) (reading : Reading) where
  abbrev name : List ℕ
  name = string_bytes reading.font

  pub left_more : (key : Bor (List ℕ)) (r : Bor Reading) (new : FontsLeft) → key.now ≡ name → r.now ≡ reading
      → new ≡ left ++ (key, Some r) ∷ [] → IsLeft (readings ++ reading ∷ []) [] new
  left_more key r new key_is r_is new_is = λ font.
      let same : bytes_eq font key.now ≡ bytes_eq name font = ap (bytes_eq font) key_is ∙ flip font name in
      ap (λ (l : FontsLeft). left_at l font) new_is ∙ left-push left key (Some r) font
      ∙ ap₂ (λ b (x : Reading). option_or (left_at left font) (cond b (Some (Some x)) None)) same r_is
      ∙ ap (λ o. option_or o (cond (bytes_eq name font) (Some (Some reading)) None)) (is font)
      ∙ sym (ap whole (first-push readings reading font) ∙ or_whole (first_of readings font) (bytes_eq name font) reading)

  pub left_before : is_some (left_at left name) ≡ true → IsLeft (readings ++ reading ∷ []) [] left
  left_before there = λ font. is font ∙ ap whole (stays font ∙ sym (first-push readings reading font))
    where
      first : (o : Option Reading) (more : Option Reading) → is_some (whole o) ≡ true → o ≡ option_or o more
      first None more found = absurd (true≢false (sym found))
      first (Some r) more found = refl

      none : (o : Option Reading) → o ≡ option_or o None
      none None = refl
      none (Some r) = refl

      stays : (font : List ℕ) → first_of readings font ≡ option_or (first_of readings font) (cond (bytes_eq name font) (Some reading) None)
      stays font = elim (cases_Bool (bytes_eq name font)) [
        | inl same ↦
            first (first_of readings font) (cond (bytes_eq name font) (Some reading) None)
            (subst (λ f. is_some (whole (first_of readings f)) ≡ true) (equal name font same) (ap is_some (sym (is name)) ∙ there))
        | inr other ↦ rw other (none (first_of readings font))
      ]

abbrev pub contains : FontsLeft → List ℕ → Bool
contains left font = is_some (lookup (λ k. bytes_eq font k.now) left)

pub some_left : (left : FontsLeft) (font : List ℕ) → is_some (left_at left font) ≡ contains left font
some_left left font = go (lookup (λ (k : Bor (List ℕ)). bytes_eq font k.now) left)
  where
    go : (o : Option (Option (Bor Reading))) → is_some (option_map now_of o) ≡ is_some o
    go None = refl
    go (Some r) = refl

pub none_left : (left : FontsLeft) → left ≡ [] → IsLeft [] [] left
none_left left none = λ font. ap (λ (l : FontsLeft). left_at l font) none

pub left_next : (texts : List Reading) (i : ℕ) (d : Reading) (old new : FontsLeft) → i < length texts → IsLeft (take i texts) [] old
    → IsLeftToo (get_or texts i d) old new → IsLeft (take (i + 1) texts) [] new
left_next texts i d old new within is more =
    subst (λ (ts : List Reading). IsLeft ts [] new) (sym (take_more texts i d within)) (more (take i texts) is)

-- ---- the rows of a font are taken

module _ (texts : List Reading) (done : List (List ℕ)) (font : List ℕ) (old new : FontsLeft) (is : IsLeft texts done old) (taken : IsTaken font old new) where
  abbrev here : Option Reading
  here = first_of texts font

  -- a font that wasn't read, or that is done
  still : left_at old font ≡ left_of (first_of texts font) (is_among done font) → left_of (first_of texts font) (is_among done font) ≡ None
      → IsLeft texts done new
  still at none = λ other.
      taken other
      ∙ ap (λ o. cond (bytes_eq font other && is_some o) (Some None) (left_at old other)) (at ∙ none) ∙ no (bytes_eq font other) (left_at old other) ∙ is other
    where
      no : (b : Bool) (o : Option (Option Reading)) → cond (b && false) (Some None) o ≡ o
      no true o = refl
      no false o = refl

  -- one that was read
  one_done : (now : List (List ℕ)) → is_among now font ≡ true → ((other : List ℕ) → bytes_eq font other ≡ false → is_among now other ≡ is_among done other)
      → (rows : Reading) → first_of texts font ≡ Some rows → IsLeft texts now new
  one_done now there others rows read = λ other. elim (cases_Bool (bytes_eq font other)) [
    | inl same ↦
        let is_font : font ≡ other = equal font other same in
        let some : is_some (left_at old font) ≡ true = ap is_some (is font ∙ ap (λ o. left_of o (is_among done font)) read) in
        let empty : left_at new other ≡ Some None =
        taken other ∙ ap₂ (λ a b. cond (a && b) (Some None) (left_at old other)) same some in
        let left : left_of (first_of texts other) (is_among now other) ≡ Some None =
        subst (λ f. left_of (first_of texts f) (is_among now f) ≡ Some None) is_font (ap₂ left_of read there) in
        empty ∙ sym left
    | inr apart ↦
        taken other ∙ ap (λ a. cond (a && is_some (left_at old font)) (Some None) (left_at old other)) apart ∙ is other
        ∙ ap (left_of (first_of texts other)) (sym (others other apart))
  ]

  -- What is left of a font, and of which fonts nothing is left after it.
  pub data Takes : Type 0 where
    unread : first_of texts font ≡ None → left_at old font ≡ None → IsLeft texts done new → IsLeft texts (font ∷ done) new → Takes
    again : (rows : Reading) → first_of texts font ≡ Some rows → is_among done font ≡ true → left_at old font ≡ Some None → IsLeft texts done new → Takes
    first : (rows : Reading) → first_of texts font ≡ Some rows → is_among done font ≡ false → left_at old font ≡ Some (Some rows)
        → IsLeft texts (font ∷ done) new → Takes

  pub takes : Takes
  takes = go (first_of texts font) refl (is_among done font) refl
    where
      go : (o : Option Reading) → first_of texts font ≡ o → (b : Bool) → is_among done font ≡ b → Takes
      go None read b among =
          let none : left_of (first_of texts font) (is_among done font) ≡ None = ap (λ o. left_of o (is_among done font)) read in
          let left : IsLeft texts done new = still (is font) none in
          unread read (is font ∙ none) left (λ other. left other ∙ unlike other read)
        where
          unlike : (other : List ℕ) → first_of texts font ≡ None
              → left_of (first_of texts other) (is_among done other) ≡ left_of (first_of texts other) (is_among (font ∷ done) other)
          unlike other none = elim (cases_Bool (bytes_eq other font)) [
            | inl same ↦
                let is_font : other ≡ font = equal other font same in
                let nowhere : first_of texts other ≡ None = ap (first_of texts) is_font ∙ none in
                ap (λ o. left_of o (is_among done other)) nowhere ∙ sym (ap (λ o. left_of o (is_among (font ∷ done) other)) nowhere)
            | inr apart ↦ sym (ap (λ b. left_of (first_of texts other) (b || is_among done other)) apart)
          ]
      go (Some rows) read true among =
          again rows read among (is font ∙ ap₂ left_of read among) (one_done done among (λ other apart. refl) rows read)
      go (Some rows) read false among =
          first rows read among (is font ∙ ap₂ left_of read among)
          (one_done (font ∷ done) (ap (λ b. b || is_among done font) (itself font))
          (λ other apart. ap (λ b. b || is_among done other) (flip other font ∙ apart)) rows read)

-- ---- nothing is left of a font whose rows were taken

module _ (font : List ℕ) (rows : Option (Bor Reading)) where
  pub taken_from : (left : FontsLeft) (other : List ℕ)
      → left_at (set_value (λ k. bytes_eq font k.now) left rows) other
      ≡ cond (bytes_eq font other && is_some (left_at left font)) (Some (now_of rows)) (left_at left other)
  taken_from [] other = sym (no (bytes_eq font other))
    where
      no : (b : Bool) → cond (b && false) (Some (now_of rows)) None ≡ None
      no true = refl
      no false = refl
  taken_from (e ∷ left) other = elim (cases_Bool (bytes_eq font e.0.now)) [
    | inl here ↦
        let key : font ≡ e.0.now = equal font e.0.now here in
        rw here (elim (cases_Bool (bytes_eq font other)) [
          | inl same ↦
              let there : bytes_eq other e.0.now ≡ true = subst (λ f. bytes_eq other f ≡ true) key (flip other font ∙ same) in
              rw (same, there) refl
          | inr apart ↦
              let nowhere : bytes_eq other e.0.now ≡ false = subst (λ f. bytes_eq other f ≡ false) key (flip other font ∙ apart) in
              rw (apart, nowhere) refl
        ])
    | inr later ↦ rw later (elim (cases_Bool (bytes_eq other e.0.now)) [
      | inl there ↦
          let key : other ≡ e.0.now = equal other e.0.now there in
          let apart : bytes_eq font other ≡ false = subst (λ f. bytes_eq font f ≡ false) (sym key) later in
          rw (there, apart) refl
      | inr nowhere ↦ rw nowhere (taken_from left other)
    ])
  ]
