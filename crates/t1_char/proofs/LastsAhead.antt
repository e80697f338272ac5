-- Where more than one byte is left, neither End nor a return and End follows.
use Rattle.std.proofs.Common.{◌≡◌, ℕ, zero, suc, ◌<◌, ◌==◌, Bool, true, false, not, nat_lt, ◌&&◌, if◌then◌else◌, cond, Option, List, [], ◌∷◌, length, refl, ap, ◌∙◌, arith}
use Rattle.t1_char.specs.declared.command.Command.{Command as Commands}
use Rattle.t1_char.specs.declared.cursor.Cursor.{Cursor}
use Rattle.t1_char.specs.declared.token.CharToken.{CharToken}
use Rattle.t1_char.specs.declared.token.CharToken.TheVariants.{End, Short}
use Rattle.t1_char.specs.Commands.{escaped_of}
use Rattle.t1_char.specs.Tokens.{Form, whole, two, five, form_of, completed, more_in, escaped_code, long_number, tokens_behind, tokens_of}
use Rattle.t1_char.specs.Steps.{is_end, is_return, is_last}
use Rattle.t1_char.specs.Private.Cursors.{bytes_left, tokens_left, behind_token, deciphered, key_after, key_of}

-- As many bytes are left as are to be deciphered.
pub length_deciphered : (key : Option ℕ) (bytes : List ℕ) → length (deciphered key bytes) ≡ length bytes
unfolding deciphered
length_deciphered key [] = refl
length_deciphered key (c ∷ rest) = ap (λ n. suc n) (length_deciphered (key_after key c) rest)

-- A return isn't written by two bytes.
abbrev NoReturn : (ℕ → CharToken) → Type 0
NoReturn token = (w : ℕ) → is_return (token w) ≡ false

abbrev Opens : Form → Type 0
Opens (whole token) = Unit {0}
Opens (two token) = NoReturn token
Opens five = Unit {0}

either_opens : (b : Bool) (f g : Form) → Opens f → Opens g → Opens (if b then f else g)
either_opens true f g first second = first
either_opens false f g first second = second

abbrev no_return : ℕ → Option Commands → Bool
no_return w command = is_return (escaped_code w command)

either_command : (w : ℕ) (b : Bool) (x y : Option Commands) → no_return w x ≡ false → no_return w y ≡ false → no_return w (if b then x else y) ≡ false
either_command w true x y first second = first
either_command w false x y first second = second

escaped_opens : (w : ℕ) → is_return (escaped_code w (escaped_of w)) ≡ false
escaped_opens w =
    either_command w (w == 0) _ _ refl (either_command w (w == 1) _ _ refl (either_command w (w == 2) _ _ refl
    (either_command w (w == 6) _ _ refl (either_command w (w == 7) _ _ refl (either_command w (w == 12) _ _ refl
    (either_command w (w == 16) _ _ refl (either_command w (w == 17) _ _ refl (either_command w (w == 33) _ _ refl refl))))))))

form_opens : (v : ℕ) → Opens (form_of v)
form_opens v =
    either_opens (nat_lt v 32) _ _ (either_opens (v == 12) _ _ escaped_opens tt)
    (either_opens (nat_lt v 247) _ _ tt
    (either_opens (nat_lt v 251) _ _ (λ w. refl)
    (either_opens (nat_lt v 255) _ _ (λ w. refl) tt)))

-- Some token follows bytes.
abbrev IsMore : List CharToken → Type 0
IsMore [] = ⊥
IsMore (t ∷ ts) = Unit {0}

more_behind : (n : ℕ) (bytes : List ℕ) → IsMore (tokens_behind n bytes)
unfolding tokens_behind
more_behind zero [] = tt
more_behind (suc n) [] = tt
more_behind zero (v ∷ rest) = tt
more_behind (suc n) (v ∷ rest) = more_behind n rest

third_follows : (depth : ℕ) (t u : CharToken) (ts : List CharToken) → IsMore ts → is_last depth (t ∷ u ∷ ts) ≡ false
third_follows depth t u [] more = absurd more
third_follows depth t u (v ∷ ts) more = refl

other_follows : (depth : ℕ) (t : CharToken) (ts : List CharToken) → IsMore ts → is_return t ≡ false → is_last depth (t ∷ ts) ≡ false
other_follows depth t [] more other = absurd more
other_follows depth t (u ∷ []) more other = ap (λ b. b && is_end u) (ap (λ b. nat_lt 0 depth && b) other ∙ never (nat_lt 0 depth))
  where
    never : (b : Bool) → (b && false) ≡ false
    never true = refl
    never false = refl
other_follows depth t (u ∷ v ∷ ts) more other = refl

five_other : (b : ℕ) (rest : List ℕ) → is_return (long_number (b ∷ rest)) ≡ false
five_other b [] = refl
five_other b (c ∷ []) = refl
five_other b (c ∷ d ∷ []) = refl
five_other b (c ∷ d ∷ e ∷ rest) = refl

not_last : (depth : ℕ) (f : Form) (b : ℕ) (rest : List ℕ) → Opens f → is_last depth (completed f (b ∷ rest) ∷ tokens_behind (more_in f) (b ∷ rest)) ≡ false
unfolding tokens_behind
not_last depth (whole token) b rest opens = third_follows depth token (completed (form_of b) rest) (tokens_behind (more_in (form_of b)) rest)
    (more_behind (more_in (form_of b)) rest)
not_last depth (two token) b rest opens = other_follows depth (token b) (tokens_behind 1 (b ∷ rest)) (more_behind 1 (b ∷ rest)) (opens b)
not_last depth five b rest opens = other_follows depth (long_number (b ∷ rest)) (tokens_behind 4 (b ∷ rest)) (more_behind 4 (b ∷ rest)) (five_other b rest)

bytes_follow : (depth : ℕ) (bytes : List ℕ) → 1 < length bytes → is_last depth (tokens_of bytes) ≡ false
unfolding tokens_behind
bytes_follow depth [] more = absurd (omega (arith, more))
bytes_follow depth (a ∷ []) more = absurd (omega (arith, more))
bytes_follow depth (a ∷ b ∷ rest) more = not_last depth (form_of a) b rest (form_opens a)

tokens_follow : (depth : ℕ) (short : Bool) (bytes : List ℕ) → 1 < length bytes
    → is_last depth (if short then Short ∷ tokens_of bytes else tokens_of bytes) ≡ false
tokens_follow depth true bytes more = other_follows depth Short (tokens_of bytes) (more_behind 0 bytes) refl
tokens_follow depth false bytes more = bytes_follow depth bytes more

pub last_nowhere : (depth : ℕ) (token : CharToken) (cursor : Cursor) → 1 < length (bytes_left cursor)
    → is_last depth (behind_token token (tokens_left cursor)) ≡ false
last_nowhere depth token cursor more = by_end (is_end token)
  where
    by_end : (b : Bool) → is_last depth (cond b [] (tokens_left cursor)) ≡ false
    by_end true = refl
    by_end false = tokens_follow depth cursor.short (bytes_left cursor) more

-- The end alone.
pub none_behind : (cursor : Cursor) → cursor.short ≡ false → length cursor.left.now ≡ 0 → tokens_left cursor ≡ End ∷ []
unfolding deciphered tokens_behind
none_behind cursor full none = by_parts cursor.short (key_of cursor.cipher) cursor.left.now full none
  where
    by_parts : (short : Bool) (key : Option ℕ) (left : List ℕ) → short ≡ false → length left ≡ 0
        → (if short then Short ∷ tokens_of (deciphered key left) else tokens_of (deciphered key left)) ≡ End ∷ []
    by_parts true key left is none = let no : true ≡ false = is in cc
    by_parts false key [] is none = refl
    by_parts false key (c ∷ rest) is none = absurd (omega (arith, none))

pub last_of_none : (depth : ℕ) (token : CharToken) (tokens : List CharToken) → tokens ≡ End ∷ []
    → is_last depth (behind_token token tokens) ≡ not (is_end token)
last_of_none depth token tokens is = ap (λ ts. is_last depth (behind_token token ts)) is ∙ by_end (is_end token)
  where
    by_end : (b : Bool) → is_last depth (cond b [] (End ∷ [])) ≡ not b
    by_end true = refl
    by_end false = refl
