-- A token is read from the bytes that write it, whatever follows.
use Rattle.std.proofs.Common.{◌≡◌, ◌≢◌, ℕ, pos, negsuc, neg_ℤ, ◌+◌, ◌-◌, ◌*◌, ◌/◌, ◌%◌, ◌^◌, ◌<◌, ◌≤◌, ◌-ℤ◌, ◌++◌, false, eqb, None, List, [], ◌∷◌, refl, ap, subst, ◌∙◌, lt-ltb, le-ltb, arith}
use Rattle.std.proofs.lemmas.Int.{ints}
use Rattle.t1_char.specs.declared.command.Command.{Command as Commands}
use Rattle.t1_char.specs.declared.command.Command.TheVariants.{Hstem, Vstem, Vmoveto, Rlineto, Hlineto, Vlineto, Rrcurveto, Closepath, Callsubr, Return, Hsbw, Endchar, Rmoveto, Hmoveto, Vhcurveto, Hvcurveto, Dotsection, Vstem3, Hstem3, Seac, Sbw, Div, Callothersubr, Pop, Setcurrentpoint}
use Rattle.t1_char.specs.declared.token.CharToken.{CharToken}
use Rattle.t1_char.specs.declared.token.CharToken.TheVariants.{Number, Command, Unknown, Unknown12, End}
use Rattle.t1_char.specs.Commands.{row_of, command_of, escaped_of}
use Rattle.t1_char.specs.Tokens.{Form, whole, two, form_of, plain_code, escaped_code, completed, more_in, signed_of, tokens_behind, tokens_of}
use Rattle.t1_char.specs.Laws.Written.{IsWritten, small, positive, negative, long, command, unknown, unknown_escape, AreWritten, nothing_left, then, EachNumberIsWritten}

-- The form of the first byte decides.
reads_by : (v : ℕ) (s : List ℕ) (f : Form) → form_of v ≡ f → tokens_of (v ∷ s) ≡ completed f s ∷ tokens_behind (more_in f) s
unfolding tokens_behind
reads_by v s f is = ap (λ g. completed g s ∷ tokens_behind (more_in g) s) is

pub form_small : (v : ℕ) → 32 ≤ v → v < 247 → form_of v ≡ whole (Number (pos v -ℤ pos 139))
form_small v low high = rw (le-ltb v 32 low, lt-ltb v 247 high) refl

pub form_positive : (v : ℕ) → 247 ≤ v → v < 251 → form_of v ≡ two (λ w. Number (pos ((v - 247) * 256 + w + 108)))
form_positive v low high =
    let a : 32 ≤ v = omega arith in
    rw (le-ltb v 32 a, le-ltb v 247 low, lt-ltb v 251 high) refl

pub form_negative : (v : ℕ) → 251 ≤ v → v < 255 → form_of v ≡ two (λ w. Number (neg_ℤ (pos ((v - 251) * 256 + w + 108))))
form_negative v low high =
    let a : 32 ≤ v = omega arith in
    let b : 247 ≤ v = omega arith in
    rw (le-ltb v 32 a, le-ltb v 247 b, le-ltb v 251 low, lt-ltb v 255 high) refl

-- One number in each form.
read_small : (n : ℕ) (rest : List ℕ) → n ≤ 214 → tokens_of ((n + 32) ∷ rest) ≡ Number (pos n -ℤ pos 107) ∷ tokens_of rest
read_small n rest most =
    let z : pos (n + 32) -ℤ pos 139 ≡ pos n -ℤ pos 107 = omega (arith, ints) in
    reads_by (n + 32) rest (whole (Number (pos (n + 32) -ℤ pos 139))) (form_small (n + 32) (omega arith) (omega arith))
    ∙ ap (λ x. Number x ∷ tokens_of rest) z

read_positive : (n : ℕ) (rest : List ℕ) → n < 1024 → tokens_of ((n / 256 + 247) ∷ (n % 256) ∷ rest) ≡ Number (pos (n + 108)) ∷ tokens_of rest
unfolding tokens_behind
read_positive n rest most =
    let v : ℕ = n / 256 + 247 in
    let value : (v - 247) * 256 + n % 256 + 108 ≡ n + 108 = omega arith in
    reads_by v ((n % 256) ∷ rest) (two (λ w. Number (pos ((v - 247) * 256 + w + 108)))) (form_positive v (omega arith) (omega arith))
    ∙ ap (λ x. Number (pos x) ∷ tokens_of rest) value

read_negative : (n : ℕ) (rest : List ℕ) → n < 1024 → tokens_of ((n / 256 + 251) ∷ (n % 256) ∷ rest) ≡ Number (neg_ℤ (pos (n + 108))) ∷ tokens_of rest
unfolding tokens_behind
read_negative n rest most =
    let v : ℕ = n / 256 + 251 in
    let value : (v - 251) * 256 + n % 256 + 108 ≡ n + 108 = omega arith in
    reads_by v ((n % 256) ∷ rest) (two (λ w. Number (neg_ℤ (pos ((v - 251) * 256 + w + 108))))) (form_negative v (omega arith) (omega arith))
    ∙ ap (λ x. Number (neg_ℤ (pos x)) ∷ tokens_of rest) value

read_long : (n : ℕ) (rest : List ℕ) → n < 2 ^ 32 → tokens_of (255 ∷ (n / 2 ^ 24) ∷ (n / 2 ^ 16 % 256) ∷ (n / 2 ^ 8 % 256) ∷ (n % 256) ∷ rest)
    ≡ Number (signed_of n) ∷ tokens_of rest
unfolding tokens_behind
read_long n rest most =
    let value : ((n / 2 ^ 24 * 256 + n / 2 ^ 16 % 256) * 256 + n / 2 ^ 8 % 256) * 256 + n % 256 ≡ n = omega arith in
    ap (λ x. Number (signed_of x) ∷ tokens_of rest) value

read_command : (c : Commands) (rest : List ℕ) → tokens_of ((row_of c).bytes ++ rest) ≡ Command c ∷ tokens_of rest
unfolding tokens_behind
read_command Hstem rest = refl
read_command Vstem rest = refl
read_command Vmoveto rest = refl
read_command Rlineto rest = refl
read_command Hlineto rest = refl
read_command Vlineto rest = refl
read_command Rrcurveto rest = refl
read_command Closepath rest = refl
read_command Callsubr rest = refl
read_command Return rest = refl
read_command Hsbw rest = refl
read_command Endchar rest = refl
read_command Rmoveto rest = refl
read_command Hmoveto rest = refl
read_command Vhcurveto rest = refl
read_command Hvcurveto rest = refl
read_command Dotsection rest = refl
read_command Vstem3 rest = refl
read_command Hstem3 rest = refl
read_command Seac rest = refl
read_command Sbw rest = refl
read_command Div rest = refl
read_command Callothersubr rest = refl
read_command Pop rest = refl
read_command Setcurrentpoint rest = refl

pub form_unknown : (v : ℕ) → v < 32 → v ≢ 12 → command_of v ≡ None → form_of v ≡ whole (Unknown v)
form_unknown v low not_escape is =
    let other : eqb v 12 ≡ false = grind arith in
    rw (lt-ltb v 32 low, other) (ap (λ c. whole (plain_code v c)) is)

read_unknown : (v : ℕ) (rest : List ℕ) → v < 32 → v ≢ 12 → command_of v ≡ None → tokens_of (v ∷ rest) ≡ Unknown v ∷ tokens_of rest
read_unknown v rest low not_escape is = reads_by v rest (whole (Unknown v)) (form_unknown v low not_escape is)

read_unknown_escape : (w : ℕ) (rest : List ℕ) → escaped_of w ≡ None → tokens_of (12 ∷ w ∷ rest) ≡ Unknown12 w ∷ tokens_of rest
unfolding tokens_behind
read_unknown_escape w rest is = ap (λ c. escaped_code w c ∷ tokens_of rest) is

-- One token, and a row of them.
pub token_read : (t : CharToken) (front rest : List ℕ) → IsWritten t front → tokens_of (front ++ rest) ≡ t ∷ tokens_of rest
token_read t front rest (small n most) = read_small n rest most
token_read t front rest (positive n most) = read_positive n rest most
token_read t front rest (negative n most) = read_negative n rest most
token_read t front rest (long n most) = read_long n rest most
token_read t front rest (command c) = read_command c rest
token_read t front rest (unknown v low not_escape is) = read_unknown v rest low not_escape is
token_read t front rest (unknown_escape w is) = read_unknown_escape w rest is

pub tokens_read : (ts : List CharToken) (bytes : List ℕ) → AreWritten ts bytes → tokens_of bytes ≡ ts ++ End ∷ []
unfolding tokens_behind
tokens_read ts bytes nothing_left = refl
tokens_read ts bytes (then t front more rest is are) = token_read t front rest is ∙ ap (λ l. t ∷ l) (tokens_read more rest are)

-- Each number of 32 bits has the form of five bytes.
abbrev long_bytes : ℕ → List ℕ
long_bytes n = 255 ∷ (n / 2 ^ 24) ∷ (n / 2 ^ 16 % 256) ∷ (n / 2 ^ 8 % 256) ∷ (n % 256) ∷ []

pub each_number_is_written : EachNumberIsWritten
each_number_is_written (pos n) low high =
    let small_enough : n < 2 ^ 31 = grind (arith, ints) in
    let is : signed_of n ≡ pos n = rw (lt-ltb n (2 ^ 31) small_enough) refl in
    (long_bytes n, subst (λ z. IsWritten (Number z) (long_bytes n)) is (long n (omega arith)))
each_number_is_written (negsuc n) low high =
    let small_enough : n < 2 ^ 31 = grind (arith, ints) in
    let m : ℕ = 2 ^ 32 - 1 - n in
    let large : 2 ^ 31 ≤ m = omega arith in
    let is : signed_of m ≡ negsuc n = rw (le-ltb m (2 ^ 31) large) (omega (arith, ints)) in
    (long_bytes m, subst (λ z. IsWritten (Number z) (long_bytes m)) is (long m (omega arith)))
