-- What is read is so written.
use Rattle.std.proofs.Common.{◌≡◌, ◌≢◌, ℕ, pos, neg_ℤ, ◌+◌, ◌-◌, ◌*◌, ◌/◌, ◌%◌, ◌^◌, ◌<◌, ◌≤◌, ◌-ℤ◌, ◌++◌, Bool, true, false, cond, eqb, Option, None, Some, List, [], ◌∷◌, refl, ap, sym, subst, ◌∙◌, arith}
use Rattle.std.proofs.lemmas.Int.{ints}
use Rattle.t1_char.specs.declared.command.Command.{Command as Commands}
use Rattle.t1_char.specs.declared.command.Command.TheVariants.{Hstem, Vstem, Vmoveto, Rlineto, Hlineto, Vlineto, Rrcurveto, Closepath, Callsubr, Return, Hsbw, Endchar, Rmoveto, Hmoveto, Vhcurveto, Hvcurveto, Dotsection, Vstem3, Hstem3, Seac, Sbw, Div, Callothersubr, Pop, Setcurrentpoint}
use Rattle.t1_char.specs.declared.token.CharToken.{CharToken}
use Rattle.t1_char.specs.declared.token.CharToken.TheVariants.{Number}
use Rattle.t1_char.specs.Commands.{row_of, command_of, escaped_of}
use Rattle.t1_char.specs.Tokens.{plain_code, escaped_code, signed_of}
use Rattle.t1_char.specs.Laws.Written.{IsWritten, small, positive, negative, long, command, unknown, unknown_escape}

-- A token with the bytes that write it, and those after it.
pub record IsSpelled (v : ℕ) (rest : List ℕ) (token : CharToken) (left : List ℕ) : Type 0 where
  pub front : List ℕ
  pub written : IsWritten token front
  pub split : v ∷ rest ≡ front ++ left

-- Choices one after another.
chosen : (P : Commands → Type 0) (b : Bool) (x : Commands) (other : Option Commands) → (b ≡ true → P x) → ((c : Commands) → other ≡ Some c → P c)
    → (c : Commands) → cond b (Some x) other ≡ Some c → P c
chosen P true x other here there c h = let same : x ≡ c = cc in subst P same (here refl)
chosen P false x other here there c h = there c h

one_byte : (v n : ℕ) → eqb v n ≡ true → n ∷ [] ≡ v ∷ []
one_byte v n h = let same : n ≡ v = grind arith in ap (λ x. x ∷ []) same

two_bytes : (w n : ℕ) → eqb w n ≡ true → 12 ∷ n ∷ [] ≡ 12 ∷ w ∷ []
two_bytes w n h = let same : n ≡ w = grind arith in ap (λ x. 12 ∷ x ∷ []) same

no_command : (P : Commands → Type 0) (c : Commands) → None ≡ Some c → P c
no_command P c h = absurd (nothing h)
  where
    nothing : None ≡ Some c → ⊥
    nothing h = cc

abbrev IsByteOf : ℕ → Commands → Type 0
IsByteOf v c = (row_of c).bytes ≡ v ∷ []

abbrev IsEscapeOf : ℕ → Commands → Type 0
IsEscapeOf w c = (row_of c).bytes ≡ 12 ∷ w ∷ []

command_bytes : (v : ℕ) (c : Commands) → command_of v ≡ Some c → IsByteOf v c
command_bytes v =
    let P : Commands → Type 0 = IsByteOf v in
    chosen P (eqb v 1) Hstem _ (one_byte v 1)
    (chosen P (eqb v 3) Vstem _ (one_byte v 3)
    (chosen P (eqb v 4) Vmoveto _ (one_byte v 4)
    (chosen P (eqb v 5) Rlineto _ (one_byte v 5)
    (chosen P (eqb v 6) Hlineto _ (one_byte v 6)
    (chosen P (eqb v 7) Vlineto _ (one_byte v 7)
    (chosen P (eqb v 8) Rrcurveto _ (one_byte v 8)
    (chosen P (eqb v 9) Closepath _ (one_byte v 9)
    (chosen P (eqb v 10) Callsubr _ (one_byte v 10)
    (chosen P (eqb v 11) Return _ (one_byte v 11)
    (chosen P (eqb v 13) Hsbw _ (one_byte v 13)
    (chosen P (eqb v 14) Endchar _ (one_byte v 14)
    (chosen P (eqb v 21) Rmoveto _ (one_byte v 21)
    (chosen P (eqb v 22) Hmoveto _ (one_byte v 22)
    (chosen P (eqb v 30) Vhcurveto _ (one_byte v 30)
    (chosen P (eqb v 31) Hvcurveto _ (one_byte v 31) (no_command P))))))))))))))))

escape_bytes : (w : ℕ) (c : Commands) → escaped_of w ≡ Some c → IsEscapeOf w c
escape_bytes w =
    let P : Commands → Type 0 = IsEscapeOf w in
    chosen P (eqb w 0) Dotsection _ (two_bytes w 0)
    (chosen P (eqb w 1) Vstem3 _ (two_bytes w 1)
    (chosen P (eqb w 2) Hstem3 _ (two_bytes w 2)
    (chosen P (eqb w 6) Seac _ (two_bytes w 6)
    (chosen P (eqb w 7) Sbw _ (two_bytes w 7)
    (chosen P (eqb w 12) Div _ (two_bytes w 12)
    (chosen P (eqb w 16) Callothersubr _ (two_bytes w 16)
    (chosen P (eqb w 17) Pop _ (two_bytes w 17)
    (chosen P (eqb w 33) Setcurrentpoint _ (two_bytes w 33) (no_command P)))))))))

-- Each form, read back.
pub plain_back : (v : ℕ) (rest : List ℕ) (found : Option Commands) → v < 32 → v ≢ 12 → command_of v ≡ found → IsSpelled v rest (plain_code v found) rest
plain_back v rest None low other is = record { front = v ∷ []; written = unknown v low other is; split = refl }
plain_back v rest (Some c) low other is =
    record { front = (row_of c).bytes; written = command c; split = ap (λ l. l ++ rest) (sym (command_bytes v c is)) }

pub escape_back : (w : ℕ) (rest : List ℕ) (found : Option Commands) → escaped_of w ≡ found → IsSpelled 12 (w ∷ rest) (escaped_code w found) rest
escape_back w rest None is = record { front = 12 ∷ w ∷ []; written = unknown_escape w is; split = refl }
escape_back w rest (Some c) is =
    record { front = (row_of c).bytes; written = command c; split = ap (λ l. l ++ rest) (sym (escape_bytes w c is)) }

pub small_back : (v : ℕ) (rest : List ℕ) → 32 ≤ v → v < 247 → IsSpelled v rest (Number (pos v -ℤ pos 139)) rest
small_back v rest low high =
    let n : ℕ = v - 32 in
    let back : n + 32 ≡ v = omega arith in
    let value : pos n -ℤ pos 107 ≡ pos v -ℤ pos 139 = omega (arith, ints) in
    record {
      front = (n + 32) ∷ [];
      written = subst (λ z. IsWritten (Number z) ((n + 32) ∷ [])) value (small n (omega arith));
      split = ap (λ x. x ∷ rest) (sym back);
    }

pub positive_back : (v w : ℕ) (rest : List ℕ) → 247 ≤ v → v < 251 → w < 256 → IsSpelled v (w ∷ rest) (Number (pos ((v - 247) * 256 + w + 108))) rest
positive_back v w rest low high byte =
    let n : ℕ = (v - 247) * 256 + w in
    let first : n / 256 + 247 ≡ v = omega arith in
    let second : n % 256 ≡ w = omega arith in
    record {
      front = (n / 256 + 247) ∷ (n % 256) ∷ [];
      written = positive n (omega arith);
      split = ap (λ x. x ∷ w ∷ rest) (sym first) ∙ ap (λ y. (n / 256 + 247) ∷ y ∷ rest) (sym second);
    }

pub negative_back : (v w : ℕ) (rest : List ℕ) → 251 ≤ v → v < 255 → w < 256 → IsSpelled v (w ∷ rest) (Number (neg_ℤ (pos ((v - 251) * 256 + w + 108)))) rest
negative_back v w rest low high byte =
    let n : ℕ = (v - 251) * 256 + w in
    let first : n / 256 + 251 ≡ v = omega arith in
    let second : n % 256 ≡ w = omega arith in
    record {
      front = (n / 256 + 251) ∷ (n % 256) ∷ [];
      written = negative n (omega arith);
      split = ap (λ x. x ∷ w ∷ rest) (sym first) ∙ ap (λ y. (n / 256 + 251) ∷ y ∷ rest) (sym second);
    }

pub long_back : (a b c d : ℕ) (rest : List ℕ) → a < 256 → b < 256 → c < 256 → d < 256
    → IsSpelled 255 (a ∷ b ∷ c ∷ d ∷ rest) (Number (signed_of (((a * 256 + b) * 256 + c) * 256 + d))) rest
long_back a b c d rest fits_a fits_b fits_c fits_d =
    let n : ℕ = ((a * 256 + b) * 256 + c) * 256 + d in
    let first : n / 2 ^ 24 ≡ a = omega arith in
    let second : n / 2 ^ 16 % 256 ≡ b = omega arith in
    let third : n / 2 ^ 8 % 256 ≡ c = omega arith in
    let fourth : n % 256 ≡ d = omega arith in
    record {
      front = 255 ∷ (n / 2 ^ 24) ∷ (n / 2 ^ 16 % 256) ∷ (n / 2 ^ 8 % 256) ∷ (n % 256) ∷ [];
      written = long n (omega arith);
      split = ap (λ x. 255 ∷ x ∷ b ∷ c ∷ d ∷ rest) (sym first)
          ∙ ap (λ x. 255 ∷ (n / 2 ^ 24) ∷ x ∷ c ∷ d ∷ rest) (sym second)
          ∙ ap (λ x. 255 ∷ (n / 2 ^ 24) ∷ (n / 2 ^ 16 % 256) ∷ x ∷ d ∷ rest) (sym third)
          ∙ ap (λ x. 255 ∷ (n / 2 ^ 24) ∷ (n / 2 ^ 16 % 256) ∷ (n / 2 ^ 8 % 256) ∷ x ∷ rest) (sym fourth);
    }
