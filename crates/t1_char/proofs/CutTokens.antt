-- Charstrings that are too short, for the leading random bytes or for their last token.
use Rattle.std.proofs.Common.{◌≡◌, ◌≢◌, ℕ, ℤ, ◌/◌, zero, suc, pos, neg_ℤ, ◌-ℤ◌, ◌+◌, ◌-◌, ◌*◌, ◌<◌, ◌≤◌, ◌++◌, ◌==◌, inl, inr, Bool, true, false, cond, nat_lt, eqb, Option, Some, None, List, [], ◌∷◌, append-nil, length, length-append, length-drop, drop, refl, ap, sym, subst, ◌∙◌, lt-ltb, le-ltb, arith}
use Rattle.std.proofs.lemmas.List.{append_assoc}
use Rattle.t1_seal.specs.Cipher.{charstring_start, decrypted}
use Rattle.t1_char.specs.declared.command.Command.{Command as Commands}
use Rattle.t1_char.specs.declared.command.Command.TheVariants.{Hstem, Vstem, Vmoveto, Rlineto, Hlineto, Vlineto, Rrcurveto, Closepath, Callsubr, Return, Hsbw, Endchar, Rmoveto, Hmoveto, Vhcurveto, Hvcurveto, Dotsection, Vstem3, Hstem3, Seac, Sbw, Div, Callothersubr, Pop, Setcurrentpoint}
use Rattle.t1_char.specs.declared.token.CharToken.{CharToken}
use Rattle.t1_char.specs.declared.token.CharToken.TheVariants.{Number, Cut, Short, End}
use Rattle.t1_char.specs.Commands.{row_of, command_of, escaped_of}
use Rattle.t1_char.specs.Tokens.{Form, whole, two, five, form_of, plain_code, escaped_code, completed, more_in, token_at, more_of, tokens_behind, tokens_of, charstring_tokens}
use Rattle.t1_char.specs.Laws.BrokenOff.{AreLong, BreaksOff, BrokenOffAreCut, CutsAreBrokenOff, EnoughAreLong, IsBrokenOff, PlainAreLong, TooFewAreShort}
use Rattle.t1_char.specs.Laws.Written.{AreWritten, nothing_left, then, IsWritten, small, positive, negative, long, command, unknown, unknown_escape}
use Rattle.t1_char.proofs.ReadBack.{IsSpelled, escape_back, positive_back, negative_back, long_back}
use Rattle.t1_char.proofs.Skipping.{tokens_behind_is}
use Rattle.t1_char.proofs.Spelling.{form_small, form_positive, form_negative, form_unknown, token_read}
use Rattle.t1_char.proofs.TextsReadBack.{AreFit, AreUncut, Spells, below, fit_drop, fit_of, head_same, spelled_at, tail_same, uncut_of}

-- ---- how many bytes a token has

abbrev more_behind_first : List ℕ → ℕ
more_behind_first [] = 0
more_behind_first (v ∷ rest) = more_of v

command_size : (c : Commands) → length (row_of c).bytes ≡ suc (more_behind_first (row_of c).bytes)
command_size Hstem = refl
command_size Vstem = refl
command_size Vmoveto = refl
command_size Rlineto = refl
command_size Hlineto = refl
command_size Vlineto = refl
command_size Rrcurveto = refl
command_size Closepath = refl
command_size Callsubr = refl
command_size Return = refl
command_size Hsbw = refl
command_size Endchar = refl
command_size Rmoveto = refl
command_size Hmoveto = refl
command_size Vhcurveto = refl
command_size Hvcurveto = refl
command_size Dotsection = refl
command_size Vstem3 = refl
command_size Hstem3 = refl
command_size Seac = refl
command_size Sbw = refl
command_size Div = refl
command_size Callothersubr = refl
command_size Pop = refl
command_size Setcurrentpoint = refl

written_size : (t : CharToken) (bytes : List ℕ) → IsWritten t bytes → length bytes ≡ suc (more_behind_first bytes)
written_size t bytes (small n most) = ap (λ f. suc (more_in f)) (sym (form_small (n + 32) (omega arith) (omega arith)))
written_size t bytes (positive n most) = ap (λ f. suc (more_in f)) (sym (form_positive (n / 256 + 247) (omega arith) (omega arith)))
written_size t bytes (negative n most) = ap (λ f. suc (more_in f)) (sym (form_negative (n / 256 + 251) (omega arith) (omega arith)))
written_size t bytes (long n most) = refl
written_size t bytes (command c) = command_size c
written_size t bytes (unknown v low not_escape is) = ap (λ f. suc (more_in f)) (sym (form_unknown v low not_escape is))
written_size t bytes (unknown_escape w is) = refl

some_bytes : (missing : List ℕ) → missing ≢ [] → 0 < length missing
some_bytes [] some = absurd (some refl)
some_bytes (b ∷ missing) some = omega arith

short_of : (v : ℕ) (rest : List ℕ) → BreaksOff (v ∷ rest) → length rest < more_of v
short_of v rest broken =
    let size : suc (length (rest ++ broken.missing)) ≡ suc (more_of v) = written_size broken.token (v ∷ (rest ++ broken.missing)) broken.written in
    omega (arith, size, length-append rest broken.missing, some_bytes broken.missing broken.lacking)

-- ---- fewer than that are cut

cut_of : (f : Form) (rest : List ℕ) → length rest < more_in f → completed f rest ≡ Cut
cut_of (whole t) rest less = absurd (omega (arith, less))
cut_of (two t) [] less = refl
cut_of (two t) (w ∷ rest) less = absurd (omega (arith, less))
cut_of five [] less = refl
cut_of five (a ∷ []) less = refl
cut_of five (a ∷ b ∷ []) less = refl
cut_of five (a ∷ b ∷ c ∷ []) less = refl
cut_of five (a ∷ b ∷ c ∷ d ∷ rest) less = absurd (omega (arith, less))

behind_short : (n : ℕ) (rest : List ℕ) → length rest ≤ n → tokens_behind n rest ≡ End ∷ []
unfolding tokens_behind
behind_short n [] few = refl
behind_short (suc n) (b ∷ rest) few = behind_short n rest (omega (arith, few))
behind_short zero (v ∷ rest) few = absurd (omega (arith, few))

cut_read : (bytes : List ℕ) → BreaksOff bytes → tokens_of bytes ≡ Cut ∷ End ∷ []
unfolding tokens_behind
cut_read [] broken = absurd (broken.begun refl)
cut_read (v ∷ rest) broken =
    let short = short_of v rest broken in
    ap (λ t. t ∷ tokens_behind (more_of v) rest) (cut_of (form_of v) rest short)
    ∙ ap (λ ts. Cut ∷ ts) (behind_short (more_of v) rest (omega (arith, short)))

read_behind : (ts : List CharToken) (front bytes : List ℕ) → AreWritten ts front → tokens_of (front ++ bytes) ≡ ts ++ tokens_of bytes
read_behind ts front bytes nothing_left = refl
read_behind ts front bytes (then t first more rest is are) =
    ap (λ l. tokens_of l) (append_assoc first rest bytes) ∙ token_read t first (rest ++ bytes) is ∙ ap (λ l. t ∷ l) (read_behind more rest bytes are)

pub broken_off_are_cut : BrokenOffAreCut
unfolding charstring_tokens
broken_off_are_cut n ts front bytes are broken = read_behind ts front bytes are ∙ ap (λ l. ts ++ l) (cut_read bytes broken)

-- ---- and what is cut has fewer

some_list : (v : ℕ) (rest : List ℕ) → v ∷ rest ≡ [] → ⊥
some_list v rest e = cc

no_number : (z : ℤ) → Number z ≡ Cut → ⊥
no_number z e = cc

no_plain : (v : ℕ) (found : Option Commands) → plain_code v found ≡ Cut → ⊥
no_plain v None e = cc
no_plain v (Some c) e = cc

no_escaped : (w : ℕ) (found : Option Commands) → escaped_code w found ≡ Cut → ⊥
no_escaped w None e = cc
no_escaped w (Some c) e = cc

from_spelled : (v : ℕ) (rest missing : List ℕ) (token : CharToken) → missing ≢ [] → IsSpelled v (rest ++ missing) token [] → BreaksOff (v ∷ rest)
from_spelled v rest missing token some spelled =
    record {
      token = token;
      missing = missing;
      begun = some_list v rest;
      lacking = some;
      written = subst (λ l. IsWritten token l) (sym (spelled.split ∙ append-nil spelled.front)) spelled.written;
    }

by_form : (v : ℕ) (rest : List ℕ) (f : Form) → form_of v ≡ f → token_at v rest ≡ Cut → completed f rest ≡ Cut
by_form v rest f is cut = sym (ap (λ g. completed g rest) is) ∙ cut

broken_escape : (rest : List ℕ) → token_at 12 rest ≡ Cut → BreaksOff (12 ∷ rest)
broken_escape [] cut = from_spelled 12 [] (0 ∷ []) (escaped_code 0 (escaped_of 0)) (some_list 0 []) (escape_back 0 [] (escaped_of 0) refl)
broken_escape (w ∷ rest) cut = absurd (no_escaped w (escaped_of w) cut)

broken_low : (v : ℕ) (rest : List ℕ) → v < 32 → token_at v rest ≡ Cut → BreaksOff (v ∷ rest)
broken_low v rest low cut = by_test (eqb v 12) refl
  where
    by_test : (x : Bool) → eqb v 12 ≡ x → BreaksOff (v ∷ rest)
    by_test true is =
        let same : 12 ≡ v = grind arith in
        subst (λ x. token_at x rest ≡ Cut → BreaksOff (x ∷ rest)) same (broken_escape rest) cut
    by_test false is = absurd (no_plain v (command_of v) (by_form v rest (whole (plain_code v (command_of v))) (rw (lt-ltb v 32 low, is) refl) cut))

broken_positive : (v : ℕ) (rest : List ℕ) → 247 ≤ v → v < 251 → token_at v rest ≡ Cut → BreaksOff (v ∷ rest)
broken_positive v [] low high cut = from_spelled v [] (0 ∷ []) (Number (pos ((v - 247) * 256 + 0 + 108))) (some_list 0 [])
    (positive_back v 0 [] low high (omega arith))
broken_positive v (w ∷ rest) low high cut =
    absurd (no_number _ (by_form v (w ∷ rest) (two (λ x. Number (pos ((v - 247) * 256 + x + 108)))) (form_positive v low high) cut))

broken_negative : (v : ℕ) (rest : List ℕ) → 251 ≤ v → v < 255 → token_at v rest ≡ Cut → BreaksOff (v ∷ rest)
broken_negative v [] low high cut = from_spelled v [] (0 ∷ []) (Number (neg_ℤ (pos ((v - 251) * 256 + 0 + 108)))) (some_list 0 [])
    (negative_back v 0 [] low high (omega arith))
broken_negative v (w ∷ rest) low high cut =
    absurd (no_number _ (by_form v (w ∷ rest) (two (λ x. Number (neg_ℤ (pos ((v - 251) * 256 + x + 108))))) (form_negative v low high) cut))

broken_long : (rest : List ℕ) → AreFit rest → token_at 255 rest ≡ Cut → BreaksOff (255 ∷ rest)
broken_long [] fit cut = from_spelled 255 [] (0 ∷ 0 ∷ 0 ∷ 0 ∷ []) _ (some_list 0 (0 ∷ 0 ∷ 0 ∷ []))
    (long_back 0 0 0 0 [] (omega arith) (omega arith) (omega arith) (omega arith))
broken_long (a ∷ []) fit cut = from_spelled 255 (a ∷ []) (0 ∷ 0 ∷ 0 ∷ []) _ (some_list 0 (0 ∷ 0 ∷ []))
    (long_back a 0 0 0 [] fit.0 (omega arith) (omega arith) (omega arith))
broken_long (a ∷ b ∷ []) fit cut = from_spelled 255 (a ∷ b ∷ []) (0 ∷ 0 ∷ []) _ (some_list 0 (0 ∷ []))
    (long_back a b 0 0 [] fit.0 fit.1.0 (omega arith) (omega arith))
broken_long (a ∷ b ∷ c ∷ []) fit cut = from_spelled 255 (a ∷ b ∷ c ∷ []) (0 ∷ []) _ (some_list 0 [])
    (long_back a b c 0 [] fit.0 fit.1.0 fit.1.1.0 (omega arith))
broken_long (a ∷ b ∷ c ∷ d ∷ rest) fit cut = absurd (no_number _ cut)

broken_at : (v : ℕ) (rest : List ℕ) → v < 256 → AreFit rest → token_at v rest ≡ Cut → BreaksOff (v ∷ rest)
broken_at v rest byte fit cut =
    elim (below v 32) [
      | inl low ↦ broken_low v rest low cut
      | inr low ↦ elim (below v 247) [
        | inl high ↦ absurd (no_number _ (by_form v rest (whole (Number (pos v -ℤ pos 139))) (form_small v low high) cut))
        | inr more ↦ elim (below v 251) [
          | inl high ↦ broken_positive v rest more high cut
          | inr most ↦ elim (below v 255) [
            | inl high ↦ broken_negative v rest most high cut
            | inr all ↦
                let same : 255 ≡ v = omega arith in
                subst (λ x. token_at x rest ≡ Cut → BreaksOff (x ∷ rest)) same (broken_long rest fit) cut
          ]
        ]
      ]
    ]

end_is_whole : End ≡ Cut → ⊥
end_is_whole e = cc

no_cut_left : (ts rest : List CharToken) → [] ≡ ts ++ Cut ∷ rest → ⊥
no_cut_left [] rest e = cc
no_cut_left (t ∷ ts) rest e = cc

cut_back : (most : ℕ) (code : List ℕ) (ts rest : List CharToken) → length code ≤ most → AreFit code → AreUncut ts → tokens_of code ≡ ts ++ Cut ∷ rest
    → IsBrokenOff ts code rest
unfolding tokens_behind
cut_back most [] [] rest short fit uncut is = absurd (end_is_whole (head_same End Cut [] rest is))
cut_back most [] (t ∷ ts) rest short fit uncut is = absurd (no_cut_left ts rest (tail_same End t [] (ts ++ Cut ∷ rest) is))
cut_back zero (v ∷ bytes) ts rest short fit uncut is = absurd (omega arith)
cut_back (suc most) (v ∷ bytes) [] rest short fit uncut is =
    let broken : BreaksOff (v ∷ bytes) = broken_at v bytes fit.0 fit.1 (head_same (token_at v bytes) Cut (tokens_behind (more_of v) bytes) rest is) in
    record {
      front = [];
      bytes = v ∷ bytes;
      split = refl;
      before = nothing_left;
      cut = broken;
      ends = sym (tail_same (token_at v bytes) Cut (tokens_behind (more_of v) bytes) rest is)
          ∙ behind_short (more_of v) bytes (omega (arith, short_of v bytes broken));
    }
cut_back (suc most) (v ∷ bytes) (t ∷ ts) rest short fit uncut is =
    let same : token_at v bytes ≡ t = head_same (token_at v bytes) t (tokens_behind (more_of v) bytes) (ts ++ Cut ∷ rest) is in
    let left : List ℕ = drop (more_of v) bytes in
    let spelled : Spells v bytes = spelled_at v bytes fit.0 fit.1 (λ cut. uncut.0 (sym same ∙ cut)) in
    let behind : IsBrokenOff ts left rest =
    cut_back most left ts rest (omega (arith, length-drop (more_of v) bytes)) (fit_drop (more_of v) bytes fit.1) uncut.1
    (sym (tokens_behind_is (more_of v) bytes) ∙ tail_same (token_at v bytes) t (tokens_behind (more_of v) bytes) (ts ++ Cut ∷ rest) is) in
    record {
      front = spelled.front ++ behind.front;
      bytes = behind.bytes;
      split = spelled.split ∙ ap (λ l. spelled.front ++ l) behind.split ∙ sym (append_assoc spelled.front behind.front behind.bytes);
      before = then t spelled.front ts behind.front (subst (λ u. IsWritten u spelled.front) same spelled.written) behind.before;
      cut = behind.cut;
      ends = behind.ends;
    }

pub cuts_are_broken_off : CutsAreBrokenOff
unfolding charstring_tokens
cuts_are_broken_off n ts rest code fit uncut is = cut_back (length code) code ts rest (omega arith) (fit_of code fit) (uncut_of ts uncut) is

-- ---- for the random bytes

abbrev NoneIsShort : List CharToken → Type 0
NoneIsShort [] = Unit {0}
NoneIsShort (t ∷ ts) = (t ≢ Short) × NoneIsShort ts

all_long : (ts : List CharToken) → NoneIsShort ts → AreLong ts
all_long [] none k d less = absurd (omega (arith, less))
all_long (t ∷ ts) none zero d less = none.0
all_long (t ∷ ts) none (suc k) d less = all_long ts none.1 k d (omega (arith, less))

abbrev MakesNone : Form → Type 0
MakesNone f = (rest : List ℕ) → completed f rest ≢ Short

either : (b : Bool) (f g : Form) → MakesNone f → MakesNone g → MakesNone (cond b f g)
either true f g one other = one
either false f g one other = other

plain_none : (v : ℕ) (found : Option Commands) → plain_code v found ≢ Short
plain_none v None e = cc
plain_none v (Some c) e = cc

escaped_none : (w : ℕ) (found : Option Commands) → escaped_code w found ≢ Short
escaped_none w None e = cc
escaped_none w (Some c) e = cc

escape_none : MakesNone (two (λ w. escaped_code w (escaped_of w)))
escape_none [] e = cc
escape_none (w ∷ rest) e = escaped_none w (escaped_of w) e

number_none : (z : ℤ) → Number z ≢ Short
number_none z e = cc

second_none : (number : ℕ → ℤ) → MakesNone (two (λ w. Number (number w)))
second_none number [] e = cc
second_none number (w ∷ rest) e = number_none (number w) e

long_none : MakesNone five
long_none [] e = cc
long_none (a ∷ []) e = cc
long_none (a ∷ b ∷ []) e = cc
long_none (a ∷ b ∷ c ∷ []) e = cc
long_none (a ∷ b ∷ c ∷ d ∷ rest) e = cc

form_none : (v : ℕ) → MakesNone (form_of v)
form_none v =
    either (nat_lt v 32) _ _ (either (v == 12) _ _ escape_none (λ rest. plain_none v (command_of v)))
    (either (nat_lt v 247) _ _ (λ rest. number_none (pos v -ℤ pos 139))
    (either (nat_lt v 251) _ _ (second_none (λ w. pos ((v - 247) * 256 + w + 108)))
    (either (nat_lt v 255) _ _ (second_none (λ w. neg_ℤ (pos ((v - 251) * 256 + w + 108)))) long_none)))

end_none : End ≢ Short
end_none e = cc

tokens_none : (n : ℕ) (bytes : List ℕ) → NoneIsShort (tokens_behind n bytes)
unfolding tokens_behind
tokens_none n [] = (end_none, tt)
tokens_none (suc n) (b ∷ rest) = tokens_none n rest
tokens_none zero (v ∷ rest) = (form_none v rest, tokens_none (more_of v) rest)

pub too_few_are_short : TooFewAreShort
unfolding charstring_tokens
too_few_are_short len_iv code few = rw (lt-ltb (length code) len_iv few) refl

pub plain_are_long : PlainAreLong
unfolding charstring_tokens
plain_are_long n code = all_long (tokens_of code) (tokens_none 0 code)

pub enough_are_long : EnoughAreLong
unfolding charstring_tokens
enough_are_long len_iv code enough =
    subst AreLong (sym (ap (λ b. cond b (Short ∷ End ∷ []) (tokens_of (drop len_iv (decrypted charstring_start code)))) (le-ltb (length code) len_iv enough)))
    (all_long (tokens_of (drop len_iv (decrypted charstring_start code))) (tokens_none 0 (drop len_iv (decrypted charstring_start code))))
