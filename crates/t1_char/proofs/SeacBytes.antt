-- Where no 12 is directly before a 6, no token is seac.
use Rattle.std.proofs.Common.{◌≡◌, ℕ, zero, suc, ◌==◌, ◌&&◌, ◌||◌, ◌+◌, ◌-◌, ◌*◌, pos, neg_ℤ, ◌-ℤ◌, Bool, true, false, cond, Option, Some, None, nat_lt, List, [], ◌∷◌, refl, sym, ap, ◌∙◌}
use Rattle.std.specs.List.{list_any}
use Rattle.std.proofs.lemmas.Bool.{or_parts}
use Rattle.t1_char.specs.declared.command.Command.{Command as Commands}
use Rattle.t1_char.specs.declared.command.Command.TheVariants.{Seac}
use Rattle.t1_char.specs.declared.cursor.Cursor.{Cursor}
use Rattle.t1_char.specs.declared.token.CharToken.{CharToken}
use Rattle.t1_char.specs.declared.token.CharToken.TheVariants.{Number, Short}
use Rattle.t1_char.specs.Commands.{command_of, escaped_of}
use Rattle.t1_char.specs.Seacs.{is_seac}
use Rattle.t1_char.specs.Tokens.{completed, escaped_code, five, long_number, more_of, plain_code, token_at, tokens_behind, tokens_of, two, whole, with_second}
use Rattle.t1_char.specs.Private.Cursors.{bytes_left, tokens_left}
use Rattle.t1_char.specs.Private.Seacs.{has_pair}

abbrev is_it : Option Commands → Bool
is_it None = false
is_it (Some Seac) = true
is_it (Some _) = false

-- One choice more of other commands; and one that isn't made.
other : (b : Bool) (o p : Option Commands) → is_it o ≡ false → is_it p ≡ false → is_it (cond b o p) ≡ false
other true o p one rest = one
other false o p one rest = rest

never : (b : Bool) (o p : Option Commands) → b ≡ false → is_it p ≡ false → is_it (cond b o p) ≡ false
never true o p isnt rest = let bad : true ≡ false = isnt in cc
never false o p isnt rest = rest

plain_other : (v : ℕ) → is_it (command_of v) ≡ false
plain_other v =
    other (v == 1) _ _ refl (other (v == 3) _ _ refl (other (v == 4) _ _ refl (other (v == 5) _ _ refl
    (other (v == 6) _ _ refl (other (v == 7) _ _ refl (other (v == 8) _ _ refl (other (v == 9) _ _ refl
    (other (v == 10) _ _ refl (other (v == 11) _ _ refl (other (v == 13) _ _ refl (other (v == 14) _ _ refl
    (other (v == 21) _ _ refl (other (v == 22) _ _ refl (other (v == 30) _ _ refl (other (v == 31) _ _ refl refl)))))))))))))))

escaped_other : (w : ℕ) → (w == 6) ≡ false → is_it (escaped_of w) ≡ false
escaped_other w isnt =
    other (w == 0) _ _ refl (other (w == 1) _ _ refl (other (w == 2) _ _ refl (never (w == 6) _ _ isnt
    (other (w == 7) _ _ refl (other (w == 12) _ _ refl (other (w == 16) _ _ refl (other (w == 17) _ _ refl (other (w == 33) _ _ refl refl))))))))

plain_token : (v : ℕ) (o : Option Commands) → is_it o ≡ false → is_seac (plain_code v o) ≡ false
plain_token v None isnt = refl
plain_token v (Some Seac) isnt = let bad : true ≡ false = isnt in cc
plain_token v (Some _) isnt = refl

escaped_token : (w : ℕ) (o : Option Commands) → is_it o ≡ false → is_seac (escaped_code w o) ≡ false
escaped_token w None isnt = refl
escaped_token w (Some Seac) isnt = let bad : true ≡ false = isnt in cc
escaped_token w (Some _) isnt = refl

number_behind : (f : ℕ → CharToken) (rest : List ℕ) → ((w : ℕ) → is_seac (f w) ≡ false) → is_seac (with_second f rest) ≡ false
number_behind f [] isnt = refl
number_behind f (w ∷ rest) isnt = isnt w

long_behind : (rest : List ℕ) → is_seac (long_number rest) ≡ false
long_behind [] = refl
long_behind (a ∷ []) = refl
long_behind (a ∷ b ∷ []) = refl
long_behind (a ∷ b ∷ c ∷ []) = refl
long_behind (a ∷ b ∷ c ∷ d ∷ rest) = refl

escaped_behind : (v : ℕ) (rest : List ℕ) → (v == 12) ≡ true → has_pair v rest ≡ false → is_seac (with_second (λ w. escaped_code w (escaped_of w)) rest) ≡ false
escaped_behind v [] at none = refl
escaped_behind v (w ∷ rest) at none = escaped_token w (escaped_of w) (escaped_other w (by_byte (w == 6) refl))
  where
    by_byte : (b : Bool) → (w == 6) ≡ b → (w == 6) ≡ false
    by_byte false is = is
    by_byte true is =
        let bad : true ≡ false = ap (λ b. (b && true) || has_pair w rest) (sym is) ∙ ap (λ b. ((w == 6) && b) || has_pair w rest) (sym at) ∙ none in cc

not_seac : (v : ℕ) (rest : List ℕ) → has_pair v rest ≡ false → is_seac (token_at v rest) ≡ false
not_seac v rest none = by_form (nat_lt v 32) (v == 12) (nat_lt v 247) (nat_lt v 251) (nat_lt v 255) refl
  where
    by_form : (low escape one two_up two_down : Bool) → (v == 12) ≡ escape
        → is_seac (completed (cond low (cond escape (two (λ w. escaped_code w (escaped_of w))) (whole (plain_code v (command_of v))))
        (cond one (whole (Number (pos v -ℤ pos 139)))
        (cond two_up (two (λ w. Number (pos ((v - 247) * 256 + w + 108))))
        (cond two_down (two (λ w. Number (neg_ℤ (pos ((v - 251) * 256 + w + 108))))) five)))) rest) ≡ false
    by_form true true _ _ _ is = escaped_behind v rest is none
    by_form true false _ _ _ is = plain_token v (command_of v) (plain_other v)
    by_form false _ true _ _ is = refl
    by_form false _ false true _ is = number_behind _ rest (λ w. refl)
    by_form false _ false false true is = number_behind _ rest (λ w. refl)
    by_form false _ false false false is = long_behind rest

no_seac : (n before : ℕ) (bytes : List ℕ) → has_pair before bytes ≡ false → list_any is_seac (tokens_behind n bytes) ≡ false
unfolding tokens_behind
no_seac n before [] none = refl
no_seac (suc n) before (b ∷ rest) none = no_seac n b rest (or_parts _ _ none).1
no_seac zero before (v ∷ rest) none =
    let behind : has_pair v rest ≡ false = (or_parts _ _ none).1 in
    rw (not_seac v rest behind, no_seac (more_of v) v rest behind) refl

pub none_left : (cursor : Cursor) → has_pair 0 (bytes_left cursor) ≡ false → list_any is_seac (tokens_left cursor) ≡ false
none_left cursor none = by_short cursor.short
  where
    by_short : (b : Bool) → list_any is_seac (cond b (Short ∷ tokens_of (bytes_left cursor)) (tokens_of (bytes_left cursor))) ≡ false
    by_short true = no_seac 0 0 (bytes_left cursor) none
    by_short false = no_seac 0 0 (bytes_left cursor) none
