-- What a step says: that it finds its Subr, and that it is the last of its charstring.
use Rattle.std.proofs.Common.{◌≡◌, ◌≢◌, ◌⊎◌, inl, inr, ℕ, ℤ, suc, pos, ◌-◌, ◌<◌, ◌&&◌, nat_lt, Bool, true, false, cond, Option, Some, None, is_some, List, [], ◌∷◌, ◌++◌, length, length-append, take, slice_index_or, refl, ap, sym, ◌∙◌, lt-ltb, arith}
use Rattle.std.proofs.lemmas.Bool.{ltb-true}
use Rattle.std.proofs.lemmas.Grind.{common_steps}
use Rattle.std.proofs.lemmas.List.{get_or-reverse}
use Rattle.t1_font.specs.Fonts.{FontValue}
use Rattle.t1_char.specs.declared.command.Command.TheVariants.{Callsubr, Return}
use Rattle.t1_char.specs.declared.token.CharToken.{CharToken}
use Rattle.t1_char.specs.declared.token.CharToken.TheVariants.{Command, End}
use Rattle.t1_char.specs.Charstrings.{subr_in}
use Rattle.t1_char.specs.Effects.{CalledSubr}
use Rattle.t1_char.specs.Numbers.{natural, units}
use Rattle.t1_char.specs.Stacks.{from_top}
use Rattle.t1_char.specs.Steps.{is_callsubr, is_end, is_last, is_return, subr_of, with_code}
use Rattle.t1_char.specs.Laws.Steps.{CalledSubrsAreFound, CallsASubr, FoundSubrsAreCalled, LastsAreByWhatFollows}
use Rattle.t1_char.proofs.Othersubrs.{natural_of, whole_numbers_are_read}

-- ---- the last

end_is : (t : CharToken) → is_end t ≡ true → t ≡ End
end_is End h = refl
end_is _ h = cc

return_is : (t : CharToken) → is_return t ≡ true → t ≡ Command Return
return_is (Command Return) h = refl
return_is _ h = cc

both : (a b : Bool) → (a && b) ≡ true → (a ≡ true) × (b ≡ true)
both true b h = (refl, h)
both false b h = let no : false ≡ true = h in cc

abbrev Follows : List ℕ → List CharToken → Type 0
Follows path behind = (behind ≡ End ∷ []) ⊎ ((path ≢ []) × (behind ≡ Command Return ∷ End ∷ []))

last_follows : (path : List ℕ) (behind : List CharToken) → is_last (length path) behind ≡ true → Follows path behind
last_follows path [] h = let no : false ≡ true = h in cc
last_follows path (t ∷ []) h = inl (ap (λ u. u ∷ []) (end_is t h))
last_follows path (t ∷ u ∷ []) h =
    let first = both (nat_lt 0 (length path) && is_return t) (is_end u) h in
    let deep = both (nat_lt 0 (length path)) (is_return t) first.0 in
    let some : 0 < length path = ltb-true 0 (length path) deep.0 in
    inr (
      (λ none. omega (arith, some, ap (λ (p : List ℕ). length p) none)),
      ap (λ x. x ∷ u ∷ []) (return_is t deep.1) ∙ ap (λ x. Command Return ∷ x ∷ []) (end_is u first.1),
    )
last_follows path (t ∷ u ∷ v ∷ ts) h = let no : false ≡ true = h in cc

deep_there : (path : List ℕ) → path ≢ [] → (nat_lt 0 (length path) && true && true) ≡ true
deep_there [] some = absurd (some refl)
deep_there (k ∷ path) some = rw (lt-ltb 0 (suc (length path)) (omega arith)) refl

follows_last : (path : List ℕ) (behind : List CharToken) → Follows path behind → is_last (length path) behind ≡ true
follows_last path behind (inl is) = ap (is_last (length path)) is
follows_last path behind (inr (some, is)) = ap (is_last (length path)) is ∙ deep_there path some

pub lasts_are_by_what_follows : LastsAreByWhatFollows
lasts_are_by_what_follows font path t behind s = (last_follows path behind, follows_last path behind)

-- ---- the Subr that is called

callsubr_is : (t : CharToken) → is_callsubr t ≡ true → t ≡ Command Callsubr
callsubr_is (Command Callsubr) h = refl
callsubr_is _ h = cc

tested : (b : Bool) (x : Option CalledSubr) → is_some (cond b x None) ≡ true → (b ≡ true) × (is_some x ≡ true)
tested true x h = (refl, h)
tested false x h = let no : false ≡ true = h in cc

-- A stack that isn't empty, and its top.
with_top : (z : ℤ) (zs : List ℤ) → (z ∷ zs) ≡ take (length zs) (z ∷ zs) ++ slice_index_or (z ∷ zs) (length zs) (pos 0) ∷ []
with_top z [] = refl
with_top z (y ∷ ys) = ap (λ (l : List ℤ). z ∷ l) (with_top y ys)

top_of : (stack : List ℤ) → 0 < length stack → (below : List ℤ) × (stack ≡ below ++ from_top stack 0 ∷ [])
top_of [] some = absurd (omega (arith, some))
top_of (z ∷ zs) some =
    let place : suc (length zs) - 1 - 0 ≡ length zs = omega arith in
    let top : from_top (z ∷ zs) 0 ≡ slice_index_or (z ∷ zs) (length zs) (pos 0) =
    get_or-reverse (z ∷ zs) 0 (pos 0) (omega arith) ∙ ap (λ n. slice_index_or (z ∷ zs) n (pos 0)) place in
    (take (length zs) (z ∷ zs), with_top z zs ∙ ap (λ x. take (length zs) (z ∷ zs) ++ x ∷ []) (sym top))

code_there : (font : FontValue) (t : CharToken) (stack : List ℤ) (number : ℕ) (found : Option (List ℕ)) → subr_in font number ≡ found
    → is_some (with_code number found) ≡ true
    → t ≡ Command Callsubr → 0 < length stack → from_top stack 0 ≡ units (pos number) → CallsASubr font t stack number
code_there font t stack number None is h token some top = let no : false ≡ true = h in cc
code_there font t stack number (Some code) is h token some top =
    let split = top_of stack some in
    record {
      code = code;
      below = split.0;
      token = token;
      stack_is = split.1 ∙ ap (λ z. split.0 ++ z ∷ []) top;
      there = is;
    }

number_there : (font : FontValue) (t : CharToken) (stack : List ℤ) (found : Option ℕ) → natural (from_top stack 0) ≡ found → is_some (subr_of font found) ≡ true
    → t ≡ Command Callsubr → 0 < length stack → (number : ℕ) × CallsASubr font t stack number
number_there font t stack None is h token some = let no : false ≡ true = h in cc
number_there font t stack (Some number) is h token some =
    (number, code_there font t stack number (subr_in font number) refl h token some ((whole_numbers_are_read (from_top stack 0) number).0 is))

pub found_subrs_are_called : FoundSubrsAreCalled
found_subrs_are_called font path t behind s found =
    let is = tested (is_callsubr t && nat_lt 0 (length s.stack)) (subr_of font (natural (from_top s.stack 0))) found in
    let called = both (is_callsubr t) (nat_lt 0 (length s.stack)) is.0 in
    number_there font t s.stack (natural (from_top s.stack 0)) refl is.1 (callsubr_is t called.0) (ltb-true 0 (length s.stack) called.1)

top_is : (below : List ℤ) (z : ℤ) → from_top (below ++ z ∷ []) 0 ≡ z
top_is below z = grind (arith, common_steps)

pub called_subrs_are_found : CalledSubrsAreFound
called_subrs_are_found font path t behind s number few calls =
    let there : 0 < length (calls.below ++ units (pos number) ∷ []) = omega (arith, length-append calls.below (units (pos number) ∷ [])) in
    rw (
      calls.token,
      calls.stack_is,
      lt-ltb 0 (length (calls.below ++ units (pos number) ∷ [])) there,
      top_is calls.below (units (pos number)),
      natural_of number few,
      calls.there,
    ) refl
