-- What comes behind a step that finishes its glyph is what comes behind the first such token of its charstring.
use Rattle.std.proofs.Common.{◌≡◌, ℕ, true, false, List, ◌∷◌, length, refl, sym, ap, ◌∙◌}
use Rattle.t1_font.specs.Fonts.{FontValue}
use Rattle.t1_char.specs.declared.token.CharToken.{CharToken}
use Rattle.t1_char.specs.Charstrings.{tokens_in}
use Rattle.t1_char.specs.Effects.{is_finishing}
use Rattle.t1_char.specs.Endings.{behind_end}
use Rattle.t1_char.specs.Steps.{is_last}
use Rattle.t1_reasons.specs.CharstringReasons.{EndsAreFollowedAsTold, IsFollowed, charstring_at}
use Rattle.t1_reasons.proofs.EachStep.{each_step}

goes_past : (t : CharToken) (ts : List CharToken) → is_finishing t ≡ false → behind_end (t ∷ ts) ≡ behind_end ts
unfolding behind_end
goes_past t ts is = rw is refl

ends_here : (t : CharToken) (ts : List CharToken) → is_finishing t ≡ true → behind_end (t ∷ ts) ≡ ts
unfolding behind_end
ends_here t ts is = rw is refl

-- The same comes behind the end as in the whole charstring.
abbrev IsBehind : FontValue → ℕ → List ℕ → List CharToken → Type 0
IsBehind font glyph path ts = behind_end ts ≡ behind_end (tokens_in font (charstring_at font glyph path))

pub ends_are_followed_as_told : EndsAreFollowedAsTold
ends_are_followed_as_told font glyph =
    each_step font glyph (IsBehind font glyph) (IsFollowed font glyph) (λ path. refl)
    (λ path t ts other same. sym (goes_past t ts other) ∙ same)
    (λ path t ts s same is. ap (is_last (length path)) (sym (ends_here t ts is) ∙ same))
