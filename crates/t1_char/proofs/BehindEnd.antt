-- What comes behind the end of a glyph, token by token.
use Rattle.std.proofs.Common.{◌≡◌, true, false, List, [], ◌∷◌, refl}
use Rattle.t1_char.specs.declared.token.CharToken.{CharToken}
use Rattle.t1_char.specs.declared.token.CharToken.TheVariants.{End}
use Rattle.t1_char.specs.Effects.{is_finishing}
use Rattle.t1_char.specs.Endings.{behind_end}
use Rattle.t1_char.specs.Steps.{is_end}
use Rattle.t1_char.specs.Private.Cursors.{behind_token}

pub none_behind : (t : CharToken) (left rest : List CharToken) → left ≡ t ∷ behind_token t rest → is_end t ≡ true → behind_end left ≡ []
unfolding behind_end
none_behind End left rest is ends = rw is refl
none_behind _ left rest is ends = let no : false ≡ true = ends in cc

pub first_behind : (t : CharToken) (left rest : List CharToken) → left ≡ t ∷ behind_token t rest → is_end t ≡ false → is_finishing t ≡ true
    → behind_end left ≡ rest
unfolding behind_end
first_behind t left rest is more finishes = rw (is, more, finishes) refl

pub goes_on : (t : CharToken) (left rest : List CharToken) → left ≡ t ∷ behind_token t rest → is_end t ≡ false → is_finishing t ≡ false
    → behind_end left ≡ behind_end rest
unfolding behind_end
goes_on t left rest is more on = rw (is, more, on) refl
