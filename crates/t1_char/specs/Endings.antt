-- How a charstring ends, and what comes behind the end of a glyph in it. Type 1 Font Format 1.1, chapter 6 (endchar, seac).
use Rattle.std.specs.Prelude.{if◌then◌else◌, Option, Some, None, List, [], ◌∷◌}
use Rattle.t1_char.specs.declared.token.CharToken.{CharToken}
use Rattle.t1_char.specs.Effects.{is_finishing}
use Rattle.t1_char.specs.Steps.{is_end}

-- What follows the first token that finishes the glyph; nothing where there is none.
unfoldable pub behind_end : List CharToken → List CharToken
behind_end [] = []
behind_end (t ∷ ts) = if is_finishing t then ts else behind_end ts

-- The last token before the end; none where there is no other.
abbrev pub last_before_end : Option CharToken → List CharToken → Option CharToken
last_before_end last [] = last
last_before_end last (t ∷ ts) = if is_end t then last else last_before_end (Some t) ts

abbrev pub last_token : List CharToken → Option CharToken
last_token tokens = last_before_end None tokens
