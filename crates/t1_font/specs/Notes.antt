-- A noted key: the token behind its name is its value, if there is one that reads. It isn't taken: reading goes on at it.
use Rattle.std.specs.Prelude.{Option, Some, List, ℕ}
use Rattle.t1_font.specs.declared.key.Key.{Key}
use Rattle.t1_font.specs.Fonts.{Stated, plain}
use Rattle.t1_font.specs.Tokens.{token_ahead, ◌>?◌}

unfoldable pub noted : Option Key → List ℕ → Option Stated
noted key rest = key >? λ k. token_ahead rest >? λ t. Some (plain k (record { kind = t.kind; text = t.text }))
