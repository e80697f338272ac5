-- Laws of what texts state.
use Rattle.std.specs.Prelude.{◌≡◌, ℕ, List, [], ◌∷◌, ◌++◌}
use Rattle.t1_font.specs.declared.unread.Unread.{Unread}
use Rattle.t1_font.specs.Fonts.{Stated, Marks, value_of}
use Rattle.t1_font.specs.Puts.{put}
use Rattle.t1_font.specs.TextTurns.{Reader, stated_in}
use Rattle.t1_font.specs.Runs.{run_of, value_read}

-- One statement more.
abbrev pub OneMore : Type 0
OneMore = (marks : Marks) (es : List Stated) (e : Stated) →
    value_of marks (es ++ e ∷ []) ≡ put (value_of marks es) e

-- Reading while a value is kept is looking up afterwards.
abbrev pub ReadAsStated : Type 0 → Type 0
ReadAsStated M = (turn : Reader M) (ended : Unread) (marks : Marks) (before : List Stated) (mode : M)
    (s : List ℕ) →
    run_of turn ended (value_of marks before) mode s
    ≡ value_read marks (stated_in turn ended marks before mode s)
