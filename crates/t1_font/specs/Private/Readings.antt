-- What a call that takes no memory says of what a definition reads.
use Rattle.std.specs.Prelude.{◌≡◌, Result, Ok, Err}
use Rattle.t1_font.specs.declared.unread.Unread.{Unread}

-- What a call that takes no memory returned, seen by view, is what was read.
abbrev pub Is : {X Y : Type 0} → (X → Y) → Result X Unread → Result Y Unread → Type 0
Is view (Ok x) read = read ≡ Ok (view x)
Is view (Err e) read = read ≡ Err e
