-- How far a section is opened.
use Rattle.std.specs.Prelude.{◌≡◌, ◌<◌, ◌≤◌, ◌-◌, ℕ, List, length, drop, min, vec_capacity, vec_len}
use Rattle.t1_seal.specs.declared.opening.Opening.{Opening}
use Rattle.t1_seal.specs.Cipher.{eexec_start, decrypted, state_after}

-- The cipher bytes of front were taken: the cipher's state is the one after them, up to four of them
-- were discarded, and the text is what the others open to.
pub record HasTaken (opening : Opening) (front : List ℕ) : Type 0 where
  pub cipher : opening.cipher.r ≡ state_after eexec_start front
  pub discarded : opening.discarded ≡ min 4 (length front)
  pub text : opening.text.items ≡ drop 4 (decrypted eexec_start front)

-- One more cipher byte can be taken.
abbrev pub HasRoom : Opening → Type 0
HasRoom opening = 4 ≤ opening.discarded → vec_len opening.text < vec_capacity opening.text

-- There is room for so many cipher bytes in all.
abbrev pub IsFor : ℕ → Opening → Type 0
IsFor bytes opening = vec_capacity opening.text ≡ bytes - 4
