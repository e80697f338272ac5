-- What an opening has taken, a cipher byte at a time.
use Rattle.std.proofs.Common.{◌≡◌, ℕ, ◌-◌, ◌<◌, ◌≤◌, ◌++◌, List, [], ◌∷◌, length, drop, Ok, Err, refl, ap, sym, ◌∙◌, length-append, length-drop, vec_len, Result, Vec, Global, arith}
use Rattle.std.proofs.lemmas.Bool.{lt-ltb, le-ltb}
use Rattle.std.proofs.lemmas.List.{drop-append-le, drop_all}
use Rattle.std.specs.Result.{MatchResult}
use Rattle.std.specs.Vec.{vec_items}
use Rattle.t1_seal.specs.declared.errors.SealError.{SealError}
use Rattle.t1_seal.specs.declared.errors.SealError.TheVariants.{NotAFont, BadHeader, CutShort, TooShort, Memory}
use Rattle.t1_seal.specs.SealError.{Reads}
use Rattle.t1_seal.specs.declared.opening.Opening.{Opening}
use Rattle.t1_seal.specs.Cipher.{eexec_start, plain_byte, decrypted}
use Rattle.t1_seal.specs.Eexec.{opened}
use Rattle.t1_seal.specs.Private.Opening.{HasRoom, HasTaken, IsFor}
use Rattle.t1_seal.proofs.Deciphering.{decrypted-push, length-decrypted}

-- Fewer than four cipher bytes open to nothing, and others to what follows the first four.
pub opened-short : (front : List ℕ) → length front < 4 → opened front ≡ Err TooShort
unfolding opened
opened-short front h = rw (lt-ltb (length front) 4 h) refl

pub opened-long : (front : List ℕ) → 4 ≤ length front → opened front ≡ Ok (drop 4 (decrypted eexec_start front))
unfolding opened
opened-long front h = rw (le-ltb (length front) 4 h) refl

-- One of the first four bytes leaves the text empty.
pub text_discarded : (front : List ℕ) (c : ℕ) → length front < 4 → drop 4 (decrypted eexec_start front) ≡ drop 4 (decrypted eexec_start (front ++ c ∷ []))
text_discarded front c h =
    let before : length (decrypted eexec_start front) ≤ 4 = omega (arith, length-decrypted eexec_start front) in
    let after : length (decrypted eexec_start (front ++ c ∷ [])) ≤ 4 =
    omega (arith, length-decrypted eexec_start (front ++ c ∷ []), length-append front (c ∷ [])) in
    drop_all 4 (decrypted eexec_start front) before ∙ sym (drop_all 4 (decrypted eexec_start (front ++ c ∷ [])) after)

-- A later byte adds its plain byte.
pub text_pushed : (front : List ℕ) (c : ℕ) → 4 ≤ length front → drop 4 (decrypted eexec_start front) ++ plain_byte eexec_start front c ∷ []
    ≡ drop 4 (decrypted eexec_start (front ++ c ∷ []))
text_pushed front c h =
    let long : 4 ≤ length (decrypted eexec_start front) = omega (arith, length-decrypted eexec_start front) in
    sym (ap (drop 4) (decrypted-push eexec_start front c)
    ∙ drop-append-le 4 (decrypted eexec_start front) (plain_byte eexec_start front c ∷ []) long)

-- An opening for more bytes than it has taken has room for one more.
pub has_room : (opening : Opening) (front : List ℕ) (bytes : ℕ) → HasTaken opening front → IsFor bytes opening → length front < bytes → HasRoom opening
has_room opening front bytes taken room below full =
    let long : 4 ≤ length front = omega (arith, taken.discarded) in
    let items : length opening.text.items ≡ length front - 4 =
    ap length taken.text ∙ length-drop 4 (decrypted eexec_start front) ∙ ap (λ n. n - 4) (length-decrypted eexec_start front) in
    let len : vec_len opening.text ≡ length opening.text.items = opening.text.ok.0 in
    omega (arith, items, len, room)

-- An opening that has not discarded four bytes has taken fewer than four.
pub finishes_short : (opening : Opening) (front : List ℕ) → HasTaken opening front → opening.discarded < 4 → opened front ≡ Err TooShort
finishes_short opening front taken h =
    let short : length front < 4 = omega (arith, taken.discarded) in opened-short front short

pub finishes_long : (opening : Opening) (front : List ℕ) → HasTaken opening front → 4 ≤ opening.discarded → opened front ≡ Ok opening.text.items
finishes_long opening front taken h =
    let long : 4 ≤ length front = omega (arith, taken.discarded) in rw taken.text (opened-long front long)

-- What an opening finishes with is what its cipher bytes open to.
pub finished : (result : Result (Vec ℕ Global) SealError) (read wanted : Result (List ℕ) SealError) → MatchResult result (λ text. read ≡ Ok text.items)
    (λ e. read ≡ Err e) → read ≡ wanted → Reads vec_items result wanted
finished (Ok text) read wanted h same = sym same ∙ h
finished (Err Memory) read wanted h same = tt
finished (Err NotAFont) read wanted h same = sym same ∙ h
finished (Err BadHeader) read wanted h same = sym same ∙ h
finished (Err CutShort) read wanted h same = sym same ∙ h
finished (Err TooShort) read wanted h same = sym same ∙ h
