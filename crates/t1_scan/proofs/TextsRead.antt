-- A text that begins with a token in plain form is read as this token, and tokens that were written as
-- just these.
use Rattle.std.proofs.Common.{◌≡◌, ◌+◌, ◌==◌, ℕ, Bool, true, false, ◌&&◌, ◌||◌, not, None, Ok, List, [], ◌∷◌, ◌++◌, map, length, refl, ap, ◌∙◌, arith}
use Rattle.std.proofs.Math.Seq.{drop-append-add}
use Rattle.std.proofs.lemmas.Bool.{and_parts, false≢true}
use Rattle.std.proofs.lemmas.Bool.Decides.{nat_tests}
use Rattle.t1_scan.specs.Bytes.{is_blank, is_regular}
use Rattle.t1_scan.specs.Lengths.{is_comment_after, blank_len, begins_with_close}
use Rattle.t1_scan.specs.Tokens.{token_of}
use Rattle.t1_scan.specs.Spelling.{Plain, name, word, decimal, radix, single, double_open, double_close, parenthesized, angled, braced, bracketed, spelled}
use Rattle.t1_scan.specs.Laws.{ReadsToken, RoundTrip}
use Rattle.t1_scan.specs.Texts.{IsReadAs, is_gap, ends_run, can_end, continued, lexeme_of, AreReadable}
use Rattle.t1_scan.proofs.TokensRead.{plain_read}

-- leading blanks and comments are skipped
gap_len : (c : Bool) (gap s : List ℕ) → is_gap c gap ≡ true → blank_len c (gap ++ s) ≡ length gap + blank_len false s
unfolding blank_len
gap_len false [] s h = omega arith
gap_len true [] s h = absurd (false≢true h)
gap_len c (b ∷ gap) s h =
    let parts = and_parts (c || (is_blank b || b == 37)) (is_gap (is_comment_after c b) gap) h in
    rw (parts.0, gap_len (is_comment_after c b) gap s parts.1) (omega arith)

pub skip_gap : (gap s : List ℕ) → is_gap false gap ≡ true → token_of (gap ++ s) ≡ token_of s
skip_gap gap s h = rw (gap_len false gap s h, drop-append-add gap s (blank_len false s)) refl

pub reads_token : ReadsToken
reads_token s t rest h =
    ap token_of h.whole ∙ skip_gap h.gap (spelled t ++ rest) h.blanks ∙ plain_read t rest h.readable h.ends

-- a blank ends each token
blank_not_regular : (b : ℕ) → is_blank b ≡ true → not (is_regular b) ≡ true
blank_not_regular b h = rw h refl

blank_not_close : (b : ℕ) → is_blank b ≡ true → (b == 62) ≡ false
blank_not_close b h = grind (arith, nat_tests)

continued_ends : (blank : ℕ) (ts : List Plain) → is_blank blank ≡ true → ends_run (continued blank ts) ≡ true
continued_ends blank [] h = refl
continued_ends blank (t ∷ ts) h = blank_not_regular blank h

continued_apart : (blank : ℕ) (ts : List Plain) → is_blank blank ≡ true → begins_with_close (continued blank ts) ≡ false
continued_apart blank [] h = refl
continued_apart blank (t ∷ ts) h = blank_not_close blank h

not_both : (x y : Bool) → y ≡ false → not (x && y) ≡ true
not_both true y h = rw h refl
not_both false y h = refl

blank_ends : (t : Plain) (blank : ℕ) (ts : List Plain) → is_blank blank ≡ true → can_end t (continued blank ts) ≡ true
blank_ends (name _) blank ts h = continued_ends blank ts h
blank_ends (word _) blank ts h = continued_ends blank ts h
blank_ends (decimal _ _ _) blank ts h = continued_ends blank ts h
blank_ends (radix _ _) blank ts h = continued_ends blank ts h
blank_ends (single b) blank ts h = not_both (b == 62) (begins_with_close (continued blank ts)) (continued_apart blank ts h)
blank_ends double_open blank ts h = refl
blank_ends double_close blank ts h = refl
blank_ends (parenthesized _) blank ts h = refl
blank_ends (angled _) blank ts h = refl
blank_ends (braced _) blank ts h = refl
blank_ends (bracketed _) blank ts h = refl

blank_gap : (b : ℕ) → is_blank b ≡ true → is_gap false (b ∷ []) ≡ true
blank_gap b h =
    let percent : (b == 37) ≡ false = grind (arith, nat_tests) in rw (h, percent) refl

none_in_nothing : token_of [] ≡ Ok None
unfolding blank_len
none_in_nothing = refl

continued_read : (blank : ℕ) (ts : List Plain) → is_blank blank ≡ true → AreReadable ts → IsReadAs (continued blank ts) (map lexeme_of ts)
continued_read blank [] h r = none_in_nothing
continued_read blank (t ∷ ts) h r =
    let rest = continued blank ts in
    (rest, skip_gap (blank ∷ []) (spelled t ++ rest) (blank_gap blank h) ∙ plain_read t rest r.0 (blank_ends t blank ts h), continued_read blank ts h r.1)

pub round_trip : RoundTrip
round_trip blank [] h r = none_in_nothing
round_trip blank (t ∷ ts) h r =
    (continued blank ts, plain_read t (continued blank ts) r.0 (blank_ends t blank ts h), continued_read blank ts h r.1)
