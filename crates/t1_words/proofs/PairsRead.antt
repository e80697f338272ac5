-- Nested braces and brackets are paired.
use Rattle.std.proofs.Common.{◌≡◌, ◌+◌, ◌-◌, ◌==◌, ◌<◌, ◌≤◌, ℕ, zero, suc, true, false, not, nat_lt, Some, List, [], ◌∷◌, ◌++◌, length, drop, refl, ap, ◌∙◌, arith, length-append, append_assoc}
use Rattle.std.proofs.Math.Seq.{drop-append_seam, take-append_seam, drop-length}
use Rattle.std.proofs.lemmas.Bool.{and_parts}
use Rattle.std.proofs.lemmas.Bool.Decides.{nat_tests}
use Rattle.std.specs.Bool.{then_some}
use Rattle.std.specs.List.{list_all, slice_get}
use Rattle.t1_scan.specs.Bytes.{is_line_end}
use Rattle.t1_scan.specs.Lengths.{further, comment_len, part_len, angle_len}
use Rattle.t1_scan.specs.Spelling.{Part, byte, comment, string, hexadecimal, double_angle, part_text, letters_text}
use Rattle.t1_scan.proofs.BodiesRead.{comment_read, single_part}
use Rattle.t1_scan.proofs.StringsRead.{string_read, angle_read}
use Rattle.t1_words.specs.Pairs.{closed, holds, is_none_open, open_after, opened, pairs, skipped_len}
use Rattle.t1_words.specs.Nested.{Paired, nothing, part, double_close, braces, brackets, paired_text, is_plain_byte, is_plain_part, has_plain_parts, paired_depth, is_last_comment, IsNested}

-- The bytes that are skipped.
pub skip_all : (n : ℕ) (o s : List ℕ) → n ≤ length s → pairs n o s ≡ pairs 0 o (drop n s)
unfolding pairs
skip_all zero o s h = refl
skip_all (suc n) o [] h = absurd (omega arith)
skip_all (suc n) o (b ∷ s) h = skip_all n o s (omega arith)

pub pairs_first : (o : List ℕ) (b : ℕ) (s : List ℕ) → pairs 0 o (b ∷ s) ≡ holds (λ left. holds (λ n. pairs (n - 1) left s) (skipped_len b s)) (open_after b o)
unfolding pairs
pairs_first o b s = refl

-- A byte and what is skipped with it, with what follows left.
whole_step : (b : ℕ) (t s o left : List ℕ) → open_after b o ≡ Some left → skipped_len b (t ++ s) ≡ Some (1 + length t)
    → pairs 0 o ((b ∷ t) ++ s) ≡ pairs 0 left s
whole_step b t s o left opens skips =
    let back : (1 + length t) - 1 ≡ length t = omega arith in
    rw (pairs_first o b (t ++ s), opens, skips, back) (skip_all (length t) left (t ++ s) (omega (arith, length-append t s))
    ∙ ap (pairs 0 left) (drop-append_seam t s))

-- A byte that is no bracket leaves open what is open.
pub open_steady : (b : ℕ) (o : List ℕ) → (b == 123) ≡ false → (b == 91) ≡ false → (b == 125) ≡ false → (b == 93) ≡ false → open_after b o ≡ Some o
open_steady b o h91 h123 h125 h93 = rw (h91, h123, h125, h93) refl

pub skipped_other : (b : ℕ) (s : List ℕ) → (b == 41) ≡ false → (b == 62) ≡ false → skipped_len b s ≡ part_len b s
skipped_other b s h41 h62 = rw (h41, h62) refl

byte_read : (b : ℕ) (o s : List ℕ) → is_plain_byte b ≡ true → pairs 0 o (b ∷ s) ≡ pairs 0 o s
byte_read b o s h =
    let h37 : (b == 37) ≡ false = grind (arith, nat_tests) in
    let h40 : (b == 40) ≡ false = grind (arith, nat_tests) in
    let h41 : (b == 41) ≡ false = grind (arith, nat_tests) in
    let h60 : (b == 60) ≡ false = grind (arith, nat_tests) in
    let h62 : (b == 62) ≡ false = grind (arith, nat_tests) in
    let h91 : (b == 91) ≡ false = grind (arith, nat_tests) in
    let h93 : (b == 93) ≡ false = grind (arith, nat_tests) in
    let h123 : (b == 123) ≡ false = grind (arith, nat_tests) in
    let h125 : (b == 125) ≡ false = grind (arith, nat_tests) in
    whole_step b [] s o o (open_steady b o h123 h91 h125 h93) (skipped_other b s h41 h62 ∙ single_part b s h37 h40 h60)

line_end_plain : (b : ℕ) → is_line_end b ≡ true → is_plain_byte b ≡ true
line_end_plain b h = grind (arith, nat_tests)

pub part_read : (q : Part) (o s : List ℕ) → is_plain_part q ≡ true → pairs 0 o (part_text q ++ s) ≡ pairs 0 o s
unfolding part_len angle_len
part_read (byte b) o s h = byte_read b o s h
part_read (comment bytes line_end) o s h =
    let parts = and_parts (list_all (λ b. not (is_line_end b)) bytes) (is_line_end line_end) h in
    let read = comment_read bytes line_end s parts.0 parts.1 in
    ap (λ t. pairs 0 o (37 ∷ t)) (append_assoc bytes (line_end ∷ []) s)
    ∙ whole_step 37 bytes (line_end ∷ s) o o refl (ap (λ n. Some (1 + n)) read)
    ∙ byte_read line_end o s (line_end_plain line_end parts.1)
part_read (string letters) o s h =
    whole_step 40 (letters_text letters ++ (41 ∷ [])) s o o refl (ap (further 1) (string_read letters s h))
part_read (hexadecimal bytes) o s h =
    whole_step 60 (bytes ++ (62 ∷ [])) s o o refl (ap (further 1) (angle_read bytes s h))
part_read double_angle o s h = whole_step 60 (60 ∷ []) s o o refl refl

-- The innermost open bracket is the last.
last_at : (o : List ℕ) (a : ℕ) → slice_get (o ++ a ∷ []) (length o) ≡ Some a
last_at [] a = refl
last_at (x ∷ o) a = last_at o a

pub closed_last : (b a : ℕ) (o : List ℕ) → closed b (o ++ a ∷ []) ≡ then_some (a == b) o
closed_last b a o =
    let before : length (o ++ a ∷ []) - 1 ≡ length o = omega (arith, length-append o (a ∷ [])) in
    rw (before, last_at o a, take-append_seam o (a ∷ [])) refl

opened_more : (b : ℕ) (o : List ℕ) → length o < 32 → opened b o ≡ Some (o ++ b ∷ [])
opened_more b o h =
    let fits : nat_lt (length o) 32 ≡ true = grind (arith, nat_tests) in
    rw fits refl

-- A byte that is skipped alone.
pub single : (b : ℕ) (s : List ℕ) → (b == 41) ≡ false → (b == 62) ≡ false → (b == 37) ≡ false → (b == 40) ≡ false → (b == 60) ≡ false
    → skipped_len b s ≡ Some 1
single b s h41 h62 h37 h40 h60 = skipped_other b s h41 h62 ∙ single_part b s h37 h40 h60

pub brace_opens : (o s : List ℕ) → length o < 32 → pairs 0 o (123 ∷ s) ≡ pairs 0 (o ++ 123 ∷ []) s
brace_opens o s h = whole_step 123 [] s o (o ++ 123 ∷ []) (opened_more 123 o h) (single 123 s refl refl refl refl refl)

pub bracket_opens : (o s : List ℕ) → length o < 32 → pairs 0 o (91 ∷ s) ≡ pairs 0 (o ++ 91 ∷ []) s
bracket_opens o s h = whole_step 91 [] s o (o ++ 91 ∷ []) (opened_more 91 o h) (single 91 s refl refl refl refl refl)

brace_closes : (o s : List ℕ) → pairs 0 (o ++ 123 ∷ []) (125 ∷ s) ≡ pairs 0 o s
brace_closes o s = whole_step 125 [] s (o ++ 123 ∷ []) o (closed_last 123 123 o) (single 125 s refl refl refl refl refl)

bracket_closes : (o s : List ℕ) → pairs 0 (o ++ 91 ∷ []) (93 ∷ s) ≡ pairs 0 o s
bracket_closes o s = whole_step 93 [] s (o ++ 91 ∷ []) o (closed_last 91 91 o) (single 93 s refl refl refl refl refl)

pub angles_read : (o s : List ℕ) → pairs 0 o (62 ∷ 62 ∷ s) ≡ pairs 0 o s
angles_read o s = whole_step 62 (62 ∷ []) s o o refl refl

paired_read : (x : Paired) (o s : List ℕ) → length o + paired_depth x ≤ 32 → has_plain_parts x ≡ true → pairs 0 o (paired_text x ++ s) ≡ pairs 0 o s
paired_read nothing o s shallow h = refl
paired_read (part q more) o s shallow h =
    let parts = and_parts (is_plain_part q) (has_plain_parts more) h in
    ap (pairs 0 o) (append_assoc (part_text q) (paired_text more) s) ∙ part_read q o (paired_text more ++ s) parts.0
    ∙ paired_read more o s shallow parts.1
paired_read (double_close more) o s shallow h = angles_read o (paired_text more ++ s) ∙ paired_read more o s shallow h
paired_read (braces inner more) o s shallow h =
    let parts = and_parts (has_plain_parts inner) (has_plain_parts more) h in
    let rest = paired_text more ++ s in
    ap (λ t. pairs 0 o (123 ∷ t)) (append_assoc (paired_text inner) (125 ∷ paired_text more) s)
    ∙ brace_opens o (paired_text inner ++ (125 ∷ rest)) (omega arith)
    ∙ paired_read inner (o ++ 123 ∷ []) (125 ∷ rest) (omega (arith, length-append o (123 ∷ []))) parts.0
    ∙ brace_closes o rest ∙ paired_read more o s (omega arith) parts.1
paired_read (brackets inner more) o s shallow h =
    let parts = and_parts (has_plain_parts inner) (has_plain_parts more) h in
    let rest = paired_text more ++ s in
    ap (λ t. pairs 0 o (91 ∷ t)) (append_assoc (paired_text inner) (93 ∷ paired_text more) s)
    ∙ bracket_opens o (paired_text inner ++ (93 ∷ rest)) (omega arith)
    ∙ paired_read inner (o ++ 91 ∷ []) (93 ∷ rest) (omega (arith, length-append o (91 ∷ []))) parts.0
    ∙ bracket_closes o rest ∙ paired_read more o s (omega arith) parts.1

-- A comment that the text ends.
comment_all : (s : List ℕ) → list_all (λ c. not (is_line_end c)) s ≡ true → comment_len s ≡ length s
comment_all [] h = refl
comment_all (b ∷ s) h =
    let p = and_parts (not (is_line_end b)) (list_all (λ c. not (is_line_end c)) s) h in
    rw (p.0, comment_all s p.1) (omega arith)

pub comment_step : (o s : List ℕ) → comment_len s ≤ length s → pairs 0 o (37 ∷ s) ≡ pairs 0 o (drop (comment_len s) s)
unfolding part_len
comment_step o s h =
    let back : (1 + comment_len s) - 1 ≡ comment_len s = omega arith in
    pairs_first o 37 s ∙ ap (λ n. pairs n o s) back ∙ skip_all (comment_len s) o s h

pub end_read : (o : List ℕ) → pairs 0 o [] ≡ is_none_open o
unfolding pairs
end_read o = refl

last_read : (s : List ℕ) → is_last_comment s ≡ true → pairs 0 [] s ≡ true
last_read [] h = end_read []
last_read (b ∷ s) h =
    let p = and_parts (b == 37) (list_all (λ c. not (is_line_end c)) s) h in
    let is : b ≡ 37 = grind (arith, nat_tests) in
    let all = comment_all s p.1 in
    ap (λ c. pairs 0 [] (c ∷ s)) is ∙ comment_step [] s (omega arith) ∙ ap (λ n. pairs 0 [] (drop n s)) all ∙ ap (pairs 0 []) (drop-length s)
    ∙ end_read []

pub nested_is_paired : (s : List ℕ) → IsNested s → pairs 0 [] s ≡ true
nested_is_paired s x = ap (pairs 0 []) x.whole ∙ paired_read x.tree [] x.last (omega (arith, x.shallow)) x.plain ∙ last_read x.last x.ends
