-- The lines of a text of waivers, as the program goes along it.
use Rattle.std.proofs.Common.{◌≡◌, ℕ, suc, ◌+◌, ◌-◌, ◌<◌, ◌≤◌, ◌==◌, cond, Option, None, Some, Err, List, [], ◌∷◌, ◌++◌, drop, length, length-drop, option_and_then, take, slice_index_or, slice_range, refl, sym, ap, ◌∙◌, arith}
use Rattle.std.proofs.lemmas.Bool.{eq-eqb, ne_eqb}
use Rattle.std.proofs.lemmas.List.{drop_all, get_or-drop}
use Rattle.std.proofs.Math.Seq.{drop-cons, take-suc}
use Rattle.t1_char.specs.declared.edition.Edition.{Edition}
use Rattle.t1_report.specs.declared.waivers.WaiverError.{WaiverError}
use Rattle.t1_report.specs.declared.waivers.WaiverError.TheVariants.{Malformed, Memory}
use Rattle.t1_report.specs.WaiverViews.{IsReadAs}
use Rattle.t1_report.specs.Waivers.{Waiver, line_read, lines_from, lines_read}

-- The current line, one byte on.
front_more : (text : List ℕ) (start at d : ℕ) → start ≤ at → at < length text
    → slice_range text start (at + 1) ≡ slice_range text start at ++ slice_index_or text at d ∷ []
front_more text start at d behind within =
    let count : at + 1 - start ≡ suc (at - start) = omega (arith, behind) in
    let place : start + (at - start) ≡ at = omega (arith, behind) in
    let here = length-drop start text in
    ap (λ n. take n (drop start text)) count
    ∙ take-suc (drop start text) (at - start) d (omega (arith, here, within, behind))
    ∙ ap (λ (x : ℕ). slice_range text start at ++ x ∷ []) (get_or-drop start text (at - start) d ∙ ap (λ i. slice_index_or text i d) place)

next_byte : (text : List ℕ) (at : ℕ) (d : ℕ) (front : List ℕ) → at < length text → lines_from front (drop at text)
    ≡ cond (slice_index_or text at d == 10) (front ∷ lines_from [] (drop (at + 1) text))
    (lines_from (front ++ slice_index_or text at d ∷ []) (drop (at + 1) text))
unfolding lines_from
next_byte text at d front within =
    let next : suc at ≡ at + 1 = omega arith in
    ap (lines_from front) (drop-cons text at d within)
    ∙ ap (λ n. cond (slice_index_or text at d == 10) (front ∷ lines_from [] (drop n text)) (lines_from (front ++ slice_index_or text at d ∷ []) (drop n text)))
    next

-- In a line.
pub line_on : (text : List ℕ) (start at d : ℕ) → start ≤ at → at < length text → (slice_index_or text at d ≡ 10 → ⊥)
    → lines_from (slice_range text start (at + 1)) (drop (at + 1) text) ≡ lines_from (slice_range text start at) (drop at text)
line_on text start at d behind within other =
    ap (λ front. lines_from front (drop (at + 1) text)) (front_more text start at d behind within)
    ∙ sym (next_byte text at d (slice_range text start at) within
    ∙ ap (λ b. cond b (slice_range text start at ∷ lines_from [] (drop (at + 1) text))
    (lines_from (slice_range text start at ++ slice_index_or text at d ∷ []) (drop (at + 1) text))) (ne_eqb (slice_index_or text at d) 10 other))

-- At the end of a line.
line_over : (text : List ℕ) (start at d : ℕ) → at < length text → slice_index_or text at d ≡ 10
    → lines_from (slice_range text start at) (drop at text) ≡ slice_range text start at ∷ lines_from [] (drop (at + 1) text)
line_over text start at d within over =
    next_byte text at d (slice_range text start at) within
    ∙ ap (λ b. cond b (slice_range text start at ∷ lines_from [] (drop (at + 1) text))
    (lines_from (slice_range text start at ++ slice_index_or text at d ∷ []) (drop (at + 1) text))) (eq-eqb (slice_index_or text at d) 10 over)

read_first : (edition : Edition) (waivers : List Waiver) (line : List ℕ) (lines : List (List ℕ)) → lines_read edition waivers (line ∷ lines) ≡ option_and_then
    (λ more. lines_read edition more lines) (line_read edition waivers line)
unfolding lines_read
read_first edition waivers line lines = refl

empty_front : (text : List ℕ) (at : ℕ) → slice_range text at at ≡ []
empty_front text at = ap (λ n. take n (drop at text)) (let none : at - at ≡ 0 = omega arith in none)

pub line_taken : (edition : Edition) (waivers more : List Waiver) (text : List ℕ) (start at d : ℕ) → at < length text → slice_index_or text at d ≡ 10
    → line_read edition waivers (slice_range text start at) ≡ Some more
    → lines_read edition more (lines_from (slice_range text (at + 1) (at + 1)) (drop (at + 1) text)) ≡ lines_read edition waivers
    (lines_from (slice_range text start at) (drop at text))
line_taken edition waivers more text start at d within over is =
    ap (λ front. lines_read edition more (lines_from front (drop (at + 1) text))) (empty_front text (at + 1))
    ∙ sym (ap (lines_read edition waivers) (line_over text start at d within over)
    ∙ read_first edition waivers (slice_range text start at) (lines_from [] (drop (at + 1) text))
    ∙ ap (λ read. option_and_then (λ more. lines_read edition more (lines_from [] (drop (at + 1) text))) read) is)

pub line_bad : (edition : Edition) (waivers : List Waiver) (text : List ℕ) (start at d : ℕ) → at < length text → slice_index_or text at d ≡ 10
    → line_read edition waivers (slice_range text start at) ≡ None → lines_read edition waivers (lines_from (slice_range text start at) (drop at text)) ≡ None
line_bad edition waivers text start at d within over is =
    ap (lines_read edition waivers) (line_over text start at d within over)
    ∙ read_first edition waivers (slice_range text start at) (lines_from [] (drop (at + 1) text))
    ∙ ap (λ read. option_and_then (λ more. lines_read edition more (lines_from [] (drop (at + 1) text))) read) is

-- The last line.
pub last_line : (edition : Edition) (waivers : List Waiver) (text : List ℕ) (start at : ℕ) → at ≡ length text
    → lines_read edition waivers (lines_from (slice_range text start at) (drop at text)) ≡ line_read edition waivers (slice_range text start (length text))
unfolding lines_from lines_read
last_line edition waivers text start at all =
    ap (λ rest. lines_read edition waivers (lines_from (slice_range text start at) rest)) (drop_all at text (omega (arith, all)))
    ∙ ap (λ n. option_and_then (λ more. lines_read edition more []) (line_read edition waivers (slice_range text start n))) all
    ∙ only (line_read edition waivers (slice_range text start (length text)))
  where
    only : (read : Option (List Waiver)) → option_and_then (λ more. Some more) read ≡ read
    only None = refl
    only (Some more) = refl

-- A refusal is that of the line, or of the memory.
pub refused : (more : List Waiver) (read line : Option (List Waiver)) (e : WaiverError) → (line ≡ None → read ≡ None)
    → IsReadAs {W = Unit {0}} (λ _. more) line (Err e)
    → IsReadAs {W = List Waiver} (λ w. w) read (Err e)
refused more read line Malformed bad is = bad is
refused more read line Memory bad is = tt
