-- What the two calls that read a font are owed, from what holds of their loops.
use Rattle.std.proofs.Common.{◌≡◌, ◌≤◌, ◌-◌, ℕ, suc, true, false, Result, Ok, Err, List, [], length, drop, refl, ap, sym, ◌∙◌, arith, ◌++◌, length-append}
use Rattle.std.proofs.Math.Seq.{drop-append_seam}
use Rattle.t1_font.specs.declared.mode.ClearMode.TheVariants as clear_modes
use Rattle.t1_font.specs.declared.mode.PrivateMode.TheVariants.{Outside}
use Rattle.t1_font.specs.declared.unread.Unread.{Unread}
use Rattle.t1_font.specs.declared.unread.Unread.TheVariants.{NoEexec, BadCharStrings, Memory}
use Rattle.t1_font.specs.Readings.{is_memory}
use Rattle.t1_seal.specs.Readings.{RefusesBy}
use Rattle.t1_font.specs.Fonts.{Stated, Marks, FontValue, value_of}
use Rattle.t1_font.specs.TextTurns.{TextRead, stated_in}
use Rattle.t1_font.specs.Runs.{FontRead, run_of, value_read}
use Rattle.t1_font.specs.ClearText.{begins_as_font, clear_turn, clear_of, clear_of_by}
use Rattle.t1_font.specs.PrivateText.{private_turn, private_of_by}
use Rattle.t1_font.specs.Texts.{clear_value_of, clear_read, font_value_of, font_read, value_alone}
use Rattle.t1_font.specs.Laws.Statements.{ReadAsStated}
use Rattle.t1_font.proofs.Running.{IsEndOf, run_ends, run_is_read}
use Rattle.t1_font.proofs.Shorter.{clear_shortens}
use Rattle.t1_font.proofs.Stating.{value_step}

pub read_as_stated : {M : Type 0} → ReadAsStated M
read_as_stated turn ended marks before mode s = run_is_read turn ended marks (value_step marks) (suc (length s)) before mode s

-- What follows the clear text is at the text's end.
pub clear_ends : (text rest : List ℕ) (old v : FontValue) → run_of clear_turn NoEexec old clear_modes.Outside text ≡ Ok (record { value = v; rest = rest })
    → IsEndOf text rest
clear_ends text rest old v given = rw given at (run_ends clear_turn NoEexec clear_shortens (suc (length text)) old clear_modes.Outside text)

pub is_no_longer : (s rest : List ℕ) → IsEndOf s rest → length rest ≤ length s
is_no_longer s rest h = let e : length s ≡ length (h.front ++ rest) = ap length h.whole in omega (arith, e, length-append h.front rest)

-- The length of what is left determines the place.
rest_by_place : (s rest : List ℕ) → IsEndOf s rest → rest ≡ drop (length s - length rest) s
rest_by_place s rest h =
    let e : length s ≡ length (h.front ++ rest) = ap length h.whole in
    let place : length s - length rest ≡ length h.front = omega (arith, e, length-append h.front rest) in
    rw (place, h.whole) (sym (drop-append_seam h.front rest))

ok_value : {X : Type 0} (a b : X) → ◌≡◌ {A = Result X Unread} (Ok a) (Ok b) → a ≡ b
ok_value {X} a b h = ap (λ (r : Result X Unread). elim r [ Ok x ↦ x | Err e ↦ a ]) h

clear_by_rest : (marks : Marks) (s : List ℕ) (read : Result TextRead Unread) (v : FontValue) (rest : List ℕ)
    → value_read marks read ≡ Ok (record { value = v; rest = rest }) → clear_value_of marks s read ≡ Ok (record { font = v; after = length s - length rest })
clear_by_rest marks s (Err e) v rest given = cc
clear_by_rest marks s (Ok read) v rest given = ap (λ (r : FontRead). Ok (record { font = r.value; after = length s - length r.rest })) (ok_value _ _ given)

-- What the fold over a text yields, by what is stated in it.
alone_read : (marks : Marks) (read : Result TextRead Unread) → value_alone (value_read marks read) ≡ font_value_of marks read
alone_read marks (Ok read) = refl
alone_read marks (Err e) = refl

clear_error : (marks : Marks) (s : List ℕ) (read : Result TextRead Unread) (e : Unread) → RefusesBy is_memory e (value_read marks read)
    → RefusesBy is_memory e (clear_value_of marks s read)
clear_error marks s (Ok read) Memory given = tt
clear_error marks s (Ok read) _ given = cc
clear_error marks s (Err x) Memory given = tt
clear_error marks s (Err x) _ given = cc

pub clear_is_read : (marks : Marks) (text s rest : List ℕ) (old v : FontValue) → text ≡ s → old ≡ value_of marks [] → begins_as_font text ≡ true
    → run_of clear_turn NoEexec old clear_modes.Outside text ≡ Ok (record { value = v; rest = rest })
    → clear_read marks s ≡ Ok (record { font = v; after = length text - length rest })
unfolding clear_of_by
clear_is_read marks text s rest old v same start begins given =
    let run = rw (start, read_as_stated clear_turn NoEexec marks [] clear_modes.Outside text) at given in
    rw (← same, begins) (clear_by_rest marks text (stated_in clear_turn NoEexec marks [] clear_modes.Outside text) v rest run)

-- What follows the word eexec follows the place that is returned.
clear_rest : (marks : Marks) (read : Result TextRead Unread) (v : FontValue) (rest : List ℕ) → value_read marks read ≡ Ok (record { value = v; rest = rest })
    → (found : TextRead) → read ≡ Ok found → found.rest ≡ rest
clear_rest marks read v rest given found is =
    let both : ◌≡◌ {A = FontRead} (record { value = value_of marks found.stated; rest = found.rest }) (record { value = v; rest = rest }) =
    ok_value _ _ (ap (value_read marks) (sym is) ∙ given) in
    ap (λ (r : FontRead). r.rest) both

pub clear_is_behind : (marks : Marks) (text s rest : List ℕ) (old v : FontValue) → text ≡ s → old ≡ value_of marks [] → begins_as_font text ≡ true
    → run_of clear_turn NoEexec old clear_modes.Outside text ≡ Ok (record { value = v; rest = rest }) → (found : TextRead) → clear_of marks s ≡ Ok found
    → found.rest ≡ drop (length text - length rest) s
unfolding clear_of_by
clear_is_behind marks text s rest old v same start begins given found is =
    let run = rw (start, read_as_stated clear_turn NoEexec marks [] clear_modes.Outside text) at given in
    let read : stated_in clear_turn NoEexec marks [] clear_modes.Outside text ≡ Ok found = rw (← same, begins) at is in
    clear_rest marks (stated_in clear_turn NoEexec marks [] clear_modes.Outside text) v rest run found read
    ∙ rest_by_place text rest (clear_ends text rest old v given)
    ∙ ap (drop (length text - length rest)) same

pub clear_is_refused : (marks : Marks) (text s : List ℕ) (old : FontValue) (e : Unread) → text ≡ s → old ≡ value_of marks [] → begins_as_font text ≡ true
    → RefusesBy is_memory e (run_of clear_turn NoEexec old clear_modes.Outside text) → RefusesBy is_memory e (clear_read marks s)
unfolding clear_of_by
clear_is_refused marks text s old e same start begins given =
    let run = rw (start, read_as_stated clear_turn NoEexec marks [] clear_modes.Outside text) at given in
    rw (← same, begins) (clear_error marks text (stated_in clear_turn NoEexec marks [] clear_modes.Outside text) e run)

pub clear_is_no_font : (marks : Marks) (text s : List ℕ) → text ≡ s → begins_as_font text ≡ false → clear_read marks s ≡ Err NoEexec
unfolding clear_of_by
clear_is_no_font marks text s same begins = rw (← same, begins) refl

font_run : (marks : Marks) (before : List Stated) (s : List ℕ) (old : FontValue) → old ≡ value_of marks before
    → value_alone (run_of private_turn BadCharStrings old Outside s) ≡ font_read marks before s
unfolding private_of_by
font_run marks before s old start =
    rw (start, read_as_stated private_turn BadCharStrings marks before Outside s)
    (alone_read marks (stated_in private_turn BadCharStrings marks before Outside s))

pub font_is_read : (marks : Marks) (before : List Stated) (s : List ℕ) (old v : FontValue) → old ≡ value_of marks before
    → value_alone (run_of private_turn BadCharStrings old Outside s) ≡ Ok v → font_read marks before s ≡ Ok v
font_is_read marks before s old v start given = sym (font_run marks before s old start) ∙ given

pub font_is_refused : (marks : Marks) (before : List Stated) (s : List ℕ) (old : FontValue) (e : Unread) → old ≡ value_of marks before
    → RefusesBy is_memory e (value_alone (run_of private_turn BadCharStrings old Outside s)) → RefusesBy is_memory e (font_read marks before s)
font_is_refused marks before s old e start given = rw (font_run marks before s old start) at given
