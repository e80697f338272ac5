-- What is left of a row: behind a token, and behind a turn.
use Rattle.std.proofs.Common.{◌≡◌, ◌<◌, ◌≤◌, ◌-◌, ℕ, length-append, zero, suc, Bool, true, false, Option, Some, None, Result, Ok, Err, IfOk, IfSome, List, [], ◌∷◌, ◌++◌, append-nil, if◌then◌else◌, is_some, length, nat_le, refl, ap, sym, ◌∙◌, arith}
use Rattle.std.proofs.lemmas.Bool.Decides.{nat_tests}
use Rattle.std.specs.Borrow.{Bor}
use Rattle.t1_scan.specs.Tokens.{Found}
use Rattle.t1_scan.specs.declared.token.Token.{Token}
use Rattle.t1_font.specs.Private.Turning.{IsAhead}
use Rattle.t1_font.specs.declared.mode.TextMode.{TextMode}
use Rattle.t1_font.specs.declared.mode.TextMode.TheVariants.{Clear, Private}
use Rattle.t1_font.specs.declared.row.Role.{Role}
use Rattle.t1_font.specs.declared.row.Role.TheVariants.{Other}
use Rattle.t1_font.specs.declared.unread.Unread.{Unread}
use Rattle.t1_font.specs.ClearText.{clear_turn}
use Rattle.t1_font.specs.Fonts.{FontValue, Stated}
use Rattle.t1_font.specs.PrivateText.{private_turn}
use Rattle.t1_font.specs.Readings.{◌>>=◌}
use Rattle.t1_font.specs.Rows.{RowToken, charstring_in, found_first, left_behind, nothing_stated, of_text, role_of, row_of, row_token, row_within, text_turn, token_before, tokens_left, tokens_until, tokens_within}
use Rattle.t1_font.specs.TextTurns.{TextTurn, over, goes}
use Rattle.t1_scan.specs.declared.error.ScanError.{ScanError}
use Rattle.t1_font.specs.declared.unread.Unread.TheVariants.{Unclosed}
use Rattle.t1_font.specs.Tokens.{token_ahead, token_at, wanted}
use Rattle.t1_font.specs.Views.{bytes_of}
use Rattle.t1_font.proofs.Running.{IsBehind, Leaves, Shortens, is_shorter}
use Rattle.t1_font.proofs.Shorter.{ahead_first, clear_shortens, private_shortens}

-- ---- tokens of a turn

token_shorter : (stop : ℕ) (s : List ℕ) (t : Found) → token_before stop s ≡ Some t → length t.rest < length s
unfolding token_before
token_shorter stop s t is = go (nat_le (length s) stop) is
  where
    go : (b : Bool) → (if b then None else token_ahead s) ≡ Some t → length t.rest < length s
    go true is = let no : None ≡ Some t = is in cc
    go false is = let behind : IsBehind s t.rest = rw is at (ahead_first s) in is_shorter s t.rest behind

more_left : (stop : ℕ) (s : List ℕ) (t : Found) → token_before stop s ≡ Some t → stop < length s
unfolding token_before
more_left stop s t is = go (nat_le (length s) stop) refl is
  where
    go : (b : Bool) → nat_le (length s) stop ≡ b → (if b then None else token_ahead s) ≡ Some t → stop < length s
    go true less is = let no : None ≡ Some t = is in cc
    go false less is = grind (arith, nat_tests, less)

module _ (ends : Bool) (stop : ℕ) where
  abbrev next_tokens : ℕ → Role → Option Found → List RowToken
  next_tokens n role found = elim found [ None ↦ [] | Some t ↦ row_token role ends stop t ∷ tokens_within n Other ends stop t.rest ]

  tokens_step : (n : ℕ) (role : Role) (s : List ℕ) → tokens_within (suc n) role ends stop s ≡ next_tokens n role (token_before stop s)
  unfolding tokens_within
  tokens_step n role s = refl

  -- A token takes a byte or more, so as many tokens as bytes are enough.
  enough_tokens : (n m : ℕ) (role : Role) (s : List ℕ) → length s < n → length s < m
      → tokens_within n role ends stop s ≡ tokens_within m role ends stop s
  enough_tokens zero m role s a b = absurd (omega arith)
  enough_tokens (suc n) zero role s a b = absurd (omega arith)
  enough_tokens (suc n) (suc m) role s a b =
      let same : (found : Option Found) → token_before stop s ≡ found → next_tokens n role found ≡ next_tokens m role found =
      λ found. elim found as (λ found. token_before stop s ≡ found → next_tokens n role found ≡ next_tokens m role found) [
        | None ↦ λ is. refl
        | Some t ↦ λ is. (let less = token_shorter stop s t is in
            ap (λ ts. row_token role ends stop t ∷ ts) (enough_tokens n m Other t.rest (omega (arith, less, a)) (omega (arith, less, b))))
      ] in
      tokens_step n role s ∙ same (token_before stop s) refl ∙ sym (tokens_step m role s)

  pub one_token : (role : Role) (s : List ℕ) (t : Found) → token_before stop s ≡ Some t
      → tokens_until role ends stop s ≡ row_token role ends stop t ∷ tokens_until Other ends stop t.rest
  one_token role s t is =
      let less = token_shorter stop s t is in
      tokens_step (length s) role s ∙ ap (next_tokens (length s) role) is
      ∙ ap (λ ts. row_token role ends stop t ∷ ts) (enough_tokens (length s) (suc (length t.rest)) Other t.rest less (omega arith))

  pub no_token : (role : Role) (s : List ℕ) → token_before stop s ≡ None → tokens_until role ends stop s ≡ []
  no_token role s is = tokens_step (length s) role s ∙ ap (next_tokens (length s) role) is

few_tokens : (ends : Bool) (stop : ℕ) (n : ℕ) (role : Role) (s : List ℕ) → length (tokens_within n role ends stop s) ≤ length s - stop
unfolding tokens_within
few_tokens ends stop zero role s = omega arith
few_tokens ends stop (suc n) role s =
    elim (token_before stop s) as (λ found. token_before stop s ≡ found → length (next_tokens ends stop n role found) ≤ length s - stop) [
      | None ↦ λ is. omega arith
      | Some t ↦ λ is. omega (arith, token_shorter stop s t is, more_left stop s t is, few_tokens ends stop n Other t.rest)
    ] refl

pub row_taken : (ends : Bool) (stop : ℕ) (role : Role) (s : List ℕ) (t : Found) (later : List RowToken) → token_before stop s ≡ Some t
    → tokens_until role ends stop s ++ later ≡ row_token role ends stop t ∷ (tokens_until Other ends stop t.rest ++ later)
row_taken ends stop role s t later is = ap (λ ts. ts ++ later) (one_token ends stop role s t is)

pub row_behind : (ends : Bool) (stop : ℕ) (role : Role) (s : List ℕ) (later : List RowToken) → token_before stop s ≡ None
    → tokens_until role ends stop s ++ later ≡ later
row_behind ends stop role s later is = ap (λ ts. ts ++ later) (no_token ends stop role s is)

pub turned : (ends : Bool) (stop : ℕ) (role : Role) (s : List ℕ) (first : Option (Token × Bor (List ℕ))) (later : List RowToken) → first ≡ None
    → token_before stop s ≡ None → tokens_left role ends stop s first ++ later ≡ later
turned ends stop role s first later none is = rw none (row_behind ends stop role s later is)

abbrev pub read_wanted : Unread → Result (Option Found) ScanError → Result Found Unread
read_wanted e read = elim read [ Err _ ↦ Err Unclosed | Ok found ↦ elim found [ None ↦ Err e | Some u ↦ Ok u ] ]

abbrev pub read_ahead : Result (Option Found) ScanError → Option Found
read_ahead read = elim read [ Err _ ↦ None | Ok found ↦ found ]

pub wanted_ahead : (e : Unread) (s : List ℕ) (t : Found) → wanted e s ≡ Ok t → token_ahead s ≡ Some t
unfolding wanted token_ahead
wanted_ahead e s t is = go (token_at s) is
  where
    go : (read : Result (Option Found) ScanError) → read_wanted e read ≡ Ok t → read_ahead read ≡ Some t
    go (Ok (Some u)) is = let same : u ≡ t = cc in ap Some same
    go (Ok None) is = cc
    go (Err x) is = cc

-- The first token, where it was read.
pub first_read : (ends : Bool) (stop : ℕ) (role : Role) (s : List ℕ) (first : Option (Token × Bor (List ℕ))) → IsAhead s first → stop < length s
    → tokens_left role ends stop s first ≡ tokens_until role ends stop s
unfolding token_before
first_read ends stop role s None ahead less = refl
first_read ends stop role s (Some p) ahead less =
    let more : nat_le (length s) stop ≡ false = grind (arith, nat_tests, less) in
    sym (one_token ends stop role s (found_first p) (rw more ahead))

-- ---- turns

text_leaves : (mode : TextMode) (s : List ℕ) → IfOk (text_turn nothing_stated mode s) (Leaves s)
unfolding text_turn
text_leaves (Clear mode) s = go (clear_turn nothing_stated mode s) (clear_shortens.less nothing_stated mode s)
  where
    go : (turn : Result (TextTurn _) Unread) → IfOk turn (Leaves s) → IfOk (turn >>= λ t. Ok (of_text Clear t)) (Leaves s)
    go (Ok (over rest)) less = less
    go (Ok (goes e next left)) less = less
    go (Err e) less = tt
text_leaves (Private mode) s = go (private_turn nothing_stated mode s) (private_shortens.less nothing_stated mode s)
  where
    go : (turn : Result (TextTurn _) Unread) → IfOk turn (Leaves s) → IfOk (turn >>= λ t. Ok (of_text Private t)) (Leaves s)
    go (Ok (over rest)) less = less
    go (Ok (goes e next left)) less = less
    go (Err e) less = tt

pub turn_shorter : (mode : TextMode) (s : List ℕ) (e : Option Stated) (next : TextMode) (left : List ℕ)
    → text_turn nothing_stated mode s ≡ Ok (goes e next left) → length left < length s
turn_shorter mode s e next left is = let behind : IsBehind s left = rw is at (text_leaves mode s) in is_shorter s left behind

abbrev turn_tokens : TextMode → List ℕ → Option Stated → TextMode → List ℕ → List RowToken
turn_tokens mode s e next left = tokens_until (role_of mode e next) (is_some (charstring_in e)) (left_behind (charstring_in e) (length left)) s

abbrev next_turns : ℕ → TextMode → List ℕ → Result (TextTurn TextMode) Unread → List RowToken
next_turns n mode s turn = elim turn [
  | Err _ ↦ []
  | Ok t ↦ elim t [
    | over rest ↦ tokens_until Other false (length rest) s
    | goes e next left ↦ turn_tokens mode s e next left ++ row_within n next left
  ]
]

turns_step : (n : ℕ) (mode : TextMode) (s : List ℕ) → row_within (suc n) mode s ≡ next_turns n mode s (text_turn nothing_stated mode s)
unfolding row_within
turns_step n mode s = refl

enough_turns : (n m : ℕ) (mode : TextMode) (s : List ℕ) → length s < n → length s < m → row_within n mode s ≡ row_within m mode s
enough_turns zero m mode s a b = absurd (omega arith)
enough_turns (suc n) zero mode s a b = absurd (omega arith)
enough_turns (suc n) (suc m) mode s a b =
    let same : (turn : Result (TextTurn TextMode) Unread) → text_turn nothing_stated mode s ≡ turn → next_turns n mode s turn ≡ next_turns m mode s turn =
    λ turn. elim turn as (λ turn. text_turn nothing_stated mode s ≡ turn → next_turns n mode s turn ≡ next_turns m mode s turn) [
      | Err e ↦ λ is. refl
      | Ok t ↦ elim t as (λ t. text_turn nothing_stated mode s ≡ Ok t → next_turns n mode s (Ok t) ≡ next_turns m mode s (Ok t)) [
        | over rest ↦ λ is. refl
        | goes e next left ↦ λ is. (let less = turn_shorter mode s e next left is in
            ap (λ ts. turn_tokens mode s e next left ++ ts) (enough_turns n m next left (omega (arith, less, a)) (omega (arith, less, b))))
      ]
    ] in
    turns_step n mode s ∙ same (text_turn nothing_stated mode s) refl ∙ sym (turns_step m mode s)

pub no_turn : (mode : TextMode) (s : List ℕ) (e : Unread) → text_turn nothing_stated mode s ≡ Err e → row_of mode s ≡ []
no_turn mode s e is = turns_step (length s) mode s ∙ ap (next_turns (length s) mode s) is

pub last_turn : (mode : TextMode) (s rest : List ℕ) → text_turn nothing_stated mode s ≡ Ok (over rest)
    → row_of mode s ≡ tokens_until Other false (length rest) s
last_turn mode s rest is = turns_step (length s) mode s ∙ ap (next_turns (length s) mode s) is

pub one_turn : (mode : TextMode) (s : List ℕ) (e : Option Stated) (next : TextMode) (left : List ℕ)
    → text_turn nothing_stated mode s ≡ Ok (goes e next left)
    → row_of mode s ≡ turn_tokens mode s e next left ++ row_of next left
one_turn mode s e next left is =
    let less = turn_shorter mode s e next left is in
    turns_step (length s) mode s ∙ ap (next_turns (length s) mode s) is
    ∙ ap (λ ts. turn_tokens mode s e next left ++ ts) (enough_turns (length s) (suc (length left)) next left less (omega arith))

pub turn_left : (mode : TextMode) (s : List ℕ) (e : Option Stated) (next : TextMode) (left : List ℕ) (charstring : Option (List ℕ))
    → text_turn nothing_stated mode s ≡ Ok (goes e next left) → charstring ≡ charstring_in e
    → tokens_until (role_of mode e next) (is_some charstring) (left_behind charstring (length left)) s ++ row_of next left ≡ row_of mode s
turn_left mode s e next left charstring is same = rw same (sym (one_turn mode s e next left is))

pub some_bytes : (bytes : Option (Bor (List ℕ))) → is_some bytes ≡ is_some (bytes_of bytes)
some_bytes None = refl
some_bytes (Some b) = refl

-- A row has at most as many tokens as its text has bytes.
is_behind : (charstring : Option (List ℕ)) (left : ℕ) → left ≤ left_behind charstring left
is_behind (Some bytes) left = omega arith
is_behind None left = omega arith

few_in_row : (n : ℕ) (mode : TextMode) (s : List ℕ) → length (row_within n mode s) ≤ length s
unfolding row_within
few_in_row zero mode s = omega arith
few_in_row (suc n) mode s =
    elim (text_turn nothing_stated mode s) as (λ turn. text_turn nothing_stated mode s ≡ turn → length (next_turns n mode s turn) ≤ length s) [
      | Err e ↦ λ is. omega arith
      | Ok t ↦ elim t as (λ t. text_turn nothing_stated mode s ≡ Ok t → length (next_turns n mode s (Ok t)) ≤ length s) [
        | over rest ↦ λ is. omega (arith, few_tokens false (length rest) (suc (length s)) Other s)
        | goes e next left ↦ λ is. (
            let tokens = few_tokens (is_some (charstring_in e)) (left_behind (charstring_in e) (length left)) (suc (length s)) (role_of mode e next) s in
            let both = length-append (turn_tokens mode s e next left) (row_within n next left) in
            omega (arith, tokens, both, is_behind (charstring_in e) (length left), few_in_row n next left, turn_shorter mode s e next left is))
      ]
    ] refl

pub few_in_text : (mode : TextMode) (s : List ℕ) → length (row_of mode s) ≤ length s
few_in_text mode s = few_in_row (suc (length s)) mode s
