-- What is written is read: tokens, whole numbers, words, charstrings.
use Rattle.std.proofs.Common.{◌≡◌, ◌<◌, ◌≤◌, ◌+◌, ◌*◌, ℕ, suc, pos, true, false, Option, Some, None, Result, Ok, Err, List, [], ◌∷◌, ◌++◌, length, nat_lt, if◌then◌else◌, refl, ap, subst, ◌∙◌, inl, inr, arith, one-add, length-append}
use Rattle.std.proofs.Math.Nat.{mul-mod_left, mul-div_cancel}
use Rattle.std.proofs.Math.Seq.{drop-append_seam, take-append_seam}
use Rattle.std.proofs.lemmas.Bool.{cases_Bool}
use Rattle.std.proofs.lemmas.Bool.Decides.{nat_tests}
use Rattle.t1_scan.specs.declared.error.ScanError.{ScanError}
use Rattle.t1_scan.specs.declared.token.Kind.{Kind}
use Rattle.t1_scan.specs.declared.token.Kind.TheVariants.{Number}
use Rattle.t1_scan.specs.Tokens.{Found}
use Rattle.t1_scan.specs.Spelling.{Plain, word, spelled, meant}
use Rattle.t1_scan.specs.Texts.{BeginsWith, lexeme_of}
use Rattle.t1_scan.proofs.TextsRead.{reads_token}
use Rattle.t1_font.specs.declared.unread.Unread.{Unread}
use Rattle.t1_font.specs.declared.unread.Unread.TheVariants.{PastLimit}
use Rattle.t1_font.specs.declared.key.Key.{Key}
use Rattle.t1_font.specs.Keys.{same_name}
use Rattle.t1_font.specs.Tokens.{token_at, wanted, token_ahead, whole, whole_up_to, natural, is_word_kind, is_number_kind, past_word, raw_of, charstring_at}
use Rattle.t1_font.specs.Laws.Written.{Piece, token, raw, IsWritten, IsWhole, Charstring, charstring_pieces, IsCharstring}
use Rattle.t1_font.proofs.Steps.{found}
use Rattle.t1_font.proofs.Tables.{name_exact}
use Rattle.t1_scan.specs.Numbers.{billion}
use Rattle.t1_font.specs.Notes.{noted}
use Rattle.t1_font.specs.Fonts.{plain}

-- A token, and what follows it.
abbrev pub seen : Plain → List ℕ → Found
seen t left = record { kind = meant t; text = spelled t; rest = left }

pub wanted_is : (ended : Unread) (s : List ℕ) (t : Plain) (left : List ℕ) → BeginsWith s t left → wanted ended s ≡ Ok (seen t left)
wanted_is ended s t left h = found ended s (seen t left) (reads_token s t left h)

-- A noted key with the token behind it, and no key.
pub nothing_noted : (s : List ℕ) → noted None s ≡ None
unfolding noted
nothing_noted s = refl

pub ahead_is : (s : List ℕ) (t : Plain) (left : List ℕ) → BeginsWith s t left → token_ahead s ≡ Some (seen t left)
unfolding token_ahead token_at
ahead_is s t left h = ap (λ (r : Result (Option Found) ScanError). elim r [ Err _ ↦ None | Ok some ↦ some ]) (reads_token s t left h)

pub noted_is : (k : Key) (s : List ℕ) (value : Plain) (left : List ℕ) → BeginsWith s value left → noted (Some k) s ≡ Some (plain k (lexeme_of value))
unfolding noted
noted_is k s value left h = rw (ahead_is s value left h) refl

-- The last piece that is written ends where the rest begins.
pub last_token : (s : List ℕ) (t : Plain) (left : List ℕ) → IsWritten s (token t ∷ []) left → BeginsWith s t left
last_token s t left h = subst (BeginsWith s t) h.2 h.1

-- Pieces that are written, and then those after them.
pub record Parts (s : List ℕ) (pieces more : List Piece) (rest : List ℕ) : Type 0 where
  pub left : List ℕ
  pub front : IsWritten s pieces left
  pub back : IsWritten left more rest

pub parts : (s : List ℕ) (pieces more : List Piece) (rest : List ℕ) → IsWritten s (pieces ++ more) rest → Parts s pieces more rest
parts s [] more rest h = record { left = s; front = refl; back = h }
parts s (token t ∷ pieces) more rest h =
    let p = parts h.0 pieces more rest h.2 in record { left = p.left; front = (h.0, h.1, p.front); back = p.back }
parts s (raw b bytes ∷ pieces) more rest h =
    let p = parts h.0 pieces more rest h.2 in record { left = p.left; front = (h.0, h.1, p.front); back = p.back }

-- A whole number, and one within a limit.
pub whole_number : (n : ℕ) → whole (Number (pos (n * billion))) ≡ Some n
unfolding whole
whole_number n =
    let positive : 0 < billion = omega arith in
    rw (mul-mod_left n billion, mul-div_cancel n positive) refl

pub whole_is : (t : Plain) (n : ℕ) → IsWhole t n → whole (meant t) ≡ Some n
whole_is t n h = rw h (whole_number n)

pub whole_up_to_kind : (limit n : ℕ) (kind : Kind) → whole kind ≡ Some n → n ≤ limit → whole_up_to limit kind ≡ Some n
unfolding whole_up_to
whole_up_to_kind limit n kind h le =
    let within : nat_lt limit n ≡ false = grind (arith, nat_tests) in
    rw (h, within) refl

pub whole_up_to_is : (limit n : ℕ) (t : Plain) → IsWhole t n → n ≤ limit → whole_up_to limit (meant t) ≡ Some n
whole_up_to_is limit n t h le = whole_up_to_kind limit n (meant t) (whole_is t n h) le

pub natural_is : (bad : Unread) (limit n : ℕ) (t : Plain) → IsWhole t n → n ≤ limit → natural bad limit (meant t) ≡ Ok n
unfolding natural
natural_is bad limit n t h le =
    let within : nat_lt limit n ≡ false = grind (arith, nat_tests) in
    ap (λ (r : Option ℕ). elim r [ None ↦ Err bad | Some m ↦ if nat_lt limit m then Err PastLimit else Ok m ]) (whole_is t n h) ∙ rw within refl

pub whole_is_number : (t : Plain) (n : ℕ) → IsWhole t n → is_number_kind (meant t) ≡ true
whole_is_number t n h = rw h refl

pub whole_is_no_word : (t : Plain) (n : ℕ) → IsWhole t n → is_word_kind (meant t) ≡ false
whole_is_no_word t n h = rw h refl

-- A word that has to be here.
pub past_word_is : (bad : Unread) (bytes s left : List ℕ) → BeginsWith s (word bytes) left → past_word bad bytes s ≡ Ok left
unfolding past_word
past_word_is bad bytes s left h = rw (wanted_is bad s (word bytes) left h, name_exact.same bytes) refl

-- One byte and so many that follow it.
raw_is : (b : ℕ) (bytes left : List ℕ) → raw_of (length bytes) (b ∷ (bytes ++ left)) ≡ Some (bytes, left)
unfolding raw_of
raw_is b bytes left =
    let room : nat_lt (suc (length (bytes ++ left))) (1 + length bytes) ≡ false = grind (arith, nat_tests, length-append bytes left) in
    rw (room, one-add (length bytes)) (rw (take-append_seam bytes left, drop-append_seam bytes left) refl)

-- The bytes of a charstring.
pub charstring_is : (bad : Unread) (c : Charstring) (s left : List ℕ) → IsCharstring c → IsWritten s (charstring_pieces c) left
    → charstring_at bad s ≡ Ok (c.bytes, left)
unfolding charstring_at
charstring_is bad c s left is h =
    let word_of : is_word_kind (meant c.read_word) ≡ true = rw is.reads refl in
    let text : h.2.0 ≡ c.separator ∷ (c.bytes ++ left) = h.2.2.1 ∙ ap (λ rest. c.separator ∷ (c.bytes ++ rest)) h.2.2.2 in
    rw (
      wanted_is bad s c.count h.0 h.1,
      natural_is bad 65535 (length c.bytes) c.count is.counted is.short,
      wanted_is bad h.0 c.read_word h.2.0 h.2.1,
      word_of,
      text,
      raw_is c.separator c.bytes left,
    ) refl

-- A name is a plain key or no name of another meaning.
pub is_other : (key_of : List ℕ → Option Key) (text other : List ℕ) (k : Key) → key_of other ≡ None → key_of text ≡ Some k → same_name text other ≡ false
is_other key_of text other k none some =
    elim (cases_Bool (same_name text other)) [
      | inl y ↦ (let same = name_exact.exact text other y in let both : key_of other ≡ Some k = rw same at some in cc)
      | inr n ↦ n
    ]
