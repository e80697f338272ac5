-- What is in a custom encoding is read as what it states.
use Rattle.std.proofs.Common.{◌≡◌, ◌≤◌, ℕ, true, false, Option, Some, None, Result, Ok, List, [], ◌∷◌, ◌++◌, flat_map, refl, ap, sym, ◌∙◌, append_assoc, append-nil, codes, inl, inr}
use Rattle.std.proofs.lemmas.Bool.{cases_Bool}
use Rattle.t1_scan.specs.Spelling.{Plain, name, word, spelled, meant}
use Rattle.t1_scan.specs.Texts.{BeginsWith}
use Rattle.t1_font.specs.declared.mode.ClearMode.{ClearMode}
use Rattle.t1_font.specs.declared.mode.ClearMode.TheVariants.{Outside, Codes}
use Rattle.t1_font.specs.declared.unread.Unread.{Unread}
use Rattle.t1_font.specs.declared.unread.Unread.TheVariants.{NoEexec}
use Rattle.t1_font.specs.Tokens.{is_name_kind, is_number_kind}
use Rattle.t1_font.specs.Fonts.{Stated, Marks, FontValue, value_of, code, bad_code}
use Rattle.t1_font.specs.TextTurns.{TextTurn, TextRead, goes, with_one, stated_in}
use Rattle.t1_font.specs.ClearText.{clear_turn, code_statement, code_at, code_turn, code_token, clear_turn_by}
use Rattle.t1_font.specs.Laws.Written.{Piece, token, IsWritten, IsWhole, is_word_of}
use Rattle.t1_font.specs.Laws.UsualClearText.{CodeItem, group, between_groups, lone_dup, code_pieces, code_states, PassesInCodes, ends_group, AreCodeItems}
use Rattle.t1_font.proofs.Shorter.{clear_shortens}
use Rattle.t1_font.proofs.Steps.{goes_on}
use Rattle.t1_font.proofs.WrittenRead.{wanted_is, ahead_is, last_token, whole_up_to_is, whole_is_number}

-- A token in a custom encoding.
inside : (v : FontValue) (s : List ℕ) (t : Plain) (left : List ℕ) → BeginsWith s t left → clear_turn v Codes s ≡ Ok (code_token (meant t) (spelled t) left)
unfolding clear_turn_by
inside v s t left h = rw (wanted_is NoEexec s t left h) refl

dup_turn : (v : FontValue) (s left : List ℕ) → BeginsWith s (word (codes "dup")) left → clear_turn v Codes s ≡ Ok (code_turn left)
unfolding code_token
dup_turn v s left h = inside v s (word (codes "dup")) left h

passes : (v : FontValue) (s : List ℕ) (t : Plain) (left : List ℕ) → PassesInCodes t → BeginsWith s t left → clear_turn v Codes s ≡ Ok (goes None Codes left)
unfolding code_token
passes v s t left p h = inside v s t left h ∙ rw (p.not_eexec, p.not_def, p.not_dup) refl

def_turn : (v : FontValue) (s left : List ℕ) → BeginsWith s (word (codes "def")) left → clear_turn v Codes s ≡ Ok (goes None Outside left)
unfolding code_token
def_turn v s left h = inside v s (word (codes "def")) left h

-- What was found after a dup, or the dup alone.
abbrev found_or : List ℕ → Option (TextTurn ClearMode) → TextTurn ClearMode
found_or s r = elim r [ Some t ↦ t | None ↦ goes None Codes s ]

-- A group after its dup.
code_statement_is : (n : ℕ) (number : Plain) (run : List ℕ) → IsWhole number n → n ≤ 255 → code_statement (meant number) (47 ∷ run) ≡ code n run
unfolding code_statement
code_statement_is n number run h le = ap (λ (r : Option ℕ). elim r [ Some m ↦ code m run | None ↦ bad_code ]) (whole_up_to_is 255 n number h le)

group_at : (n : ℕ) (number : Plain) (run s mid last left : List ℕ) → IsWhole number n → n ≤ 255 → BeginsWith s number mid → BeginsWith mid (name run) last
    → BeginsWith last (word (codes "put")) left → code_at s ≡ Some (goes (Some (code n run)) Codes left)
unfolding code_at
group_at n number run s mid last left is small h k l =
    rw (
      ahead_is s number mid h,
      whole_is_number number n is,
      ahead_is mid (name run) last k,
      ahead_is last (word (codes "put")) left l,
      code_statement_is n number run is small,
    ) refl

group_is : (n : ℕ) (number : Plain) (run s mid last left : List ℕ) → IsWhole number n → n ≤ 255 → BeginsWith s number mid → BeginsWith mid (name run) last
    → BeginsWith last (word (codes "put")) left → code_turn s ≡ goes (Some (code n run)) Codes left
unfolding code_turn
group_is n number run s mid last left is small h k l = ap (found_or s) (group_at n number run s mid last left is small h k l)

-- A dup that begins no group: no number follows it, or then no name, or then not put.
no_number : (s : List ℕ) (t : Plain) (left : List ℕ) → BeginsWith s t left → is_number_kind (meant t) ≡ false → code_at s ≡ None
unfolding code_at
no_number s t left h other = rw (ahead_is s t left h, other) refl

no_name : (s : List ℕ) (a : Plain) (mid : List ℕ) (b : Plain) (left : List ℕ) → BeginsWith s a mid → BeginsWith mid b left → is_number_kind (meant a) ≡ true
    → is_name_kind (meant b) ≡ false → code_at s ≡ None
unfolding code_at
no_name s a mid b left h k number other = rw (ahead_is s a mid h, number, ahead_is mid b left k, other) refl

no_put : (s : List ℕ) (a : Plain) (mid : List ℕ) (b : Plain) (last : List ℕ) (c : Plain) (left : List ℕ) → BeginsWith s a mid → BeginsWith mid b last
    → BeginsWith last c left → is_number_kind (meant a) ≡ true → is_name_kind (meant b) ≡ true → is_word_of (codes "put") c ≡ false → code_at s ≡ None
unfolding code_at
no_put s a mid b last c left h k l number a_name other = rw (ahead_is s a mid h, number, ahead_is mid b last k, a_name, ahead_is last c left l, other) refl

-- The pieces of a custom encoding, to its def.
abbrev pub to_def : List CodeItem → List Piece
to_def items = flat_map code_pieces items ++ token (word (codes "def")) ∷ []

-- The token with which they begin.
lead : List CodeItem → Plain
lead [] = word (codes "def")
lead (group n number run ∷ items) = word (codes "dup")
lead (between_groups t ∷ items) = t
lead (lone_dup ∷ items) = word (codes "dup")

leads : (items : List CodeItem) (s left : List ℕ) → IsWritten s (to_def items) left → (mid : List ℕ) × BeginsWith s (lead items) mid
unfolding lead
leads [] s left h = (h.0, h.1)
leads (group n number run ∷ items) s left h = (h.0, h.1)
leads (between_groups t ∷ items) s left h = (h.0, h.1)
leads (lone_dup ∷ items) s left h = (h.0, h.1)

-- What follows a number and a name is not put, and what follows a number is no name.
not_put : (a b : Plain) (items : List CodeItem) → is_number_kind (meant a) ≡ true → is_name_kind (meant b) ≡ true
    → ends_group (between_groups a ∷ between_groups b ∷ items) ≡ false → is_word_of (codes "put") (lead items) ≡ false
unfolding lead
not_put a b [] number a_name none = refl
not_put a b (group n x run ∷ items) number a_name none = refl
not_put a b (between_groups c ∷ items) number a_name none = rw (number, a_name) at none
not_put a b (lone_dup ∷ items) number a_name none = refl

behind_number : (items : List CodeItem) (s : List ℕ) (a : Plain) (mid left : List ℕ) → BeginsWith s a mid → is_number_kind (meant a) ≡ true
    → ends_group (between_groups a ∷ items) ≡ false → IsWritten mid (to_def items) left → code_at s ≡ None
behind_number [] s a mid left h number none w = no_name s a mid (word (codes "def")) w.0 h w.1 number refl
behind_number (group n x run ∷ items) s a mid left h number none w = no_name s a mid (word (codes "dup")) w.0 h w.1 number refl
behind_number (lone_dup ∷ items) s a mid left h number none w = no_name s a mid (word (codes "dup")) w.0 h w.1 number refl
behind_number (between_groups b ∷ items) s a mid left h number none w =
    elim (cases_Bool (is_name_kind (meant b))) [
      | inl y ↦ (let last = leads items w.0 left w.2 in no_put s a mid b w.0 (lead items) last.0 h w.1 last.1 number y (not_put a b items number y none))
      | inr n ↦ no_name s a mid b w.0 h w.1 number n
    ]

lone_at : (items : List CodeItem) (s left : List ℕ) → ends_group items ≡ false → IsWritten s (to_def items) left → code_at s ≡ None
lone_at [] s left none w = no_number s (word (codes "def")) w.0 w.1 refl
lone_at (group n x run ∷ items) s left none w = no_number s (word (codes "dup")) w.0 w.1 refl
lone_at (lone_dup ∷ items) s left none w = no_number s (word (codes "dup")) w.0 w.1 refl
lone_at (between_groups a ∷ items) s left none w =
    elim (cases_Bool (is_number_kind (meant a))) [
      | inl y ↦ behind_number items s a w.0 left w.1 y none w.2
      | inr n ↦ no_number s a w.0 w.1 n
    ]

lone_is : (items : List CodeItem) (s left : List ℕ) → ends_group items ≡ false → IsWritten s (to_def items) left → code_turn s ≡ goes None Codes s
unfolding code_turn
lone_is items s left none w = ap (found_or s) (lone_at items s left none w)

module _ (marks : Marks) where
  abbrev read : List Stated → ClearMode → List ℕ → Result TextRead Unread
  read before mode s = stated_in clear_turn NoEexec marks before mode s

  on : (before : List Stated) (s : List ℕ) (e : Option Stated) (next : ClearMode) (left : List ℕ) → clear_turn (value_of marks before) Codes s
      ≡ Ok (goes e next left) → read before Codes s ≡ read (with_one before e) next left
  on before s e next left h = goes_on clear_turn NoEexec clear_shortens marks before Codes s e next left h

  -- A custom encoding is read after its array, to its def.
  pub codes_read : (items : List CodeItem) (before : List Stated) (s left : List ℕ) → AreCodeItems items → IsWritten s (to_def items) left
      → read before Codes s ≡ read (before ++ flat_map code_states items) Outside left
  codes_read [] before s left are h =
      on before s None Outside left (def_turn (value_of marks before) s left (last_token s (word (codes "def")) left h))
      ∙ ap (λ es. read es Outside left) (sym (append-nil before))
  codes_read (group n number run ∷ items) before s left are h =
      on before s (Some (code n run)) Codes h.2.2.2.0
      (dup_turn (value_of marks before) s h.0 h.1 ∙ ap Ok (group_is n number run h.0 h.2.0 h.2.2.0 h.2.2.2.0 are.0 are.1 h.2.1 h.2.2.1 h.2.2.2.1))
      ∙ codes_read items (before ++ code n run ∷ []) h.2.2.2.0 left are.2 h.2.2.2.2
      ∙ ap (λ es. read es Outside left) (append_assoc before (code n run ∷ []) (flat_map code_states items))
  codes_read (between_groups t ∷ items) before s left are h =
      on before s None Codes h.0 (passes (value_of marks before) s t h.0 are.0 h.1)
      ∙ codes_read items before h.0 left are.1 h.2
  codes_read (lone_dup ∷ items) before s left are h =
      on before s None Codes h.0 (dup_turn (value_of marks before) s h.0 h.1 ∙ ap Ok (lone_is items h.0 left are.0 h.2))
      ∙ codes_read items before h.0 left are.1 h.2
