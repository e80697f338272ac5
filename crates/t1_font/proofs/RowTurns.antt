-- What was stated before a turn refuses it, or changes nothing of it.
use Rattle.std.proofs.Common.{◌≡◌, ℕ, Bool, true, false, ◌&&◌, not, if◌then◌else◌, length, nat_le, is_some, Option, Some, None, Result, Ok, Err, List, codes, refl}
use Rattle.t1_scan.specs.declared.token.Kind.{Kind}
use Rattle.t1_scan.specs.Tokens.{Found}
use Rattle.t1_font.specs.declared.mode.ClearMode.{ClearMode}
use Rattle.t1_font.specs.declared.mode.PrivateMode.{PrivateMode}
use Rattle.t1_font.specs.declared.mode.PrivateMode.TheVariants.{Outside, Subrs, Glyphs}
use Rattle.t1_font.specs.declared.unread.Unread.{Unread}
use Rattle.t1_font.specs.declared.unread.Unread.TheVariants.{BadCharStrings, PastLimit, SecondSubrs}
use Rattle.t1_font.specs.Bounds.{most_glyphs}
use Rattle.t1_font.specs.ClearText.{clear_turn, clear_turn_by}
use Rattle.t1_font.specs.Fonts.{FontValue, value_of}
use Rattle.t1_font.specs.Keys.{same_name}
use Rattle.t1_font.specs.Laws.Rows.{RowsGoAsTheReader}
use Rattle.t1_font.specs.PrivateText.{glyph_turn, glyphs_at, glyphs_token, has_key, private_outside, private_outside_by, private_turn, private_turn_by, subrs_at, subrs_token, subrs_token_by, subrs_turn}
use Rattle.t1_font.specs.Readings.{◌>>=◌}
use Rattle.t1_font.specs.Rows.{nothing_stated}
use Rattle.t1_font.specs.TextTurns.{TextTurn}
use Rattle.t1_font.specs.Tokens.{is_name_kind, is_word_kind, name_of, spells, wanted}

-- What follows no refusal stays.
abbrev Stays : {A : Type 0} → Result A Unread → Result A Unread → Type 0
Stays {A} one other = (x : A) → one ≡ Ok x → other ≡ Ok x

unless_refused : {A : Type 0} (test : Bool) (e : Unread) (r : Result A Unread) → Stays (if test then Err e else r) r
unless_refused true e r x is = cc
unless_refused false e r x is = is

in_both : {A : Type 0} (test : Bool) (one other first second : Result A Unread) → Stays one first → Stays other second
    → Stays (if test then one else other) (if test then first else second)
in_both true one other first second stays follows = stays
in_both false one other first second stays follows = follows

same : {A : Type 0} (r : Result A Unread) → Stays r r
same r x is = is

bound : {A B : Type 0} (r : Result A Unread) (f g : A → Result B Unread) → ((x : A) → Stays (f x) (g x)) → Stays (r >>= f) (r >>= g)
bound (Ok x) f g stays = stays x
bound (Err e) f g stays = same (Err e)

module _ (v : FontValue) where
  subrs_stay : (rest : List ℕ) → Stays (subrs_turn v rest) (subrs_turn nothing_stated rest)
  unfolding subrs_turn value_of
  subrs_stay rest = unless_refused (is_some v.size) SecondSubrs (subrs_at rest)

  outside_stays : (kind : Kind) (text rest : List ℕ) → Stays (private_outside v kind text rest) (private_outside nothing_stated kind text rest)
  unfolding private_outside_by
  outside_stays kind text rest =
      in_both (not (is_name_kind kind)) _ _ _ _ (same _)
      (in_both (same_name text (codes "/Subrs")) _ _ _ _ (subrs_stay rest)
      (in_both (same_name text (codes "/CharStrings")) _ _ _ _ (same _) (same _)))

  among_subrs_stays : (kind : Kind) (text rest : List ℕ) → Stays (subrs_token v kind text rest) (subrs_token nothing_stated kind text rest)
  unfolding subrs_token_by
  among_subrs_stays kind text rest =
      in_both (spells (codes "dup") kind text) _ _ _ _ (same _)
      (in_both (is_word_kind kind) _ _ _ _ (same _) (outside_stays kind text rest))

  glyph_stays : (name rest : List ℕ) → Stays (glyph_turn v name rest) (glyph_turn nothing_stated name rest)
  unfolding glyph_turn value_of
  glyph_stays name rest =
      unless_refused (nat_le most_glyphs (length v.glyphs) && not (has_key same_name v.glyphs name)) PastLimit _

  among_glyphs_stays : (kind : Kind) (text rest : List ℕ) → Stays (glyphs_token v kind text rest) (glyphs_token nothing_stated kind text rest)
  unfolding glyphs_token
  among_glyphs_stays kind text rest =
      in_both (spells (codes "end") kind text) _ _ _ _ (same _)
      (in_both (is_word_kind kind) _ _ _ _ (same _)
      (in_both (is_name_kind kind) _ _ _ _ (glyph_stays (name_of text) rest) (same _)))

  turn_stays : (mode : PrivateMode) (s : List ℕ) → Stays (private_turn v mode s) (private_turn nothing_stated mode s)
  unfolding private_turn_by
  turn_stays Outside s = bound (wanted BadCharStrings s) _ _ (λ t. outside_stays t.kind t.text t.rest)
  turn_stays Subrs s = bound (wanted BadCharStrings s) _ _ (λ t. among_subrs_stays t.kind t.text t.rest)
  turn_stays Glyphs s = bound (wanted BadCharStrings s) _ _ (λ t. among_glyphs_stays t.kind t.text t.rest)

pub rows_go_as_the_reader : RowsGoAsTheReader
unfolding clear_turn_by
rows_go_as_the_reader = (λ font mode s turn is. is, λ font mode s turn is. turn_stays font mode s turn is)
