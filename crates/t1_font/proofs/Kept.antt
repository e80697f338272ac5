-- What holds of the value of nothing, and goes on holding by each statement that fits, holds of the value of a whole
-- text.
use Rattle.std.proofs.Common.{◌≡◌, ℕ, zero, suc, Option, Some, None, Result, Ok, Err, IfOk, List, [], length, sym, subst}
use Rattle.t1_font.specs.declared.mode.ClearMode.{ClearMode}
use Rattle.t1_font.specs.declared.mode.ClearMode.TheVariants as clear_modes
use Rattle.t1_font.specs.declared.mode.PrivateMode.{PrivateMode}
use Rattle.t1_font.specs.declared.mode.PrivateMode.TheVariants.{Outside}
use Rattle.t1_font.specs.declared.unread.Unread.{Unread}
use Rattle.t1_font.specs.declared.unread.Unread.TheVariants.{BadCharStrings, NoEexec}
use Rattle.t1_font.specs.Readings.{◌>>=◌}
use Rattle.t1_font.specs.Fonts.{Stated, Marks, FontValue, value_of}
use Rattle.t1_font.specs.Puts.{put}
use Rattle.t1_font.specs.TextTurns.{TextTurn, over, goes, TextRead, Reader, with_one, stated_within}
use Rattle.t1_font.specs.ClearText.{clear_turn, begins_as_font, clear_of, clear_of_by}
use Rattle.t1_font.specs.PrivateText.{private_turn, private_of, private_of_by}
use Rattle.t1_font.specs.Texts.{font_value_of}
use Rattle.t1_font.proofs.Running.{follow}
use Rattle.t1_font.proofs.Stating.{value_step}
use Rattle.t1_font.proofs.Compose.{either}

-- What is stated fits, where something is.
abbrev pub FitsOne : (Stated → Type 0) → Option Stated → Type 0
FitsOne fits None = Unit {0}
FitsOne fits (Some e) = fits e

-- What a turn states fits.
abbrev pub StatesFitting : {M : Type 0} → (Stated → Type 0) → TextTurn M → Type 0
StatesFitting fits (over rest) = Unit {0}
StatesFitting fits (goes e mode left) = FitsOne fits e

-- It holds of the value of what was read.
abbrev pub HoldsOf : (FontValue → Type 0) → Marks → TextRead → Type 0
HoldsOf holds marks read = holds (value_of marks read.stated)

module _ (holds : FontValue → Type 0) (fits : FontValue → Stated → Type 0)
    (put_holds : (v : FontValue) (e : Stated) → holds v → fits v e → holds (put v e)) where
  module _ {M : Type 0} (turn : Reader M) (ended : Unread) (marks : Marks)
      (turn_fits : (v : FontValue) (mode : M) (s : List ℕ) → IfOk (turn v mode s) (StatesFitting (fits v))) where
    one_holds : (before : List Stated) (e : Option Stated) → holds (value_of marks before) → FitsOne (fits (value_of marks before)) e
        → holds (value_of marks (with_one before e))
    one_holds before None w h = w
    one_holds before (Some e) w h = subst holds (sym (value_step marks before e)) (put_holds (value_of marks before) e w h)

    text_holds : (n : ℕ) (before : List Stated) (mode : M) (s : List ℕ) → holds (value_of marks before)
        → IfOk (stated_within turn ended marks n before mode s) (HoldsOf holds marks)
    unfolding stated_within
    text_holds zero before mode s w = tt
    text_holds (suc n) before mode s w =
        elim (turn (value_of marks before) mode s) as (λ r. IfOk r (StatesFitting (fits (value_of marks before)))
        → IfOk (r >>= follow (stated_within turn ended marks n) before) (HoldsOf holds marks)) [
          | Err e ↦ λ _. tt
          | Ok t ↦ elim t as (λ t. StatesFitting (fits (value_of marks before)) t
              → IfOk (follow (stated_within turn ended marks n) before t) (HoldsOf holds marks)) [
                | over rest ↦ λ _. w
                | goes e next left ↦ λ h. text_holds n (with_one before e) next left (one_holds before e w h)
              ]
        ] (turn_fits (value_of marks before) mode s)

  module _ (clear_fits : (v : FontValue) (mode : ClearMode) (s : List ℕ) → IfOk (clear_turn v mode s) (StatesFitting (fits v)))
      (private_fits : (v : FontValue) (mode : PrivateMode) (s : List ℕ) → IfOk (private_turn v mode s) (StatesFitting (fits v)))
      (nothing_holds : (marks : Marks) → holds (value_of marks [])) where
    clear_holds : (marks : Marks) (s : List ℕ) → IfOk (clear_of marks s) (HoldsOf holds marks)
    unfolding clear_of_by
    clear_holds marks s = either (HoldsOf holds marks) (begins_as_font s)
        (stated_within clear_turn NoEexec marks (suc (length s)) [] clear_modes.Outside s) (Err NoEexec)
        (text_holds clear_turn NoEexec marks clear_fits (suc (length s)) [] clear_modes.Outside s (nothing_holds marks)) tt

    private_holds : (marks : Marks) (before : List Stated) (s : List ℕ) → holds (value_of marks before)
        → IfOk (private_of marks before s) (HoldsOf holds marks)
    unfolding private_of_by
    private_holds marks before s w = text_holds private_turn BadCharStrings marks private_fits (suc (length s)) before Outside s w

    value_holds : (marks : Marks) (read : Result TextRead Unread) → IfOk read (HoldsOf holds marks) → IfOk (font_value_of marks read) holds
    value_holds marks (Ok read) w = w
    value_holds marks (Err e) w = tt

    -- Of the two texts of a font, as they are read one after the other.
    pub read_holds : (marks : Marks) (text private_text : List ℕ) (clear read : TextRead) → clear_of marks text ≡ Ok clear
        → private_of marks clear.stated private_text ≡ Ok read → HoldsOf holds marks read
    read_holds marks text private_text clear read first second =
        let start : HoldsOf holds marks clear = rw first at (clear_holds marks text) in
        let after : HoldsOf holds marks read = rw second at (private_holds marks clear.stated private_text start) in
        after

    -- Of a font that was read.
    pub font_holds : (marks : Marks) (text private_text : List ℕ) (clear : TextRead) (v : FontValue) → clear_of marks text ≡ Ok clear
        → font_value_of marks (private_of marks clear.stated private_text) ≡ Ok v → holds v
    font_holds marks text private_text clear v first second =
        let start : HoldsOf holds marks clear = rw first at (clear_holds marks text) in
        let after : holds v = rw second at
        (value_holds marks (private_of marks clear.stated private_text) (private_holds marks clear.stated private_text start)) in
        after
