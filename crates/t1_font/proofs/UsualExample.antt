-- The small font's texts are in the usual form.
use Rattle.std.proofs.Common.{◌≡◌, ◌≤◌, ◌&&◌, ℕ, Bool, true, false, nat_le, List, [], ◌∷◌, ◌++◌, codes, refl, arith, All, inr, flat_map}
use Rattle.std.proofs.lemmas.Bool.{and_parts, false≢true}
use Rattle.std.proofs.lemmas.Bool.Decides.{nat_tests}
use Rattle.std.proofs.lemmas.List.Elements.{All-from_recursion}
use Rattle.t1_scan.specs.Numbers.{scaled, value_of, magnitude_of, decimal_of, radix_of}
use Rattle.t1_scan.specs.Spelling.{word, spelled, meant, depth_of, is_plain}
use Rattle.t1_scan.specs.Texts.{BeginsWith, can_end, is_gap}
use Rattle.t1_font.specs.Keys.{clear_key, clear_note, private_key, private_note}
use Rattle.t1_font.specs.Laws.Written.{Piece, token, raw, IsWritten}
use Rattle.t1_font.specs.Laws.UsualClearText as clear
use Rattle.t1_font.specs.Laws.UsualPrivateText as private
use Rattle.t1_font.specs.Laws.Example.{digits, clear_text, clear_items, private_text, subr_items, private_parts, SmallFontIsUsual}

-- The text that pieces make, each token after its gap.
abbrev pub text_with : List (List ℕ) → List Piece → List ℕ → List ℕ
text_with gaps [] rest = rest
text_with gaps (raw b bytes ∷ pieces) rest = b ∷ (bytes ++ text_with gaps pieces rest)
text_with (gap ∷ gaps) (token t ∷ pieces) rest = gap ++ (spelled t ++ text_with gaps pieces rest)
text_with [] (token t ∷ pieces) rest = []

-- Each gap is one, and each token can be read and ends.
abbrev pub are_apart : List (List ℕ) → List Piece → List ℕ → Bool
are_apart gaps [] rest = true
are_apart gaps (raw b bytes ∷ pieces) rest = are_apart gaps pieces rest
are_apart (gap ∷ gaps) (token t ∷ pieces) rest =
    is_gap false gap && (is_plain t && (nat_le (depth_of t) 32 && (can_end t (text_with gaps pieces rest) && are_apart gaps pieces rest)))
are_apart [] (token t ∷ pieces) rest = false

is_small : (n : ℕ) → nat_le n 32 ≡ true → n ≤ 32
is_small n h = grind (arith, nat_tests, h)

pub is_written : (gaps : List (List ℕ)) (pieces : List Piece) (rest : List ℕ) → are_apart gaps pieces rest ≡ true
    → IsWritten (text_with gaps pieces rest) pieces rest
is_written gaps [] rest h = refl
is_written gaps (raw b bytes ∷ pieces) rest h = (text_with gaps pieces rest, refl, is_written gaps pieces rest h)
is_written [] (token t ∷ pieces) rest h = absurd (false≢true h)
is_written (gap ∷ gaps) (token t ∷ pieces) rest h =
    let left = text_with gaps pieces rest in
    let more = are_apart gaps pieces rest in
    let a = and_parts (is_gap false gap) (is_plain t && (nat_le (depth_of t) 32 && (can_end t left && more))) h in
    let b = and_parts (is_plain t) (nat_le (depth_of t) 32 && (can_end t left && more)) a.1 in
    let c = and_parts (nat_le (depth_of t) 32) (can_end t left && more) b.1 in
    let d = and_parts (can_end t left) more c.1 in
    let begins : BeginsWith (gap ++ (spelled t ++ left)) t left =
    record { gap = gap; blanks = a.0; readable = record { plain = b.0; shallow = is_small (depth_of t) c.0 }; ends = d.0; whole = refl } in
    (left, begins, is_written gaps pieces rest d.1)

-- The blanks and comments before each token.
abbrev space : List ℕ
space = codes " "

abbrev line : List ℕ
line = codes "\n"

abbrev clear_gaps : List (List ℕ)
clear_gaps =
    codes "%!FontType1-1.0: Small\n" ∷ space ∷ space ∷ line ∷ space ∷ space ∷ codes " %plain\n" ∷ space ∷ space ∷ line
    ∷ space ∷ space ∷ space ∷ space ∷ line ∷ space ∷ [] ∷ space ∷ line ∷ space
    ∷ line ∷ space ∷ []

clear_written : IsWritten clear_text (flat_map clear.clear_pieces clear_items ++ token (word (codes "eexec")) ∷ []) []
unfolding magnitude_of value_of decimal_of radix_of scaled
clear_written = is_written clear_gaps (flat_map clear.clear_pieces clear_items ++ token (word (codes "eexec")) ∷ []) [] refl

abbrev private_gaps : List (List ℕ)
private_gaps =
    [] ∷ space ∷ space ∷ space ∷ space ∷ space ∷ line ∷ space ∷ space ∷ space
    ∷ line ∷ space ∷ [] ∷ line ∷ space ∷ space ∷ line ∷ space ∷ space ∷ line
    ∷ space ∷ space ∷ space ∷ space ∷ line ∷ line ∷ space ∷ space ∷ space ∷ space
    ∷ space ∷ space ∷ line ∷ space ∷ space ∷ space ∷ line ∷ []

private_written : IsWritten private_text (private.all_private_pieces private_parts) []
unfolding magnitude_of value_of decimal_of radix_of scaled
private_written = is_written private_gaps (private.all_private_pieces private_parts) [] refl

-- The conditions on the items.
clear_usual : All clear.IsClearItem clear_items
unfolding clear_key clear_note scaled magnitude_of value_of decimal_of radix_of
clear_usual =
    let code : 65 ≤ 255 = omega arith in
    All-from_recursion clear.IsClearItem clear_items (assumption code)

private_usual : private.IsUsualParts private_parts
unfolding private_key private_note scaled magnitude_of value_of decimal_of radix_of
private_usual =
    let number : 0 ≤ 65534 = omega arith in
    let one : 1 ≤ 65535 = omega arith in
    let five : 5 ≤ 65535 = omega arith in
    let six : 6 ≤ 65535 = omega arith in
    let four : private.IsLenIv (meant (digits (codes "4"))) = inr (4, omega arith, refl) in
    record {
      front = All-from_recursion private.IsPrivateItem private_parts.front (assumption four);
      subrs = (refl, one, All-from_recursion private.IsSubrItem subr_items (assumption (number, five)));
      back = All-from_recursion private.IsPrivateItem private_parts.back assumption;
      no_dup = All-from_recursion private.IsNoDup private_parts.back assumption;
      count = record { value = 1; whole = refl; small = one };
      glyphs = All-from_recursion private.IsGlyphItem private_parts.glyphs (assumption six);
      few = one;
    }

pub small_font_is_usual : SmallFontIsUsual
small_font_is_usual = (record { begins = refl; usual = clear_usual; written = clear_written }, record { parts = private_usual; written = private_written })
