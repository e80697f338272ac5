-- What globs match.
use Rattle.std.proofs.Common.{◌≡◌, ℕ, ◌&&◌, ◌||◌, Bool, true, false, not, eqb, List, [], ◌∷◌, codes, refl, sym, ap, subst, ◌∙◌}
use Rattle.std.proofs.lemmas.Bool.{cond-false, or_parts}
use Rattle.std.specs.List.{list_any}
use Rattle.std.specs.Str.{bytes_eq}
use Rattle.t1_names.specs.Globs.{AreRead, Front, Glob, Piece, front, is_slash, last_part, matches, set_front, star_front}
use Rattle.t1_names.specs.Globs.AreRead.{next, nothing}
use Rattle.t1_names.specs.Globs.Piece.{any_char, double_star, itself, star}
use Rattle.t1_names.specs.Laws.{DoubleStarMatchesAll, OneReading, PlainIsItself, StarStopsAtSlashes, is_sign}

same_pieces : (text : List ℕ) (one other : List Piece) → AreRead text one → AreRead text other → one ≡ other
same_pieces [] _ _ nothing nothing = refl
same_pieces (c ∷ rest) _ _ (next _ _ pieces read) (next _ _ pieces' read') =
    ap (λ l. (front c rest).piece ∷ l) (same_pieces (front c rest).rest pieces pieces' read read')

glob_with : List Piece → Bool → Glob
glob_with pieces slash = record { pieces = pieces; has_slash = slash }

pub one_reading : OneReading
unfolding glob_with
one_reading text one other read read' =
    let pieces : one.pieces ≡ other.pieces = same_pieces text one.pieces other.pieces read.pieces read'.pieces in
    let slash : one.has_slash ≡ other.has_slash = read.has_slash ∙ sym read'.has_slash in
    ap (λ ps. glob_with ps one.has_slash) pieces ∙ ap (glob_with other.pieces) slash

read_end : (pieces : List Piece) → AreRead [] pieces → pieces ≡ []
read_end _ nothing = refl

double_star_read : (pieces : List Piece) → AreRead (codes "**") pieces → pieces ≡ double_star ∷ []
double_star_read _ (next _ _ pieces read) = ap (λ l. double_star ∷ l) (read_end pieces read)

star_read : (pieces : List Piece) → AreRead (codes "*") pieces → pieces ≡ star ∷ []
star_read _ (next _ _ pieces read) = ap (λ l. star ∷ l) (read_end pieces read)

not_or : (a b : Bool) → not (a || b) ≡ (not a && not b)
not_or true b = refl
not_or false b = refl

all_match : (name : List ℕ) → matches (double_star ∷ []) name ≡ true
all_match [] = refl
all_match (c ∷ cs) = all_match cs

pub double_star_matches : DoubleStarMatchesAll
double_star_matches glob name read =
    ap (λ b. b || (not glob.has_slash && matches glob.pieces (last_part name))) (ap (λ ps. matches ps name) (double_star_read glob.pieces read.pieces) ∙ all_match name)

no_slash_matches : (name : List ℕ) → matches (star ∷ []) name ≡ not (list_any is_slash name)
no_slash_matches [] = refl
no_slash_matches (c ∷ cs) =
    ap (λ b. not (is_slash c) && b) (no_slash_matches cs) ∙ sym (not_or (is_slash c) (list_any is_slash cs))

pub star_stops : StarStopsAtSlashes
star_stops glob name read = ap (λ ps. matches ps name) (star_read glob.pieces read.pieces) ∙ no_slash_matches name

plain_front : (c : ℕ) (rest : List ℕ) → is_sign c ≡ false → front c rest ≡ record { piece = itself c; rest = rest }
plain_front c rest plain =
    let signs : (eqb c 42 ≡ false) × ((eqb c 63 || eqb c 91) ≡ false) = or_parts (eqb c 42) (eqb c 63 || eqb c 91) plain in
    let others : (eqb c 63 ≡ false) × (eqb c 91 ≡ false) = or_parts (eqb c 63) (eqb c 91) signs.1 in
    cond-false (eqb c 42) (star_front rest) _ signs.0 ∙ cond-false (eqb c 63) (record { piece = any_char; rest = rest }) _ others.0
    ∙ cond-false (eqb c 91) (set_front rest) (record { piece = itself c; rest = rest }) others.1

itself_matches : (c : ℕ) (rest : List ℕ) (pieces : List Piece) (name : List ℕ) → ((name : List ℕ) → matches pieces name ≡ bytes_eq name rest)
    → matches (itself c ∷ pieces) name ≡ bytes_eq name (c ∷ rest)
itself_matches c rest pieces [] same = refl
itself_matches c rest pieces (n ∷ name) same = ap (λ b. eqb n c && b) (same name)

plain_matches : (text : List ℕ) (pieces : List Piece) (name : List ℕ) → list_any is_sign text ≡ false → AreRead text pieces → matches pieces name ≡ bytes_eq name text
plain_matches [] _ [] plain nothing = refl
plain_matches [] _ (n ∷ name) plain nothing = refl
plain_matches (c ∷ rest) _ name plain (next _ _ pieces read) =
    let plain_rest : (is_sign c ≡ false) × (list_any is_sign rest ≡ false) = or_parts (is_sign c) (list_any is_sign rest) plain in
    let first : front c rest ≡ record { piece = itself c; rest = rest } = plain_front c rest plain_rest.0 in
    ap (λ (f : Front). matches (f.piece ∷ pieces) name) first
    ∙ itself_matches c rest pieces name
    (λ ns. plain_matches rest pieces ns plain_rest.1 (subst (λ r. AreRead r pieces) (ap (λ (f : Front). f.rest) first) read))

pub plain_is_itself : PlainIsItself
plain_is_itself text glob name plain read = plain_matches text glob.pieces name plain read.pieces
