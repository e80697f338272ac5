-- Words one after another.
use Rattle.std.proofs.Common.{◌≡◌, ℕ, ◌+◌, ◌<◌, Bool, true, false, List, [], ◌∷◌, ◌++◌, Result, Ok, Err, get_or, length, map, take, string_bytes, sym, ap, ◌∙◌, add-one, append-nil, String, Global}
use Rattle.std.proofs.Math.Seq.{take-suc}
use Rattle.std.proofs.lemmas.Grind.{flat_map-append}
use Rattle.std.proofs.lemmas.List.{map-append}
use Rattle.std.specs.List.{AllZip, flat_map}
use Rattle.std.specs.Result.{IfOk}
use Rattle.t1_names.specs.Folders.{IsBelow}
use Rattle.t1_names.specs.Named.{Found, StandsFor, all_fonts, all_unsearched}
use Rattle.t1_names.specs.Named.StandsFor.{a_folder, a_font}
use Rattle.t1_names.specs.Words.{Trims, file_name, is_input}
use Rattle.t1_names.specs.declared.folders.Below.{Below}
use Rattle.t1_names.specs.declared.folders.Listing.{Listing}

-- what one more word names comes after what the words before it name
more_of : (part : Found → List (List ℕ)) (founds : List Found) (one : Found) (before more after : List (String Global)) → after ≡ before ++ more
    → map string_bytes more ≡ part one → map string_bytes before ≡ flat_map part founds → map string_bytes after ≡ flat_map part (founds ++ one ∷ [])
more_of part founds one before more after is more_are before_are =
    let joined : map string_bytes after ≡ map string_bytes before ++ map string_bytes more = ap (map string_bytes) is ∙ map-append string_bytes before more in
    let all : flat_map part (founds ++ one ∷ []) ≡ flat_map part founds ++ part one =
    flat_map-append part founds (one ∷ []) ∙ ap (λ l. flat_map part founds ++ l) (append-nil (part one)) in cc

pub more_fonts : (founds : List Found) (one : Found) (before more after : List (String Global)) → after ≡ before ++ more
    → map string_bytes more ≡ one.fonts → map string_bytes before ≡ all_fonts founds → map string_bytes after ≡ all_fonts (founds ++ one ∷ [])
more_fonts = more_of (λ found. found.fonts)

pub more_unsearched : (founds : List Found) (one : Found) (before more after : List (String Global)) → after ≡ before ++ more
    → map string_bytes more ≡ one.unsearched → map string_bytes before ≡ all_unsearched founds → map string_bytes after ≡ all_unsearched (founds ++ one ∷ [])
more_unsearched = more_of (λ found. found.unsearched)

pub zip-push : {A B : Type 0} (R : A → B → Type 0) (xs : List A) (ys : List B) (x : A) (y : B) → AllZip R xs ys → R x y
    → AllZip R (xs ++ x ∷ []) (ys ++ y ∷ [])
zip-push R [] [] x y all is = (is, tt)
zip-push R [] (b ∷ ys) x y all is = absurd all
zip-push R (a ∷ xs) [] x y all is = absurd all
zip-push R (a ∷ xs) (b ∷ ys) x y (first, rest) is = (first, zip-push R xs ys x y rest is)

-- the names up to one, and that one
pub names_next : {A : Type 0} (f : A → List ℕ) (xs : List A) (i : ℕ) (x : A) → i < length xs → x ≡ get_or xs i x
    → map f (take (i + 1) xs) ≡ map f (take i xs) ++ f x ∷ []
names_next f xs i x less is =
    ap (map f) (ap (λ n. take n xs) (add-one i) ∙ take-suc xs i x less ∙ ap (λ y. take i xs ++ y ∷ []) (sym is))
    ∙ map-append f (take i xs) (x ∷ [])

module _ {F E : Type 0} (IsFolder : F → F → List ℕ → Bool → Type 0) (Lists : F → F → List ℕ → Result Listing E → Type 0) (old after : F)
    (word trimmed : List ℕ) (plain : is_input word ≡ false) (trims : Trims IsFolder old after word trimmed) where
  abbrev found_of : Below → Found
  found_of below = record { fonts = map string_bytes below.fonts.items; unsearched = map string_bytes below.unsearched.items }

  pub stands_for_below : {X : Type 0} (asked new : F) (r : Result Below X) → IsFolder after asked trimmed true
      → IfOk r (λ below. IsBelow Lists asked new trimmed (map string_bytes below.fonts.items) (map string_bytes below.unsearched.items))
      → IfOk r (λ below. StandsFor IsFolder Lists old new word (found_of below))
  stands_for_below asked new (Ok below) leads are = a_folder trimmed plain after asked trims leads are
  stands_for_below asked new (Err e) leads are = tt

  pub stands_for_itself : {X : Type 0} (new : F) (r : Result Below X) → IsFolder after new trimmed false
      → IfOk r (λ below. (map string_bytes below.fonts.items ≡ file_name trimmed ∷ []) × (map string_bytes below.unsearched.items ≡ []))
      → IfOk r (λ below. StandsFor IsFolder Lists old new word (found_of below))
  stands_for_itself new (Ok below) leads (fonts, missed) = a_font trimmed plain after trims leads cc
  stands_for_itself new (Err e) leads are = tt
