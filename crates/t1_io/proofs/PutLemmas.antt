-- Known bytes that grow by parts of a slice, one after another.
use Rattle.std.proofs.Common.{◌≡◌, ℕ, ◌+◌, List, ◌<◌, Option, length, take, drop, suc, get_or, [], ◌∷◌, ◌++◌, ap, add-one, append-nil, sym, take-append-drop, ◌∙◌}
use Rattle.std.proofs.lemmas.Grind.{flat_map-append}
use Rattle.std.specs.List.{flat_map}
use Rattle.std.proofs.Math.Seq.{take-suc, drop-cons}
use Rattle.std.proofs.KnownBytes.{Appends-kept}
use Rattle.std.specs.Io.KnownBytes.{Appends, Keeps}
use Rattle.t1_io.specs.Devices.{AppendsFront}

-- what went out before a failure is a prefix
pub AppendsFront-take : (a b c : Option (List ℕ)) (bytes : List ℕ) (at : ℕ) → Appends a b (take at bytes) → Keeps b c → AppendsFront a c bytes
AppendsFront-take a b c bytes at before kept =
    (take at bytes, (drop at bytes, (sym (take-append-drop at bytes), Appends-kept a b c (take at bytes) before kept)))

-- a list up to an element, that element, and what follows it
pub flat_map-split : {X : Type 0} (f : X → List ℕ) (xs : List X) (i : ℕ) (d : X) → i < length xs
    → flat_map f xs ≡ flat_map f (take i xs) ++ (f (get_or xs i d) ++ flat_map f (drop (suc i) xs))
flat_map-split f xs i d lt =
    ap (flat_map f) (sym (take-append-drop i xs) ∙ ap (λ l. take i xs ++ l) (drop-cons xs i d lt))
    ∙ flat_map-append f (take i xs) (get_or xs i d ∷ drop (suc i) xs)

-- a prefix of a list, and the element after it
pub flat_map-part : {X : Type 0} (f : X → List ℕ) (xs : List X) (i : ℕ) (d : X) → i < length xs
    → flat_map f (take i xs) ++ f (get_or xs i d) ≡ flat_map f (take (i + 1) xs)
flat_map-part f xs i d lt =
    sym (ap (flat_map f) (ap (λ n. take n xs) (add-one i) ∙ take-suc xs i d lt) ∙ flat_map-append f (take i xs) (get_or xs i d ∷ [])
    ∙ ap (λ l. flat_map f (take i xs) ++ l) (append-nil (f (get_or xs i d))))
