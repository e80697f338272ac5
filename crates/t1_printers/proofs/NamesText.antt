-- Names one after another.
use Rattle.std.proofs.Common.{◌≡◌, ◌+◌, ◌<◌, ℕ, List, [], ◌∷◌, ◌++◌, length, map, take, get_or, refl, sym, ap, codes, suc, ◌==◌, false, ◌∙◌, append_assoc, append-nil, arith}
use Rattle.std.proofs.lemmas.Bool.{ne_eqb}
use Rattle.std.proofs.lemmas.List.{length-map, length-take-le, map-append, take_more}
use Rattle.std.proofs.lemmas.List.Concat.{flat_map-append}
use Rattle.std.specs.List.{flat_map}
use Rattle.t1_printers.specs.Tails.{names_text, separator}

-- a name more
pub names_push : (names : List (List ℕ)) (name : List ℕ) → names_text (names ++ name ∷ []) ≡ names_text names ++ (separator (length names) ++ name)
names_push [] name = ap (λ t. 32 ∷ t) (append-nil name)
names_push (n ∷ names) name =
    let later : (suc (length names) == 0) ≡ false = ne_eqb (suc (length names)) 0 (λ e. omega (arith, e)) in
    rw later
    (ap (λ t. 32 ∷ (n ++ t))
    (flat_map-append (λ m. separator 1 ++ m) names (name ∷ [])
    ∙ ap (λ t. flat_map (λ m. separator 1 ++ m) names ++ t) (append-nil (separator 1 ++ name)))
    ∙ ap (λ t. 32 ∷ t) (sym (append_assoc n (flat_map (λ m. separator 1 ++ m) names) (separator 1 ++ name))))

-- the separator of a later name
pub later_separator : (i : ℕ) → separator (i + 1) ≡ codes ", "
later_separator i =
    let later : (i + 1 == 0) ≡ false = ne_eqb (i + 1) 0 (λ e. omega (arith, e)) in
    rw later refl

-- a step of a loop over names
pub names_step : {X : Type 0} (f : X → List ℕ) (names : List X) (i : ℕ) (d : X) → i < length names
    → names_text (map f (take (i + 1) names)) ≡ names_text (map f (take i names)) ++ (separator i ++ f (get_or names i d))
names_step f names i d lt =
    let long : length (map f (take i names)) ≡ i = length-map (take i names) f ∙ length-take-le i names (omega (arith, lt)) in
    ap (λ ns. names_text (map f ns)) (take_more names i d lt)
    ∙ ap names_text (map-append f (take i names) (get_or names i d ∷ []))
    ∙ names_push (map f (take i names)) (f (get_or names i d))
    ∙ ap (λ k. names_text (map f (take i names)) ++ (separator k ++ f (get_or names i d))) long
