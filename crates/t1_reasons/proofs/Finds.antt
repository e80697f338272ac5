-- The first such in lists that are made of a list's elements one after another.
use Rattle.std.proofs.Common.{◌≡◌, ℕ, suc, ◌-◌, ◌≤◌, ◌&&◌, Bool, true, false, Option, Some, None, List, [], ◌∷◌, ◌++◌, length, take, drop, get_or, refl, sym, ap, ◌∙◌, arith}
use Rattle.std.proofs.Math.Seq.{take-length}
use Rattle.std.proofs.Common.{◌+◌, ℤ, pos}
use Rattle.t1_rules.specs.StepRules.Arguments.{is_past}
use Rattle.t1_reasons.specs.declared.reason.Reason.{Reason}
use Rattle.t1_reasons.specs.declared.reason.Reason.TheVariants.{Width}
use Rattle.t1_reasons.specs.FontReasons.{is_apart, nearer, nearest, widths_in}
use Rattle.t1_reasons.specs.StepReasons.{is_past_range, only_where, placed_from}
use Rattle.std.specs.List.{find}
use Rattle.std.specs.Option.{option_or}
use Rattle.std.proofs.lemmas.List.Folds.{find-append}

pub found_in_front : {A : Type 0} (p : A → Bool) (xs ys : List A) (x : A) → find p xs ≡ Some x → find p (xs ++ ys) ≡ Some x
found_in_front p xs ys x e = find-append p xs ys ∙ rw e refl

pub found_behind : {A : Type 0} (p : A → Bool) (xs ys : List A) → find p xs ≡ None → find p (xs ++ ys) ≡ find p ys
found_behind p xs ys e = find-append p xs ys ∙ rw e refl

-- One candidate, where there is one, and it is such.
pub found_where : (b : Bool) (p : Reason → Bool) (x : Reason) → (b && p x) ≡ true → find p (only_where b x) ≡ Some x
found_where true p x e = rw e refl
found_where false p x e = let no : false ≡ true = e in cc

-- The first of three, by what is found of each.
pub found_of_three : (p : Reason → Bool) (x y z : Reason)
    → find p (x ∷ (y ∷ (z ∷ []))) ≡ option_or (option_or (find p (x ∷ [])) (find p (y ∷ []))) (find p (z ∷ []))
found_of_three p x y z =
    find-append p (x ∷ (y ∷ [])) (z ∷ []) ∙ ap (λ found. option_or found (find p (z ∷ []))) (find-append p (x ∷ []) (y ∷ []))

pub found_at_first : {A B : Type 0} (p : B → Bool) (one : A → List A → List B) (all : List A → List B)
    → ((x : A) (xs : List A) → all (x ∷ xs) ≡ one x xs ++ all xs) → (v : List A) (d : A) (r : B) (found : Option B) → 1 ≤ length v
    → find p (one (get_or v 0 d) (take (length v - 1) (drop 1 v))) ≡ Some r → find p (all v) ≡ found → Some r ≡ found
found_at_first p one all made [] d r found some here whole = absurd (omega arith)
found_at_first p one all made (x ∷ xs) d r found some here whole =
    let count : suc (length xs) - 1 ≡ length xs = omega arith in
    let first : find p (one x xs) ≡ Some r = rw (count, take-length xs) at here in
    sym (found_in_front p (one x xs) (all xs) r first) ∙ ap (find p) (sym (made x xs)) ∙ whole

pub found_later : {A B : Type 0} (p : B → Bool) (one : A → List A → List B) (all : List A → List B)
    → ((x : A) (xs : List A) → all (x ∷ xs) ≡ one x xs ++ all xs) → (v : List A) (d : A) (found : Option B) → 1 ≤ length v
    → find p (one (get_or v 0 d) (take (length v - 1) (drop 1 v))) ≡ None → find p (all v) ≡ found
    → find p (all (take (length v - 1) (drop 1 v))) ≡ found
found_later p one all made [] d found some here whole = absurd (omega arith)
found_later p one all made (x ∷ xs) d found some here whole =
    let count : suc (length xs) - 1 ≡ length xs = omega arith in
    let none : find p (one x xs) ≡ None = rw (count, take-length xs) at here in
    rw (count, take-length xs) (sym (found_behind p (one x xs) (all xs) none) ∙ ap (find p) (sym (made x xs)) ∙ whole)

pub later_past : (place : ℕ) (v : List ℤ) (found : Option Reason) → 1 ≤ length v → is_past (get_or v 0 (pos 0)) ≡ false
    → find is_past_range (placed_from (place + 1) v) ≡ found
    → find is_past_range (placed_from (place + 1 + 1) (take (length v - 1) (drop 1 v))) ≡ found
later_past place [] found some within whole = absurd (omega arith)
later_past place (z ∷ zs) found some within whole =
    let count : suc (length zs) - 1 ≡ length zs = omega arith in
    rw (count, take-length zs) (rw within at whole)

pub fewer_later : (place : ℕ) (v : List ℤ) → 1 ≤ length v → place + length v ≤ 24 → place + 1 + length (take (length v - 1) (drop 1 v)) ≤ 24
fewer_later place [] some few = absurd (omega arith)
fewer_later place (z ∷ zs) some few =
    let count : suc (length zs) - 1 ≡ length zs = omega arith in
    rw (count, take-length zs) (omega (arith, few))

-- The same of lists that are made of two elements at a time.
pub found_at_first_two : {A B : Type 0} (p : B → Bool) (one : A → A → B) (all : List A → List B)
    → ((x y : A) (xs : List A) → all (x ∷ (y ∷ xs)) ≡ one x y ∷ all xs) → (v : List A) (d : A) (r : B) (found : Option B) → 2 ≤ length v
    → find p (one (get_or v 0 d) (get_or v 1 d) ∷ []) ≡ Some r → find p (all v) ≡ found → Some r ≡ found
found_at_first_two p one all made [] d r found some here whole = absurd (omega arith)
found_at_first_two p one all made (x ∷ []) d r found some here whole = absurd (omega arith)
found_at_first_two p one all made (x ∷ (y ∷ xs)) d r found some here whole =
    sym (found_in_front p (one x y ∷ []) (all xs) r here) ∙ ap (find p) (sym (made x y xs)) ∙ whole

pub found_after_two : {A B : Type 0} (p : B → Bool) (one : A → A → B) (all : List A → List B)
    → ((x y : A) (xs : List A) → all (x ∷ (y ∷ xs)) ≡ one x y ∷ all xs) → (v : List A) (d : A) (found : Option B) → 2 ≤ length v
    → find p (one (get_or v 0 d) (get_or v 1 d) ∷ []) ≡ None → find p (all v) ≡ found
    → find p (all (take (length v - 2) (drop 2 v))) ≡ found
found_after_two p one all made [] d found some here whole = absurd (omega arith)
found_after_two p one all made (x ∷ []) d found some here whole = absurd (omega arith)
found_after_two p one all made (x ∷ (y ∷ xs)) d found some here whole =
    let count : suc (suc (length xs)) - 2 ≡ length xs = omega arith in
    rw (count, take-length xs) (sym (found_behind p (one x y ∷ []) (all xs) here) ∙ ap (find p) (sym (made x y xs)) ∙ whole)

-- ---- the nearest snap

pub nearest_later : (width best : ℤ) (v : List ℤ) (found : ℤ) → 1 ≤ length v → nearest width best v ≡ found
    → nearest width (nearer width best (get_or v 0 (pos 0))) (take (length v - 1) (drop 1 v)) ≡ found
nearest_later width best [] found some whole = absurd (omega arith)
nearest_later width best (z ∷ zs) found some whole =
    let count : suc (length zs) - 1 ≡ length zs = omega arith in
    rw (count, take-length zs) whole

pub first_widths : (widths snaps : List ℤ) (found : Option Reason) → 1 ≤ length widths → 1 ≤ length snaps
    → found ≡ find is_apart (Width (get_or widths 0 (pos 0))
    (nearest (get_or widths 0 (pos 0)) (get_or snaps 0 (pos 0)) (take (length snaps - 1) (drop 1 snaps))) ∷ [])
    → found ≡ find is_apart (widths_in widths snaps)
first_widths [] snaps found some more here = absurd (omega arith)
first_widths (width ∷ widths) [] found some more here = absurd (omega arith)
first_widths (width ∷ widths) (snap ∷ snaps) found some more here =
    let count : suc (length snaps) - 1 ≡ length snaps = omega arith in
    rw (count, take-length snaps) at here
