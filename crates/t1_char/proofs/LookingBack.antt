-- One step more, in what came before.
use Rattle.std.proofs.Common.{◌≡◌, ◌&&◌, ◌||◌, not, Bool, List, [], ◌∷◌, ◌++◌, append_assoc, append-nil, arith}
use Rattle.std.specs.List.{list_any}
use Rattle.t1_char.specs.Steps.{StepView}
use Rattle.t1_char.specs.Since.{Test, any_from, since_from}
use Rattle.t1_char.specs.Laws.Since.{AnyGoesOn, SinceGoesOn, AfterLastGoesOn, LastGoesOn}

any_from_more : (e : Test) (front ss : List StepView) (t : StepView) → any_from e front (ss ++ t ∷ []) ≡ (any_from e front ss || e (front ++ ss) t)
any_from_more e front [] t = grind (arith, append-nil)
any_from_more e front (s ∷ ss) t = grind (arith, append_assoc, any_from_more e (front ++ s ∷ []) ss t)

since_from_more : (a b : Test) (front ss : List StepView) (t : StepView) → since_from a b front (ss ++ t ∷ [])
    ≡ (a (front ++ ss) t || (since_from a b front ss && not (b (front ++ ss) t)))
since_from_more a b front [] t = grind (arith, append-nil)
since_from_more a b front (s ∷ ss) t = grind (arith, append_assoc, since_from_more a b (front ++ s ∷ []) ss t, any_from_more b (front ++ s ∷ []) ss t)

pub any_goes_on : AnyGoesOn
any_goes_on e steps t = any_from_more e [] steps t

pub since_goes_on : SinceGoesOn
since_goes_on a b steps t = since_from_more a b [] steps t

any_append : (a : StepView → Bool) (ss : List StepView) (t : StepView) → list_any a (ss ++ t ∷ []) ≡ (list_any a ss || a t)
any_append a [] t = grind arith
any_append a (s ∷ ss) t = grind (arith, any_append a ss t)

pub after_last_goes_on : AfterLastGoesOn
after_last_goes_on a [] t = grind arith
after_last_goes_on a (s ∷ ss) t = grind (arith, any_append a ss t, after_last_goes_on a ss t)

pub last_goes_on : LastGoesOn
last_goes_on a [] t = grind arith
last_goes_on a (s ∷ ss) t = grind (arith, any_append a ss t, last_goes_on a ss t)
