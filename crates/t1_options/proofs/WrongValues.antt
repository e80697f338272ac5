-- What is wrong with what was given, check by check.
use Rattle.std.proofs.Common.{◌≡◌, ◌&&◌, Bool, Bor, true, false, not, Option, None, Some, is_some, option_and_then, option_map, ap, ap₂, refl, ◌∙◌}
use Rattle.clap.specs.Words.{Text}
use Rattle.t1_options.specs.Complaints.{is_wrong}

-- what isn't missing is there
not_missing : (there missing : Bool) → there ≡ not missing → missing ≡ not there
not_missing there true is = rw is refl
not_missing there false is = rw is refl

-- a value that means nothing
pub wrong : {X : Type 0} (meaning : Text → Option X) (value : Option Text) (found : Option X) (given missing : Bool)
    → given ≡ is_some value → found ≡ option_and_then meaning value → is_some found ≡ not missing
    → (given && missing) ≡ is_wrong meaning value
wrong meaning value found given missing is_given means is_missing =
    ap₂ (λ a b. a && b) is_given (not_missing (is_some found) missing is_missing ∙ ap (λ o. not (is_some o)) means)

-- the same, where the meaning is a reference to a text
some_lent : (found : Option (Bor Text)) → is_some (option_map (λ s. s.now) found) ≡ is_some found
some_lent None = refl
some_lent (Some text) = refl

pub wrong_text : (meaning : Text → Option Text) (value : Option Text) (found : Option (Bor Text)) (given missing : Bool)
    → given ≡ is_some value → option_map (λ s. s.now) found ≡ option_and_then meaning value → is_some found ≡ not missing
    → (given && missing) ≡ is_wrong meaning value
wrong_text meaning value found given missing is_given means is_missing =
    wrong meaning value (option_map (λ s. s.now) found) given missing is_given means (some_lent found ∙ is_missing)
