-- Texts that were written into memory.
use Rattle.std.proofs.Common.{◌≡◌, ℕ, List, [], Option, Some, subst}
use Rattle.std.specs.Io.KnownBytes.{Appends}

pub all_of_text : (before after : Option (List ℕ)) (result text : List ℕ) → before ≡ Some [] → Appends before after text → after ≡ Some result
    → result ≡ text
all_of_text before after result text none appends is =
    subst (λ (a : Option (List ℕ)). Appends (Some []) a text) is (subst (λ (b : Option (List ℕ)). Appends b after text) none appends)
