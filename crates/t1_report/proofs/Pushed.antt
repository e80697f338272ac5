-- One fault more, as the program keeps it.
use Rattle.std.proofs.Common.{◌≡◌, ℕ, ◌+◌, List, [], ◌∷◌, ◌++◌, length, sym, ap, ◌∙◌}
use Rattle.std.proofs.lemmas.List.{map-append, length-map}
use Rattle.t1_rules.specs.declared.rule.Rule.{Rule}
use Rattle.t1_report.specs.declared.faults.Fault.{Fault}
use Rattle.t1_report.specs.Faults.{FaultValue, fault_value, faults_of}

value : ℕ → ℕ → ℕ → Rule → List ℕ → FaultValue
value number unit step rule path = record { number = number; unit = unit; step = step; rule = rule; path = path }

same_value : (f : Fault) (n : ℕ) (path : List ℕ) → f.number ≡ n → f.path.items ≡ path
    → fault_value f ≡ record { number = n; unit = f.unit; step = f.step; rule = f.rule; path = path }
unfolding value
same_value f n path number is =
    ap (λ (m : ℕ). value m f.unit f.step f.rule f.path.items) number ∙ ap (value n f.unit f.step f.rule) is

pub pushed : (xs : List Fault) (f : Fault) (path : List ℕ) → f.number ≡ length xs + 1 → f.path.items ≡ path
    → faults_of (xs ++ f ∷ []) ≡ faults_of xs ++ record { number = length (faults_of xs) + 1; unit = f.unit; step = f.step; rule = f.rule; path = path } ∷ []
pushed xs f path number is =
    map-append fault_value xs (f ∷ [])
    ∙ ap (λ (g : FaultValue). faults_of xs ++ g ∷ [])
    (same_value f (length (faults_of xs) + 1) path (number ∙ ap (λ (n : ℕ). n + 1) (sym (length-map xs fault_value))) is)
