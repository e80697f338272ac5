use Rattle.std.proofs.Common.{ap₂, sym, ◌∙◌}
use Rattle.t1_many.specs.Choice.{is_told}
use Rattle.t1_rules.specs.Book.{code_of}
use Rattle.t1_options.proofs.laws.codes_choose_rules.Goals as goal

pub returns : goal.returns
returns c = λ given options meant rule.
    meant.rules rule
    ∙ sym (ap₂ (λ only except. is_told (record { only = only; except = except }) (code_of rule)) meant.values.only meant.values.except)
