-- What takes things one after another, as a policy takes fonts and a printer takes their lines.

-- How it takes a thing, from one state to the next, and how that ends; and its states before the first thing and after the last one.
pub record Recipient (Thing End : Type 0) : Type 1 where
  pub State : Type 0
  pub takes : State → State → Thing → End → Type 0
  pub old : State
  pub new : State

abbrev pub recipient_by : {S Thing End : Type 0} → (S → S → Thing → End → Type 0) → S → S → Recipient Thing End
recipient_by {S} takes old new = record { State = S; takes = takes; old = old; new = new }
