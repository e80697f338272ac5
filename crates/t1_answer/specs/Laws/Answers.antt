-- The options and the bytes of both files decide the answer.
use Rattle.std.specs.Prelude.{◌≡◌, ℕ, List}
use Rattle.t1_answer.specs.declared.asked.CheckOptions.{CheckOptions}
use Rattle.t1_answer.specs.Answers.{Answer, IsAnswer}

-- There is an answer.
abbrev pub HasAnAnswer : Type 0
HasAnAnswer = (options : CheckOptions) (input text : List ℕ) → (answer : Answer) × IsAnswer options input text answer

-- There is no other answer.
abbrev pub HasNoOtherAnswer : Type 0
HasNoOtherAnswer =
    (options : CheckOptions) (input text : List ℕ) (a b : Answer) → IsAnswer options input text a
    → IsAnswer options input text b → a ≡ b
