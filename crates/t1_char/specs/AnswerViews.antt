-- What an `Answer` says, with the step that it speaks of.
use Rattle.std.specs.Prelude.{Bool, true, false}
use Rattle.t1_char.specs.declared.machine.Answer.{Answer}
use Rattle.t1_char.specs.declared.machine.Answer.TheVariants.{Step, Ended, Limit}
use Rattle.t1_char.specs.Steps.{NumberedStep}
use Rattle.t1_char.specs.Turns.{TurnValue, stepped, ended, limited}

abbrev pub answer_view : Answer → NumberedStep → TurnValue
answer_view Step step = stepped step
answer_view Ended step = ended
answer_view Limit step = limited step

abbrev pub is_over : Answer → Bool
is_over Ended = true
is_over _ = false

abbrev pub is_limit : Answer → Bool
is_limit Limit = true
is_limit _ = false
