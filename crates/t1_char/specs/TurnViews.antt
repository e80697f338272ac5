-- What a `Turn` says.
use Rattle.t1_char.specs.declared.machine.Turn.{Turn as Turns}
use Rattle.t1_char.specs.declared.machine.Turn.TheVariants.{Step, Ended, Limit}
use Rattle.t1_char.specs.Turns.{TurnValue, stepped, ended, limited}
use Rattle.t1_char.specs.StepValues.{step_value}

abbrev pub turn_value : Turns → TurnValue
turn_value (Step step) = stepped (step_value step.now)
turn_value Ended = ended
turn_value (Limit step) = limited (step_value step.now)
