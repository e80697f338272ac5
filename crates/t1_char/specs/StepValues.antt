-- What a `Step` says.
use Rattle.t1_char.specs.declared.step.Step.{Step}
use Rattle.t1_char.specs.Steps.{StepView, NumberedStep}

abbrev pub step_view : Step → StepView
step_view step =
    record {
      token = step.token;
      path = step.path.items;
      stack = step.stack;
      waiting = step.waiting;
      found = step.found;
      last = step.last;
    }

abbrev pub step_value : Step → NumberedStep
step_value step = record { number = step.number; step = step_view step }
