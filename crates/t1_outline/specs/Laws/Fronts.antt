-- Steps that go on from others.
use Rattle.std.specs.Prelude.{◌≡◌, List, ◌++◌}
use Rattle.t1_char.specs.Steps.{StepView}
use Rattle.t1_outline.specs.Outlines.{drawn_from, drawn_of}

-- What a prefix of the steps draws is a prefix of what they draw: the other steps draw the rest.
abbrev pub FrontsDrawFronts : Type 0
FrontsDrawFronts = (front more : List StepView) → drawn_of (front ++ more) ≡ drawn_of front ++ drawn_from front more
