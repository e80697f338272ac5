-- What the values of the plain keys are as one.
use Rattle.std.specs.Prelude.{List}
use Rattle.t1_font.specs.Values.{Value}

-- The values of the keys, each at its key's place.
abbrev pub KeyValues : Type 0
KeyValues = List Value
