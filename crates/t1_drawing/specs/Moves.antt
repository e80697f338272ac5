-- A move right behind a move, P11. Type 1 Font Format 1.1, chapter 3, which asks for concise outlines; that a move from which nothing is drawn
-- is to go is this project's own.
use Rattle.std.specs.Prelude.{◌&&◌, ◌||◌, Bool, List}
use Rattle.t1_char.specs.Since.{since}
use Rattle.t1_char.specs.Steps.{StepView}
use Rattle.t1_rules.specs.StepRules.Paths.{closing_step, drawing, outer_move}

-- What a move is made for.
abbrev pub draws_or_closes : List StepView → StepView → Bool
draws_or_closes before step = drawing before step || closing_step before step

-- A move outside flex came, and since then nothing was drawn and no closepath came.
abbrev pub is_only_moved : List StepView → Bool
is_only_moved before = since outer_move draws_or_closes before

abbrev pub moves_again : List StepView → StepView → Bool
moves_again before step = outer_move before step && is_only_moved before
