-- Laws of the levels.
use Rattle.std.specs.Prelude.{◌≡◌, ◌↔◌, ℕ, List, Some}
use Rattle.t1_rules.specs.declared.level.Level.{Level}
use Rattle.t1_rules.specs.Levels.{level_named, level_text}

-- A word names a level exactly where it is that level's: so no two levels have one word.
abbrev pub LevelsHaveTheirWords : Type 0
LevelsHaveTheirWords = (word : List ℕ) (level : Level) → (level_named word ≡ Some level) ↔ (level_text level ≡ word)
