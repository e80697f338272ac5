-- How much a violation of a rule matters, in words.
use Rattle.std.specs.Prelude.{ℕ, if◌then◌else◌, List, Option, Some, None, codes}
use Rattle.t1_font.specs.Keys.{same_name}
use Rattle.t1_rules.specs.declared.level.Level.{Level}
use Rattle.t1_rules.specs.declared.level.Level.TheVariants.{Must, Should, Tidy}

-- The word for a level.
abbrev pub level_text : Level → List ℕ
level_text Must = codes "must"
level_text Should = codes "should"
level_text Tidy = codes "tidy"

-- The level that a word names.
abbrev pub level_named : List ℕ → Option Level
level_named word =
    if same_name (level_text Must) word then Some Must
    else if same_name (level_text Should) word then Some Should
    else if same_name (level_text Tidy) word then Some Tidy
    else None
