-- What the watcher of stems keeps, by one step.
use Rattle.std.specs.Prelude.{◌≡◌, if◌then◌else◌, Bool, false, List, [], ◌++◌, take}
use Rattle.t1_char.specs.declared.command.Command.{Command as Commands}
use Rattle.t1_char.specs.declared.token.CharToken.{CharToken}
use Rattle.t1_char.specs.Arguments.{is_callothersubr, is_hint_replacement}
use Rattle.t1_char.specs.Steps.{StepView}
use Rattle.t1_rules.specs.declared.step_rules.stems.Stem.{Stem}
use Rattle.t1_rules.specs.StepRules.Stems.{is_stem, stems_of, most_stems}
use Rattle.t1_rules.specs.StepRules.Tokens.{is_command, is_line}

-- A hint set after a step, by what it was before.
abbrev pub kept_after : (Commands → Bool) → List Stem → StepView → List Stem
kept_after direction kept step =
    if is_hint_replacement step then []
    else (if is_command direction step.token then take most_stems (kept ++ stems_of step) else kept)

-- A token that changes neither a hint set nor what was drawn.
pub record IsQuietForStems (token : CharToken) : Type 0 where
  pub stem : is_stem token ≡ false
  pub line : is_line token ≡ false
  pub othersubr : is_callothersubr token ≡ false
