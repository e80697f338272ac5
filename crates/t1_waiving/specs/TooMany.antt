-- Fonts with more waivers than are read, of which none is written.
use Rattle.std.specs.Prelude.{ℕ, Bool, is_none, List, [], ◌∷◌, codes, if◌then◌else◌}
use Rattle.std.specs.List.{concat, list_any}
use Rattle.t1_run.specs.declared.status.Status.{Status}
use Rattle.t1_run.specs.declared.status.Status.TheVariants.{Clean, Failed}
use Rattle.t1_waiving.specs.FontTexts.{FontText}

-- A font that has too many.
abbrev pub has_too_many : FontText → Bool
has_too_many font = is_none font.text

-- `NAME: too many waivers`.
abbrev pub too_many_line : FontText → List ℕ
too_many_line font = if has_too_many font then concat (font.name ∷ codes ": too many waivers\n" ∷ []) else []

abbrev pub status_of_texts : List FontText → Status
status_of_texts fonts = if list_any has_too_many fonts then Failed else Clean
