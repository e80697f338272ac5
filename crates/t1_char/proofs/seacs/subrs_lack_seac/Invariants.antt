use Rattle.std.proofs.Common.{◌≡◌, map}
use Rattle.std.specs.List.{list_any}
use Rattle.t1_font.specs.Views.{number_pair}
use Rattle.t1_char.specs.Seacs.{subr_has_seac, subrs_have_seac}
use Rattle.t1_char.proofs.seacs.subrs_lack_seac.Given as goal

abbrev pub invariant-loop-code : goal.invariant-loop-code
invariant-loop-code l = list_any (subr_has_seac l.font) (map number_pair l.code-iterator) ≡ subrs_have_seac l.font
