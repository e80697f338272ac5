use Rattle.std.proofs.Common.{ap, sym, ◌∙◌}
use Rattle.std.proofs.lemmas.Bool.{not-true}
use Rattle.std.specs.List.{list_any}
use Rattle.t1_char.specs.Charstrings.{tokens_in}
use Rattle.t1_char.specs.Seacs.{is_seac}
use Rattle.t1_char.proofs.StepsLackSeac.{steps_lack_seac}
use Rattle.t1_char.proofs.seacs.steps_lack_seac.Goals as goal

pub returns-then-plain_subrs : goal.returns-then-plain_subrs
returns-then-plain_subrs c = λ lacks.
    steps_lack_seac c.args.font.now c.args.glyph (c.requires c.if-plain_subrs.true)
    (sym (ap (list_any is_seac) (c.cursor_at.ensures ∙ ap (tokens_in c.args.font.now) c.code_at.ensures)) ∙ c.may_have_seac.ensures (not-true _ lacks))
