use Rattle.std.proofs.Common.{ap, nat_eq, ◌∙◌}
use Rattle.std.specs.Map.{lookup}
use Rattle.t1_font.specs.Views.{bytes_of}
use Rattle.t1_font.proofs.FontMaps.{number_found}
use Rattle.t1_font.proofs.font.Font.subr_elsewhere.Goals as goal

pub returns : goal.returns
returns c =
    ap bytes_of (c.copied.ensures ∙ c.get.ensures.value) ∙ number_found c.self.inside.subrs.entries c.args.number
    ∙ ap (λ v. lookup (nat_eq c.args.number) v.subrs) c.self.view_is
