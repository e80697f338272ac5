use Rattle.std.proofs.Common.{◌≡◌, Some, ap, nat_eq, subst, sym, ◌∙◌}
use Rattle.std.specs.HashMap.{get_by}
use Rattle.std.specs.Map.{lookup}
use Rattle.t1_font.specs.Views.{bytes_of}
use Rattle.t1_font.proofs.FontMaps.{number_found}
use Rattle.t1_font.proofs.font.Font.subr.Goals as goal

pub returns-in-Some : goal.returns-in-Some
returns-in-Some c =
    let found : get_by (nat_eq c.args.number) c.self.inside.subrs ≡ Some c.in-Some.bytes.now =
    subst (λ k. get_by (nat_eq k) c.self.inside.subrs ≡ Some c.in-Some.bytes.now) c.if-there-number.true c.in-Some.ensures.value in
    ap bytes_of (sym found) ∙ number_found c.self.inside.subrs.entries c.args.number
    ∙ ap (λ v. lookup (nat_eq c.args.number) v.subrs) c.self.view_is
