use Rattle.std.proofs.Common.{◌≡◌, ap, sym, ◌∙◌, is_some, map, nat_eq, true, false}
use Rattle.t1_font.specs.Fonts.{subr}
use Rattle.t1_font.specs.PrivateText.{has_key}
use Rattle.t1_font.specs.Puts.{put}
use Rattle.t1_font.specs.Views.{number_pair}
use Rattle.t1_font.proofs.FontMaps.{number_put, number_has}
use Rattle.t1_font.proofs.font.Font.put_subr.Goals as goal

pub returns-in_ok-insert-clause-ok : goal.returns-in_ok-insert-clause-ok
returns-in_ok-insert-clause-ok c =
    let bytes = ap (map number_pair) c.in_ok-before.ensures.entries ∙ number_put c.self.inside.subrs.entries c.args.number c.args.bytes in
    let there : has_key nat_eq (map number_pair c.self.inside.subrs.entries) c.args.number ≡ true =
    sym (c.if-is_some.ensures ∙ ap is_some c.in_ok-before.ensures.old ∙ number_has c.self.inside.subrs.entries c.args.number) in
    rw (bytes, c.in_ok-insert.ensures.keys) (rw there at (ap (λ v. put v (subr c.args.number c.args.bytes.now)) c.self.view_is))

pub returns-else-is_some-clause-ok : goal.returns-else-is_some-clause-ok
returns-else-is_some-clause-ok c =
    let bytes = ap (map number_pair) c.in_ok-before.ensures.entries ∙ number_put c.self.inside.subrs.entries c.args.number c.args.bytes in
    let new : has_key nat_eq (map number_pair c.self.inside.subrs.entries) c.args.number ≡ false =
    sym (c.if-is_some.ensures ∙ ap is_some c.in_ok-before.ensures.old ∙ number_has c.self.inside.subrs.entries c.args.number) in
    rw bytes (rw new at (ap (λ v. put v (subr c.args.number c.args.bytes.now)) c.self.view_is))
