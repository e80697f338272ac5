use Rattle.std.proofs.Common.{◌≡◌, ap, sym, ◌∙◌, is_some, map, true, false}
use Rattle.t1_font.specs.Fonts.{glyph}
use Rattle.t1_font.specs.Keys.{same_name}
use Rattle.t1_font.specs.PrivateText.{has_key}
use Rattle.t1_font.specs.Puts.{put}
use Rattle.t1_font.specs.Views.{name_pair, names_now}
use Rattle.t1_font.proofs.FontMaps.{name_put, name_has, name_twice}
use Rattle.t1_font.proofs.Room.{entries_few}
use Rattle.t1_font.proofs.font.Font.put_glyph.Goals as goal

pub returns-in_ok-insert-clause-ok : goal.returns-in_ok-insert-clause-ok
returns-in_ok-insert-clause-ok c =
    let bytes = ap (map name_pair) c.in_ok-before.ensures.entries ∙ name_put c.self.inside.glyphs.entries c.args.name c.args.bytes in
    let twice = ap names_now c.in_ok-insert.ensures.keys ∙ name_twice c.self.inside.glyphs_twice.keys c.args.name in
    let there : has_key same_name (map name_pair c.self.inside.glyphs.entries) c.args.name.now ≡ true =
    sym (c.if-is_some.ensures ∙ ap is_some c.in_ok-before.ensures.old ∙ name_has c.self.inside.glyphs.entries c.args.name) in
    rw (bytes, twice) (rw there at (ap (λ v. put v (glyph c.args.name.now c.args.bytes.now)) c.self.view_is))

pub returns-else-is_some-clause-ok : goal.returns-else-is_some-clause-ok
returns-else-is_some-clause-ok c =
    let bytes = ap (map name_pair) c.in_ok-before.ensures.entries ∙ name_put c.self.inside.glyphs.entries c.args.name c.args.bytes in
    let new : has_key same_name (map name_pair c.self.inside.glyphs.entries) c.args.name.now ≡ false =
    sym (c.if-is_some.ensures ∙ ap is_some c.in_ok-before.ensures.old ∙ name_has c.self.inside.glyphs.entries c.args.name) in
    rw bytes (rw new at (ap (λ v. put v (glyph c.args.name.now c.args.bytes.now)) c.self.view_is))

pub invariant_of-self-else-is_some : goal.invariant_of-self-else-is_some
invariant_of-self-else-is_some c = rw c.in_ok-before.ensures.entries
    (entries_few c.self.inside.glyphs.entries c.args.name c.args.bytes c.args.self.now (ap (λ v. v.glyphs) c.self.view_is) c.self.invariant c.requires)

pub invariant_of-self-in_ok-insert : goal.invariant_of-self-in_ok-insert
invariant_of-self-in_ok-insert c = rw c.in_ok-before.ensures.entries
    (entries_few c.self.inside.glyphs.entries c.args.name c.args.bytes c.args.self.now (ap (λ v. v.glyphs) c.self.view_is) c.self.invariant c.requires)

pub invariant_of-self-in_err-insert : goal.invariant_of-self-in_err-insert
invariant_of-self-in_err-insert c = rw c.in_ok-before.ensures.entries
    (entries_few c.self.inside.glyphs.entries c.args.name c.args.bytes c.args.self.now (ap (λ v. v.glyphs) c.self.view_is) c.self.invariant c.requires)
