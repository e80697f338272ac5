use Rattle.std.proofs.Common.{refl, sym, ◌∙◌}
use Rattle.indexmap.proofs.CallerLemmas.{insert_entry-new}
use Rattle.t1_known.proofs.KeptRows.{is_key, kept_line, known_key, none_of}
use Rattle.t1_known.proofs.known.add_line.Goals as goal

pub returns-then-contains_key : goal.returns-then-contains_key
returns-then-contains_key c = (
  refl,
  known_key c.args.line.text.now c.args.rows.now.entries c.key_in-key.result.now c.in-Some.row c.requires c.in-Some.ensures c.key_in-key.ensures
      (sym c.contains_key.ensures ∙ c.if-contains_key.true),
)

pub returns : goal.returns
returns c =
    let out = sym c.contains_key.ensures ∙ c.if-contains_key.false in
    kept_line c.args.line.text.now c.args.rows.now.entries c.insert.new.self.entries c.key_in-key.result c.in-Some.row c.requires c.in-Some.ensures
    c.key_in-key.ensures out
    (c.in_ok-insert.ensures.entries ∙ insert_entry-new (λ a b. is_key a.now b) c.args.rows.now c.key_in-key.result c.in-Some.row (none_of _ out))
