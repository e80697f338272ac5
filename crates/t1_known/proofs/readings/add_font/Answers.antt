use Rattle.std.proofs.Common.{Some, ◌∙◌, ap, sym, refl}
use Rattle.indexmap.proofs.CallerLemmas.{insert_entry-new}
use Rattle.t1_known.proofs.KeptRows.{is_key, none_of}
use Rattle.t1_known.proofs.LeftRows.{left_before, left_more, contains, some_left}
use Rattle.t1_known.proofs.readings.add_font.Goals as goal

pub returns-then-contains_key : goal.returns-then-contains_key
returns-then-contains_key c = λ readings is.
    left_before readings c.args.fonts.now.entries is c.args.reading.now
    (some_left c.args.fonts.now.entries _
    ∙ ap (λ font. contains c.args.fonts.now.entries font) (sym c.as_bytes-font.ensures.value) ∙ sym c.contains_key.ensures ∙ c.if-contains_key.true)

pub returns : goal.returns
returns c = λ readings is.
    let out = sym c.contains_key.ensures ∙ c.if-contains_key.false in
    left_more readings c.args.fonts.now.entries is c.args.reading.now c.as_bytes-font.result c.args.reading c.insert.new.self.entries
    c.as_bytes-font.ensures.value refl
    (c.in_ok-insert.ensures.entries ∙ insert_entry-new (λ a b. is_key a.now b) c.args.fonts.now c.as_bytes-font.result (Some c.args.reading) (none_of _ out))
