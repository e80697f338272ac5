use Rattle.std.proofs.Common.{◌≡◌, ◌<◌, ◌+◌, ℕ, cond, List, [], drop, drop-cons, length, map, slice_index_or, Some, suc, ap, arith, refl, sym, ◌∙◌}
use Rattle.std.proofs.lemmas.List.{drop_all}
use Rattle.std.specs.Borrow.{Bor}
use Rattle.t1_font.specs.declared.key.Key.{Key}
use Rattle.t1_font.specs.declared.key.Key.TheVariants.{FontType}
use Rattle.t1_font.specs.Keys.{key_named, same_name}
use Rattle.t1_font.specs.Private.KeyRows.{row_view}
use Rattle.t1_font.proofs.key.key_in.Goals as goal

abbrev Rows : Type 0
Rows = List (Bor (List ℕ) × Key)

-- In place of a row where there is none.
abbrev none : Bor (List ℕ) × Key
none = (record { ref_ptr = (0, 0); now = [] }, FontType)

-- The key from one row on.
row_next : (name : List ℕ) (rows : Rows) (i : ℕ) → i < length rows → key_named name (map row_view (drop i rows))
    ≡ cond (same_name name (slice_index_or rows i none).0.now) (Some (slice_index_or rows i none).1) (key_named name (map row_view (drop (i + 1) rows)))
row_next name rows i less =
    let next : suc i ≡ i + 1 = omega arith in
    ap (λ (t : Rows). key_named name (map row_view t)) (drop-cons rows i none less)
    ∙ ap (λ (n : ℕ). cond (same_name name (slice_index_or rows i none).0.now) (Some (slice_index_or rows i none).1) (key_named name (map row_view (drop n rows))))
    next

pub returns-then-eq : goal.returns-then-eq
returns-then-eq c =
    let at = row_next c.args.name.now c.args.rows.now c.loop-row.row-index c.loop-row-test.true in
    sym (sym c.loop-row.invariant ∙ at ∙ rw (sym c.as_bytes.ensures.value, sym c.eq.ensures, c.if-eq.true) refl)

pub loop-row-preserved : goal.loop-row-preserved
loop-row-preserved c =
    let at = row_next c.args.name.now c.args.rows.now c.loop-row.row-index c.loop-row-test.true in
    sym (sym c.loop-row.invariant ∙ at ∙ rw (sym c.as_bytes.ensures.value, sym c.eq.ensures, c.if-eq.false) refl)

pub returns : goal.returns
returns c =
    sym (sym c.loop-row.invariant ∙ ap (λ (t : Rows). key_named c.args.name.now (map row_view t)) (drop_all c.loop-row.row-index c.args.rows.now c.loop-row-test.false))
