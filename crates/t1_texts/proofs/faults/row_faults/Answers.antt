use Rattle.std.proofs.Common.{◌+◌, ◌∙◌, [], ◌∷◌, ap, arith, refl, subst, sym}
use Rattle.std.proofs.lemmas.List.{length-take-le}
use Rattle.t1_font.specs.Rows.{first_in, row_left, token_in_row}
use Rattle.t1_texts.specs.Private.Watching.{IsWatchOf}
use Rattle.t1_texts.specs.RowFaults.{faults_in}
use Rattle.t1_texts.proofs.Looking.{all_taken, entered, front_passed, take_several}
use Rattle.t1_texts.proofs.faults.row_faults.Goals as goal

pub parts-preserved-in-Token : goal.parts-preserved-in-Token
parts-preserved-in-Token c =
    let begins = rw c.in-Token.is at c.in-Some.ensures in
    let took = take_several (c.parts.count + 1) c.parts.count (row_left c.args.row) (token_in_row c.in-Token.token ∷ []) (row_left c.part.new.self)
    (omega arith) c.parts.invariant.passed (sym c.parts.invariant.left ∙ begins) in
    record {
      passed = took.few;
      watch = subst (IsWatchOf c.see.new.self) (sym took.took) c.see.ensures;
      left = sym took.left;
      row = refl;
    }

pub overflow_add-behind-in-Entry : goal.overflow_add-behind-in-Entry
overflow_add-behind-in-Entry c =
    let h = entered c.parts.count (row_left c.args.row) c.in-Entry.entry (row_left c.part.new.self) _ c.parts.invariant.passed c.parts.invariant.left
    (rw c.in-Entry.is at c.in-Some.ensures) in
    omega (arith, h.front.few, c.requires)

pub see-requires-in-Entry-2-clause-watch : goal.see-requires-in-Entry-2-clause-watch
see-requires-in-Entry-2-clause-watch c =
    let h = entered c.parts.count (row_left c.args.row) c.in-Entry.entry (row_left c.part.new.self) _ c.parts.invariant.passed c.parts.invariant.left
    (rw c.in-Entry.is at c.in-Some.ensures) in
    front_passed c.see-in-Entry.new.self c.parts.count (row_left c.args.row) c.in-Entry.entry (row_left c.part.new.self) h c.see-in-Entry.ensures

pub see-requires-in-Entry-2-clause-place : goal.see-requires-in-Entry-2-clause-place
see-requires-in-Entry-2-clause-place c =
    let h = entered c.parts.count (row_left c.args.row) c.in-Entry.entry (row_left c.part.new.self) _ c.parts.invariant.passed c.parts.invariant.left
    (rw c.in-Entry.is at c.in-Some.ensures) in
    length-take-le (c.parts.count + 1 + c.in-Entry.entry.numbers) (row_left c.args.row) h.front.few

pub overflow_add-count-in-Entry : goal.overflow_add-count-in-Entry
overflow_add-count-in-Entry c =
    let h = entered c.parts.count (row_left c.args.row) c.in-Entry.entry (row_left c.part.new.self) _ c.parts.invariant.passed c.parts.invariant.left
    (rw c.in-Entry.is at c.in-Some.ensures) in
    omega (arith, h.front.few, c.requires)

pub parts-preserved : goal.parts-preserved
parts-preserved c =
    let h = entered c.parts.count (row_left c.args.row) c.in-Entry.entry (row_left c.part.new.self) _ c.parts.invariant.passed c.parts.invariant.left
    (rw c.in-Entry.is at c.in-Some.ensures) in
    record {
      passed = h.whole.few;
      watch = subst (IsWatchOf c.see-in-Entry-2.new.self) (sym h.whole.took) c.see-in-Entry-2.ensures;
      left = sym h.whole.left;
      row = refl;
    }

pub returns : goal.returns
returns c =
    c.parts.invariant.watch.faults
    ∙ ap faults_in (all_taken c.parts.count (row_left c.args.row) (ap first_in (sym c.parts.invariant.left ∙ c.in_default.ensures)))
