use Rattle.std.proofs.Common.{append-nil, arith, ap, if◌then◌else◌, [], ◌++◌, refl, sym, ◌∙◌}
use Rattle.t1_font.specs.declared.row.Role.TheVariants.{Other}
use Rattle.t1_font.specs.Rows.{row_of}
use Rattle.t1_font.proofs.RowsLeft.{last_turn, no_turn, some_bytes, turn_left, turn_shorter, turned}
use Rattle.t1_font.proofs.row.Row.turn.Goals as goal

pub returns-then-self : goal.returns-then-self
returns-then-self c = (refl, turned _ _ _ _ _ _ c.requires.0 c.requires.1 ∙ rw c.if-self.true refl)

pub returns-in_default : goal.returns-in_default
returns-in_default c = (refl, turned _ _ _ _ _ _ c.requires.0 c.requires.1 ∙ rw c.if-self.false (no_turn _ _ _ c.in_default.ensures.turn))

pub returns-in-Over : goal.returns-in-Over
returns-in-Over c =
    let turn = rw c.in-Over.is at c.in-Ok.ensures.turn in (
      append-nil _ ∙ c.first_before-self.ensures Other _
          ∙ sym (turned _ _ _ _ _ _ c.requires.0 c.requires.1 ∙ rw c.if-self.false (last_turn _ _ _ turn)),
      rw c.if-self.false (omega arith),
    )

pub returns-in-Goes : goal.returns-in-Goes
returns-in-Goes c =
    let turn = rw c.in-Goes.is at c.in-Ok.ensures.turn in
    let less = turn_shorter _ _ _ _ _ turn in (
      ap (λ ts. ts ++ (if c.args.self.now.is_over then [] else row_of c.in-Goes.next c.in-Goes.rest.now))
          (c.first_before-self-in-Goes.ensures c.role_of-self.result c.is_some-self.result)
          ∙ rw (c.left_behind-self.ensures, c.role_of-self.ensures, c.is_some-self.ensures, some_bytes c.charstring_of-charstring.result, c.if-self.false)
          (turn_left _ _ _ _ _ _ turn c.charstring_of-charstring.ensures ∙ sym (turned _ _ _ _ _ _ c.requires.0 c.requires.1)),
      rw c.if-self.false (omega (arith, less)),
    )
