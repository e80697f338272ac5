-- What a token does. Type 1 Font Format 1.1, chapter 6 (the commands) and chapter 8 (OtherSubrs); what
-- is done where a charstring is faulty is this project's own.
use Rattle.std.specs.Prelude.{ℕ, ℤ, ◌-◌, ◌==◌, ◌||◌, ◌&&◌, nat_lt, nat_le, if◌then◌else◌, Bool, true, false, Option, Some, None, List, [], ◌∷◌, ◌++◌, length, drop}
use Rattle.t1_char.specs.declared.command.Command.{Command as Commands}
use Rattle.t1_char.specs.declared.command.Command.TheVariants.{Endchar, Seac, Div, Callsubr, Return, Callothersubr, Pop}
use Rattle.t1_char.specs.declared.token.CharToken.{CharToken}
use Rattle.t1_char.specs.declared.token.CharToken.TheVariants.{Number, Command, Unknown, Unknown12, Cut, Short, End}
use Rattle.t1_char.specs.Numbers.{units, quotient, natural}
use Rattle.t1_char.specs.Stacks.{most_numbers, put, from_top, without, topmost}

-- What a run holds: the numbers on the stack, bottom first, and the results of the last call of an
-- OtherSubr that wait for pop, first result first.
pub record State : Type 0 where
  pub stack : List ℤ
  pub waiting : List ℤ

abbrev pub state_of : List ℤ → List ℤ → State
state_of stack waiting = record { stack = stack; waiting = waiting }

-- A Subr that is called: its number and its charstring.
pub record CalledSubr : Type 0 where
  pub number : ℕ
  pub code : List ℕ

-- How the run goes on: with the next token; with a Subr's tokens; back in the caller; not at all.
pub data Action : Type 0 where
  goes : Action
  calls : ℕ → List ℕ → Action
  returns : Action
  finishes : Action

pub record Effect : Type 0 where
  pub state : State
  pub action : Action

-- The most calls that are open at a time.
abbrev pub most_calls : ℕ
most_calls = 10

-- The most results of an OtherSubr: a full stack but for its count and number.
abbrev pub most_results : ℕ
most_results = most_numbers - 2

-- What the commands do: seven things.
pub data Work : Type 0 where
  clears : Work
  finishes_glyph : Work
  divides : Work
  calls_subr : Work
  returns_back : Work
  calls_othersubr : Work
  pops : Work

abbrev pub work_of : Commands → Work
work_of Endchar = finishes_glyph
work_of Seac = finishes_glyph
work_of Div = divides
work_of Callsubr = calls_subr
work_of Return = returns_back
work_of Callothersubr = calls_othersubr
work_of Pop = pops
work_of _ = clears

-- What finishes the glyph at any depth: endchar and seac.
abbrev pub does_finish : Work → Bool
does_finish finishes_glyph = true
does_finish _ = false

abbrev pub is_finishing : CharToken → Bool
is_finishing (Command command) = does_finish (work_of command)
is_finishing _ = false

-- div: the two topmost become their quotient.
abbrev pub divided : List ℤ → List ℤ
divided stack =
    if nat_lt (length stack) 2 then stack
    else without 2 stack ++ quotient (from_top stack 1) (from_top stack 0) ∷ []

-- callsubr: a Subr that is there is called, unless ten calls are open.
abbrev pub call_of : Option CalledSubr → ℕ → Action
call_of None depth = goes
call_of (Some subr) depth = if nat_lt depth most_calls then calls subr.number subr.code else goes

-- Back in the caller; of the glyph's own tokens, return goes on and the end finishes.
abbrev pub back_or : Action → ℕ → Action
back_or otherwise depth = if nat_lt 0 depth then returns else otherwise

-- The results of an OtherSubr: 12 and 13 have none; 0, the end of a flex, has the end point of its
-- three arguments; every other has its arguments.
abbrev pub results : Option ℕ → List ℤ → List ℤ
results None arguments = arguments
results (Some other) arguments =
    if other == 12 || other == 13 then []
    else (if other == 0 && length arguments == 3 then drop 1 arguments else arguments)

-- callothersubr, without its count and number: a good count of arguments is taken.
abbrev pub handed_over : Option ℕ → Option ℕ → State → State
handed_over other None s = s
handed_over other (Some count) s =
    if nat_le count (length s.stack)
    then record { stack = without count s.stack; waiting = results other (topmost count s.stack) }
    else s

abbrev pub after_othersubr : State → State
after_othersubr s =
    if nat_lt (length s.stack) 2 then s
    else handed_over (natural (from_top s.stack 0)) (natural (from_top s.stack 1))
    (record s { stack = without 2 s.stack })

-- pop: the first result that waits.
abbrev pub popped : List ℤ → List ℤ → State
popped stack [] = record { stack = stack; waiting = [] }
popped stack (z ∷ waiting) = record { stack = put stack z; waiting = waiting }

abbrev pub effect : State → Action → Effect
effect s action = record { state = s; action = action }

abbrev pub working : Work → Option CalledSubr → ℕ → State → Effect
working clears named depth s = effect (record s { stack = [] }) goes
working finishes_glyph named depth s = effect (record s { stack = [] }) finishes
working divides named depth s = effect (record s { stack = divided s.stack }) goes
working calls_subr named depth s = effect (record s { stack = without 1 s.stack }) (call_of named depth)
working returns_back named depth s = effect s (back_or goes depth)
working calls_othersubr named depth s = effect (after_othersubr s) goes
working pops named depth s = effect (popped s.stack s.waiting) goes

-- What a token does, where named is the Subr that the top of the stack names, and depth is how many
-- calls are open.
abbrev pub effect_of : CharToken → Option CalledSubr → ℕ → State → Effect
effect_of (Number z) named depth s = effect (record s { stack = put s.stack (units z) }) goes
effect_of (Command command) named depth s = working (work_of command) named depth s
effect_of (Unknown _) named depth s = effect (record s { stack = [] }) goes
effect_of (Unknown12 _) named depth s = effect (record s { stack = [] }) goes
effect_of Cut named depth s = effect s goes
effect_of Short named depth s = effect s goes
effect_of End named depth s = effect s (back_or finishes depth)
