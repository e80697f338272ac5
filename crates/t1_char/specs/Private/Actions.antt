-- What the code's actions, works and Subrs say.
use Rattle.std.specs.Prelude.{ℕ, ◌<◌, Option, Some, None}
use Rattle.t1_char.specs.declared.subr.Subr.{Subr}
use Rattle.t1_char.specs.declared.action.Action.{Action as Actions}
use Rattle.t1_char.specs.declared.action.Action.TheVariants.{Goes, Calls, Returns, Finishes}
use Rattle.t1_char.specs.declared.action.Work.{Work as Works}
use Rattle.t1_char.specs.declared.action.Work.TheVariants.{Clears, FinishesGlyph, Divides, CallsSubr, ReturnsBack, CallsOthersubr, Pops}
use Rattle.t1_char.specs.Effects.{CalledSubr, Action, goes, calls, returns, finishes, Work, clears, finishes_glyph, divides, calls_subr, returns_back, calls_othersubr, pops, most_calls}

abbrev pub named_of : Option Subr → Option CalledSubr
named_of None = None
named_of (Some subr) = Some (record { number = subr.number; code = subr.code.now })

abbrev pub action_of : Actions → Action
action_of Goes = goes
action_of (Calls subr) = calls subr.number subr.code.now
action_of Returns = returns
action_of Finishes = finishes

abbrev pub work_view : Works → Work
work_view Clears = clears
work_view FinishesGlyph = finishes_glyph
work_view Divides = divides
work_view CallsSubr = calls_subr
work_view ReturnsBack = returns_back
work_view CallsOthersubr = calls_othersubr
work_view Pops = pops

-- A call is made at a depth below ten, and a return at one above 0.
abbrev pub IsNested : ℕ → Action → Type 0
IsNested depth goes = Unit {0}
IsNested depth (calls number code) = depth < most_calls
IsNested depth returns = 0 < depth
IsNested depth finishes = Unit {0}
