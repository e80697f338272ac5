-- Lines, curves, closepaths and moves in the midst of a path: what watchers keep and say of them.
use Rattle.std.proofs.Common.{◌≡◌, ℕ, suc, ◌&&◌, Bool, ℤ, pos, ◌+◌, ◌*◌, ◌^◌, ◌+ℤ◌, nat_lt, true, false, List, [], ◌∷◌, ◌++◌, length, take, slice_index_or, refl, sym, ap, ◌∙◌, subst, arith}
use Rattle.std.proofs.lemmas.Int.{ints, clamps}
use Rattle.std.proofs.Math.Bool.{and-true, or-true}
use Rattle.std.proofs.lemmas.List.{take_all}
use Rattle.std.specs.List.{list_any}
use Rattle.t1_char.specs.Arguments.{argument, is_callothersubr}
use Rattle.t1_char.specs.Editions.{has_later_rules}
use Rattle.t1_char.specs.Effects.{is_finishing}
use Rattle.t1_char.specs.Lines.{IsLed, is_line_command, is_move_command, way_by}
use Rattle.t1_char.specs.Numbers.{clamped}
use Rattle.t1_char.specs.Seacs.{is_seac}
use Rattle.t1_char.specs.Since.{any_so_far}
use Rattle.t1_char.specs.Steps.{StepView, is_callsubr, is_return}
use Rattle.t1_char.specs.declared.command.Command.{Command as Commands}
use Rattle.t1_char.specs.declared.command.Command.TheVariants.{Rlineto, Hlineto, Vlineto, Rrcurveto, Vhcurveto, Hvcurveto, Closepath, Rmoveto, Hmoveto, Vmoveto}
use Rattle.t1_char.specs.declared.edition.Edition.{Edition}
use Rattle.t1_char.specs.declared.lines.DrawnPath.TheVariants.{Nothing, Open}
use Rattle.t1_char.specs.declared.lines.Way.{Way}
use Rattle.t1_char.specs.declared.token.CharToken.TheVariants.{Command}
use Rattle.t1_rules.specs.declared.step_rules.flex.FlexWatcher.{FlexWatcher}
use Rattle.t1_rules.specs.declared.step_rules.flex.Point.{Point}
use Rattle.t1_rules.specs.declared.watches.Watches.{Watches}
use Rattle.t1_rules.specs.Private.Standing.{FlexStandsFor, WatchesStandFor}
use Rattle.t1_rules.specs.StepRules.{argument_rules, breaks, call_rules, flex_rules, othersubr_rules, path_rules, seac_rules, stem_rules, step_rules}
use Rattle.t1_rules.specs.StepRules.Arguments.{is_past}
use Rattle.t1_rules.specs.StepRules.Counters.{goes_on_counting, last_told_is}
use Rattle.t1_rules.specs.StepRules.Flex.{at, current_point, moved_by}
use Rattle.t1_rules.specs.StepRules.Stems.{is_replaced, is_replaced_and_popped, is_stem, is_triple, lies_across, stands_upright}
use Rattle.t1_rules.specs.StepRules.Paths.{in_flex, is_moved, is_open, clearing_step}
use Rattle.t1_rules.specs.StepRules.Tokens.{clears, closes, is_command, is_div, is_line, is_move, is_pop, is_setcurrentpoint, sets_point, sets_width}
use Rattle.t1_rules.specs.Steady.{IsSteady, IsUndrawn, closed_on, drawn_on, moved_on, point_on}
use Rattle.t1_rules.specs.Watches.{IsCalm, IsNear, IsWithin, reach}
use Rattle.t1_rules.proofs.Lemmas.Flex.{near_on, one_more_in_flex, plus_origin}
use Rattle.t1_rules.proofs.Lemmas.Later.{none_later, stays_later}
use Rattle.t1_rules.proofs.Lemmas.Paths.{one_more}
use Rattle.t1_rules.proofs.Lemmas.Seac.{one_more_outline}
use Rattle.t1_rules.proofs.Lemmas.Stems.{one_more_stem}

-- What a line or a curve is to the rules, or a move.
pub record IsLedToken (line move : Bool) (command : Commands) : Type 0 where
  pub line_is : is_line (Command command) ≡ line
  pub clears : clears (Command command) ≡ true
  pub sets_width : sets_width (Command command) ≡ false
  pub move_is : is_move (Command command) ≡ move
  pub closes : closes (Command command) ≡ false
  pub finishes : is_finishing (Command command) ≡ false
  pub othersubr : is_callothersubr (Command command) ≡ false
  pub calls : is_callsubr (Command command) ≡ false
  pub returns : is_return (Command command) ≡ false
  pub divides : is_div (Command command) ≡ false
  pub pops : is_pop (Command command) ≡ false
  pub sets_point : sets_point (Command command) ≡ false
  pub setcurrentpoint : is_setcurrentpoint (Command command) ≡ false
  pub across : is_command lies_across (Command command) ≡ false
  pub upright : is_command stands_upright (Command command) ≡ false
  pub triple : is_command is_triple (Command command) ≡ false
  pub stem : is_stem (Command command) ≡ false
  pub seac : is_seac (Command command) ≡ false
  pub way : (stack : List ℤ) → moved_by command stack ≡ at (way_by command stack).x (way_by command stack).y

pub line_token : (command : Commands) → is_line_command command ≡ true → IsLedToken true false command
line_token Rlineto is = record { line_is = refl; clears = refl; sets_width = refl; move_is = refl; closes = refl; finishes = refl; othersubr = refl; calls = refl; returns = refl; divides = refl; pops = refl; sets_point = refl; setcurrentpoint = refl; across = refl; upright = refl; triple = refl; stem = refl; seac = refl; way = λ stack. refl }
line_token Hlineto is = record { line_is = refl; clears = refl; sets_width = refl; move_is = refl; closes = refl; finishes = refl; othersubr = refl; calls = refl; returns = refl; divides = refl; pops = refl; sets_point = refl; setcurrentpoint = refl; across = refl; upright = refl; triple = refl; stem = refl; seac = refl; way = λ stack. refl }
line_token Vlineto is = record { line_is = refl; clears = refl; sets_width = refl; move_is = refl; closes = refl; finishes = refl; othersubr = refl; calls = refl; returns = refl; divides = refl; pops = refl; sets_point = refl; setcurrentpoint = refl; across = refl; upright = refl; triple = refl; stem = refl; seac = refl; way = λ stack. refl }
line_token Rrcurveto is = record { line_is = refl; clears = refl; sets_width = refl; move_is = refl; closes = refl; finishes = refl; othersubr = refl; calls = refl; returns = refl; divides = refl; pops = refl; sets_point = refl; setcurrentpoint = refl; across = refl; upright = refl; triple = refl; stem = refl; seac = refl; way = λ stack. refl }
line_token Vhcurveto is = record { line_is = refl; clears = refl; sets_width = refl; move_is = refl; closes = refl; finishes = refl; othersubr = refl; calls = refl; returns = refl; divides = refl; pops = refl; sets_point = refl; setcurrentpoint = refl; across = refl; upright = refl; triple = refl; stem = refl; seac = refl; way = λ stack. refl }
line_token Hvcurveto is = record { line_is = refl; clears = refl; sets_width = refl; move_is = refl; closes = refl; finishes = refl; othersubr = refl; calls = refl; returns = refl; divides = refl; pops = refl; sets_point = refl; setcurrentpoint = refl; across = refl; upright = refl; triple = refl; stem = refl; seac = refl; way = λ stack. refl }
line_token _ is = let no : false ≡ true = is in cc

pub move_token : (command : Commands) → is_move_command command ≡ true → IsLedToken false true command
move_token Rmoveto is = record { line_is = refl; clears = refl; sets_width = refl; move_is = refl; closes = refl; finishes = refl; othersubr = refl; calls = refl; returns = refl; divides = refl; pops = refl; sets_point = refl; setcurrentpoint = refl; across = refl; upright = refl; triple = refl; stem = refl; seac = refl; way = λ stack. refl }
move_token Hmoveto is = record { line_is = refl; clears = refl; sets_width = refl; move_is = refl; closes = refl; finishes = refl; othersubr = refl; calls = refl; returns = refl; divides = refl; pops = refl; sets_point = refl; setcurrentpoint = refl; across = refl; upright = refl; triple = refl; stem = refl; seac = refl; way = λ stack. refl }
move_token Vmoveto is = record { line_is = refl; clears = refl; sets_width = refl; move_is = refl; closes = refl; finishes = refl; othersubr = refl; calls = refl; returns = refl; divides = refl; pops = refl; sets_point = refl; setcurrentpoint = refl; across = refl; upright = refl; triple = refl; stem = refl; seac = refl; way = λ stack. refl }
move_token _ is = let no : false ≡ true = is in cc

-- It leads no farther than one step can.
pub kept_within : (z : ℤ) → IsWithin (2 ^ 31) (clamped z)
kept_within z = record { low = grind (arith, ints, clamps); high = grind (arith, ints, clamps) }

one_near : (n : ℕ) (p d : ℤ) → IsWithin (n * reach) p → IsWithin reach d → IsWithin ((n + 1) * reach) (p +ℤ d)
one_near n p d near more = record { low = omega (arith, ints, near.low, more.low); high = omega (arith, ints, near.high, more.high) }

within_one : (z : ℤ) → IsWithin (2 ^ 31) z → IsWithin reach z
within_one z is = record { low = omega (arith, ints, is.low); high = omega (arith, ints, is.high) }

within_two : (y z : ℤ) → IsWithin (2 ^ 31) y → IsWithin (2 ^ 31) z → IsWithin reach (y +ℤ z)
within_two y z one two = record { low = omega (arith, ints, one.low, two.low); high = omega (arith, ints, one.high, two.high) }

within_three : (x y z : ℤ) → IsWithin (2 ^ 31) x → IsWithin (2 ^ 31) y → IsWithin (2 ^ 31) z → IsWithin reach (x +ℤ y +ℤ z)
within_three x y z one two three = record {
  low = omega (arith, ints, one.low, two.low, three.low);
  high = omega (arith, ints, one.high, two.high, three.high);
}

within_none : IsWithin reach (pos 0)
within_none = record { low = omega (arith, ints); high = omega (arith, ints) }

pub argument_within : (v : List ℤ) (k : ℕ) → IsWithin (2 ^ 31) (argument v k)
argument_within v k = kept_within (slice_index_or v k (pos 0))

record IsWayWithin (way : Way) : Type 0 where
  x : IsWithin reach way.x
  y : IsWithin reach way.y

way_within : (command : Commands) → is_line_command command ≡ true → (v : List ℤ) → IsWayWithin (way_by command v)
way_within Rlineto is v = record { x = within_one (argument v 0) (argument_within v 0); y = within_one (argument v 1) (argument_within v 1) }
way_within Hlineto is v = record { x = within_one (argument v 0) (argument_within v 0); y = within_none }
way_within Vlineto is v = record { x = within_none; y = within_one (argument v 0) (argument_within v 0) }
way_within Vhcurveto is v = record { x = within_two (argument v 1) (argument v 3) (argument_within v 1) (argument_within v 3); y = within_two (argument v 0) (argument v 2) (argument_within v 0) (argument_within v 2) }
way_within Hvcurveto is v = record { x = within_two (argument v 0) (argument v 1) (argument_within v 0) (argument_within v 1); y = within_two (argument v 2) (argument v 3) (argument_within v 2) (argument_within v 3) }
way_within Rrcurveto is v = record { x = within_three (argument v 0) (argument v 2) (argument v 4) (argument_within v 0) (argument_within v 2) (argument_within v 4); y = within_three (argument v 1) (argument v 3) (argument v 5) (argument_within v 1) (argument_within v 3) (argument_within v 5) }
way_within _ is v = let no : false ≡ true = is in cc

move_within : (command : Commands) → is_move_command command ≡ true → (v : List ℤ) → IsWayWithin (way_by command v)
move_within Rmoveto is v = record { x = within_one (argument v 0) (argument_within v 0); y = within_one (argument v 1) (argument_within v 1) }
move_within Hmoveto is v = record { x = within_one (argument v 0) (argument_within v 0); y = within_none }
move_within Vmoveto is v = record { x = within_none; y = within_one (argument v 0) (argument_within v 0) }
move_within _ is v = let no : false ≡ true = is in cc

point_near : (n : ℕ) (p : Point) (way : Way) → IsWayWithin way → IsNear n p → IsNear (n + 1) (point_on p way)
point_near n p way more near =
    record { x = one_near n p.x _ near.x more.x; y = one_near n p.y _ near.y more.y }

-- It leaves the path open.
pub line_open : (command : Commands) → is_line_command command ≡ true → (v : List ℤ) → (way_by command v).drawn ≡ Open
line_open Rlineto is v = refl
line_open Hlineto is v = refl
line_open Vlineto is v = refl
line_open Rrcurveto is v = refl
line_open Vhcurveto is v = refl
line_open Hvcurveto is v = refl
line_open _ is v = let no : false ≡ true = is in cc

-- The watchers that a line leads to.
led_on : Watches → Way → Watches
led_on w way = record (drawn_on w) { flex = record w.flex { point = point_on w.flex.point way; moves = w.flex.moves + 0 } }

led_by_line : (w : Watches) (command : Commands) → is_line_command command ≡ true → (v : List ℤ)
    → led_on w (way_by command v) ≡ moved_on w (way_by command v)
unfolding led_on
led_by_line w Rlineto is v = refl
led_by_line w Hlineto is v = refl
led_by_line w Vlineto is v = refl
led_by_line w Rrcurveto is v = refl
led_by_line w Vhcurveto is v = refl
led_by_line w Hvcurveto is v = refl
led_by_line w _ is v = let no : false ≡ true = is in cc

stays_led : (edition : Edition) (w : Watches) (before : List StepView) (t : StepView) (command : Commands) → t.token ≡ Command command
    → is_line_command command ≡ true → IsCalm w → IsSteady w → WatchesStandFor edition w before
    → WatchesStandFor edition (led_on w (way_by command t.stack)) (before ++ t ∷ [])
unfolding WatchesStandFor led_on
stays_led edition w before t command is line calm steady st =
    let f : IsLedToken true false command = line_token command line in
    let no_more : w.flex.moves + 0 ≡ w.flex.moves = omega arith in (
      one_more w.paths (drawn_on w).paths before t st.0
          (rw (is, f.clears, steady.begun) refl)
          (rw (is, f.othersubr, steady.path_flex) refl)
          (rw (is, f.move_is, f.closes, steady.moved) refl)
          (rw (is, f.line_is) refl),
      (
        one_more_stem edition w.stems (drawn_on w).stems before t st.1.0 refl
            (rw (is, f.othersubr, f.across) refl)
            (rw (is, f.othersubr, f.upright) refl)
            (rw (is, f.othersubr, steady.stem_flex) refl)
            (rw (is, f.line_is) refl)
            (rw (is, f.othersubr, calm.replaced) refl)
            (rw (is, f.pops, calm.hints_popped) refl),
        (
          one_more_in_flex w.flex (led_on w (way_by command t.stack)).flex before t st.1.1.0
              (rw (is, f.othersubr, steady.flex) refl)
              (rw (is, f.othersubr, f.move_is) no_more)
              (rw (is, f.othersubr) refl)
              (rw (is, f.sets_point, f.way t.stack) refl)
              (rw (is, f.othersubr, calm.ended) refl)
              (rw (is, f.pops, calm.popped) refl)
              (rw (is, f.pops, calm.popped_twice) refl)
              (point_near (length before) w.flex.point (way_by command t.stack) (way_within command line t.stack) st.1.1.0.near),
          (
            one_more_outline w.seac (drawn_on w).seac before t st.1.1.1.0
                (rw (is, f.othersubr, steady.seac_flex) refl)
                (rw (is, f.move_is, f.line_is) (sym (or-true w.seac.outlined))),
            stays_later edition w before t (rw is f.stem) (rw is f.othersubr) (rw is f.clears) (rw is f.sets_width) (sym st.0.begun ∙ steady.begun)
                steady.opened steady.going_on st.1.1.1.1,
          ),
        ),
      ),
    )

-- What is kept after a line in the midst of a path.
pub stays_at_line : (edition : Edition) (w : Watches) (before : List StepView) (t : StepView) (command : Commands) → t.token ≡ Command command
    → is_line_command command ≡ true → IsCalm w → IsSteady w → WatchesStandFor edition w before
    → WatchesStandFor edition (moved_on w (way_by command t.stack)) (before ++ t ∷ [])
stays_at_line edition w before t command is line calm steady st =
    subst (λ (v : Watches). WatchesStandFor edition v (before ++ t ∷ [])) (led_by_line w command line t.stack)
    (stays_led edition w before t command is line calm steady st)

-- The same by where the current point is after it.
pub stays_at_stroke : (edition : Edition) (w : Watches) (before : List StepView) (t : StepView) (command : Commands) (end : Point) → t.token ≡ Command command
    → is_line_command command ≡ true → IsCalm w → IsSteady w → current_point (before ++ t ∷ []) ≡ end → WatchesStandFor edition w before
    → WatchesStandFor edition (record (drawn_on w) { flex = record w.flex { point = end } }) (before ++ t ∷ [])
unfolding WatchesStandFor led_on
stays_at_stroke edition w before t command end is line calm steady there st =
    let led = stays_led edition w before t command is line calm steady st in
    let no_more : w.flex.moves + 0 ≡ w.flex.moves = omega arith in
    let way : Way = way_by command t.stack in
    let same : (record w.flex { point = point_on w.flex.point way; moves = w.flex.moves + 0 }) ≡ (record w.flex { point = end }) =
    ap (λ moves. record w.flex { point = point_on w.flex.point way; moves = moves }) no_more
    ∙ ap (λ point. record w.flex { point = point }) (led.1.1.0.point ∙ there) in
    (led.0, (led.1.0, (subst (λ (f : FlexWatcher). FlexStandsFor f (before ++ t ∷ [])) same led.1.1.0, led.1.1.1)))

-- The watchers that a move leads to.
led_to : Watches → Way → Watches
led_to w way = record w { flex = record w.flex { point = point_on w.flex.point way; moves = w.flex.moves + 1 } }

led_by_move : (w : Watches) (command : Commands) → is_move_command command ≡ true → (v : List ℤ)
    → led_to w (way_by command v) ≡ moved_on w (way_by command v)
unfolding led_to
led_by_move w Rmoveto is v = refl
led_by_move w Hmoveto is v = refl
led_by_move w Vmoveto is v = refl
led_by_move w _ is v = let no : false ≡ true = is in cc

-- It draws nothing.
pub move_undrawn : (command : Commands) → is_move_command command ≡ true → (v : List ℤ) → (way_by command v).drawn ≡ Nothing
move_undrawn Rmoveto is v = refl
move_undrawn Hmoveto is v = refl
move_undrawn Vmoveto is v = refl
move_undrawn _ is v = let no : false ≡ true = is in cc

stays_led_to : (edition : Edition) (w : Watches) (before : List StepView) (t : StepView) (command : Commands) → t.token ≡ Command command
    → is_move_command command ≡ true → IsCalm w → IsSteady w → IsUndrawn w → WatchesStandFor edition w before
    → WatchesStandFor edition (led_to w (way_by command t.stack)) (before ++ t ∷ [])
unfolding WatchesStandFor led_to
stays_led_to edition w before t command is move calm steady undrawn st =
    let f : IsLedToken false true command = move_token command move in
    let one_more_move : w.flex.moves + 1 ≡ suc w.flex.moves = omega arith in (
      one_more w.paths w.paths before t st.0
          (rw (is, f.clears, steady.begun) refl)
          (rw (is, f.othersubr, steady.path_flex) refl)
          (rw (is, f.move_is, steady.path_flex, steady.moved) refl)
          (rw (is, f.line_is, f.othersubr, undrawn.drawn) refl),
      (
        one_more_stem edition w.stems w.stems before t st.1.0 refl
            (rw (is, f.othersubr, f.across) refl)
            (rw (is, f.othersubr, f.upright) refl)
            (rw (is, f.othersubr, steady.stem_flex) refl)
            (rw (is, f.line_is, f.othersubr) (sym (and-true w.stems.drawn)))
            (rw (is, f.othersubr, calm.replaced) refl)
            (rw (is, f.pops, calm.hints_popped) refl),
        (
          one_more_in_flex w.flex (led_to w (way_by command t.stack)).flex before t st.1.1.0
              (rw (is, f.othersubr, steady.flex) refl)
              (rw (is, f.othersubr, f.move_is) one_more_move)
              (rw (is, f.othersubr) refl)
              (rw (is, f.sets_point, f.way t.stack) refl)
              (rw (is, f.othersubr, calm.ended) refl)
              (rw (is, f.pops, calm.popped) refl)
              (rw (is, f.pops, calm.popped_twice) refl)
              (point_near (length before) w.flex.point (way_by command t.stack) (move_within command move t.stack) st.1.1.0.near),
          (
            one_more_outline w.seac w.seac before t st.1.1.1.0
                (rw (is, f.othersubr, steady.seac_flex) refl)
                (rw (is, undrawn.outlined) refl),
            stays_later edition w before t (rw is f.stem) (rw is f.othersubr) (rw is f.clears) (rw is f.sets_width) (sym st.0.begun ∙ steady.begun)
                steady.opened steady.going_on st.1.1.1.1,
          ),
        ),
      ),
    )

-- What is kept after a move, where nothing is drawn.
pub stays_at_move : (edition : Edition) (w : Watches) (before : List StepView) (t : StepView) (command : Commands) → t.token ≡ Command command
    → is_move_command command ≡ true → IsCalm w → IsSteady w → IsUndrawn w → WatchesStandFor edition w before
    → WatchesStandFor edition (moved_on w (way_by command t.stack)) (before ++ t ∷ [])
stays_at_move edition w before t command is move calm steady undrawn st =
    subst (λ (v : Watches). WatchesStandFor edition v (before ++ t ∷ [])) (led_by_move w command move t.stack)
    (stays_led_to edition w before t command is move calm steady undrawn st)

-- What is kept after a closepath, where something is drawn.
pub record IsDrawn (w : Watches) : Type 0 where
  pub path : w.paths.drawn ≡ true
  pub stems : w.stems.drawn ≡ true
  pub outlined : w.seac.outlined ≡ true

pub stays_at_close : (edition : Edition) (w : Watches) (before : List StepView) (t : StepView) → t.token ≡ Command Closepath
    → IsCalm w → IsSteady w → IsDrawn w → WatchesStandFor edition w before → WatchesStandFor edition (closed_on w) (before ++ t ∷ [])
unfolding WatchesStandFor
stays_at_close edition w before t is calm steady drawn st = (
  one_more w.paths (closed_on w).paths before t st.0
      (rw (is, steady.begun) refl)
      (rw (is, steady.path_flex) refl)
      (rw (is, steady.moved) refl)
      (rw (is, drawn.path) refl),
  (
    one_more_stem edition w.stems w.stems before t st.1.0 refl
        (rw (is) refl)
        (rw (is) refl)
        (rw (is, steady.stem_flex) refl)
        (rw (is, drawn.stems) refl)
        (rw (is, calm.replaced) refl)
        (rw (is, calm.hints_popped) refl),
    (
      one_more_in_flex w.flex w.flex before t st.1.1.0
          (rw (is, steady.flex) refl)
          (rw (is) refl)
          (rw (is) refl)
          (rw (is) (sym (plus_origin w.flex.point)))
          (rw (is, calm.ended) refl)
          (rw (is, calm.popped) refl)
          (rw (is, calm.popped_twice) refl)
          (near_on (length before) w.flex.point st.1.1.0.near),
      (
        one_more_outline w.seac w.seac before t st.1.1.1.0
            (rw (is, steady.seac_flex) refl)
            (rw (is, drawn.outlined) refl),
        stays_later edition w before t (rw is refl) (rw is refl) (rw is refl) (rw is refl) (sym st.0.begun ∙ steady.begun)
            steady.opened steady.going_on st.1.1.1.1,
      ),
    ),
  ),
)

pub no_fault_at_close : (edition : Edition) (n : ℕ) (before : List StepView) (t : StepView) → t.token ≡ Command Closepath → t.stack ≡ []
    → is_replaced before ≡ false → is_replaced_and_popped before ≡ false → any_so_far clearing_step before ≡ true
    → in_flex before ≡ false → is_open before ≡ true → (has_later_rules edition && last_told_is goes_on_counting before) ≡ false → breaks (step_rules edition) n before t ≡ false
unfolding step_rules argument_rules call_rules path_rules stem_rules flex_rules othersubr_rules seac_rules
no_fault_at_close edition n before t is alone replaced popped begun outside drawn ended =
    rw (is, alone, replaced, popped, begun, outside, drawn) (none_later edition before t (rw is refl) (rw is refl) (rw is ended) n)

-- Nor is a rule broken.
pub no_fault_at_line : (edition : Edition) (n : ℕ) (before : List StepView) (t : StepView) (command : Commands) → t.token ≡ Command command
    → IsLed is_line_command command t.stack → is_replaced before ≡ false → is_replaced_and_popped before ≡ false → any_so_far clearing_step before ≡ true
    → in_flex before ≡ false → is_moved before ≡ true → (has_later_rules edition && last_told_is goes_on_counting before) ≡ false → breaks (step_rules edition) n before t ≡ false
unfolding step_rules argument_rules call_rules path_rules stem_rules flex_rules othersubr_rules seac_rules
no_fault_at_line edition n before t command is line replaced popped begun outside moved ended =
    let f : IsLedToken true false command = line_token command line.led in
    let none : nat_lt (length t.stack) (length t.stack) ≡ false = grind arith in
    let all : take (length t.stack) t.stack ≡ t.stack = take_all (length t.stack) t.stack (omega arith) in
    let past : list_any is_past t.stack ≡ false = line.near in
    rw (
      is,
      line.count,
      none,
      all,
      past,
      f.line_is,
      f.sets_width,
      f.move_is,
      f.closes,
      f.finishes,
      f.othersubr,
      f.calls,
      f.returns,
      f.divides,
      f.pops,
      f.setcurrentpoint,
      f.across,
      f.upright,
      f.triple,
      f.seac,
      replaced,
      popped,
      begun,
      outside,
      moved,
    ) (none_later edition before t (rw is f.stem) (rw is f.othersubr) (rw (is, f.clears) ended) n)

pub no_fault_at_move : (edition : Edition) (n : ℕ) (before : List StepView) (t : StepView) (command : Commands) → t.token ≡ Command command
    → IsLed is_move_command command t.stack → is_replaced before ≡ false → is_replaced_and_popped before ≡ false
    → any_so_far clearing_step before ≡ true → in_flex before ≡ false → is_open before ≡ false → (has_later_rules edition && last_told_is goes_on_counting before) ≡ false
    → breaks (step_rules edition) n before t ≡ false
unfolding step_rules argument_rules call_rules path_rules stem_rules flex_rules othersubr_rules seac_rules
no_fault_at_move edition n before t command is move replaced popped begun outside undrawn ended =
    let f : IsLedToken false true command = move_token command move.led in
    let none : nat_lt (length t.stack) (length t.stack) ≡ false = grind arith in
    let all : take (length t.stack) t.stack ≡ t.stack = take_all (length t.stack) t.stack (omega arith) in
    let past : list_any is_past t.stack ≡ false = move.near in
    rw (
      is,
      move.count,
      none,
      all,
      past,
      f.line_is,
      f.sets_width,
      f.move_is,
      f.closes,
      f.finishes,
      f.othersubr,
      f.calls,
      f.returns,
      f.divides,
      f.pops,
      f.setcurrentpoint,
      f.across,
      f.upright,
      f.triple,
      f.seac,
      replaced,
      popped,
      begun,
      outside,
      undrawn,
    ) (none_later edition before t (rw is f.stem) (rw is f.othersubr) (rw (is, f.clears) ended) n)

-- What watchers that match the steps know of these is what the rules ask.
pub none_at_line : (edition : Edition) (before : List StepView) (w : Watches) (n : ℕ) (step : StepView) (command : Commands)
    → step.token ≡ Command command → IsLed is_line_command command step.stack → IsCalm w → IsSteady w → WatchesStandFor edition w before
    → breaks (step_rules edition) n before step ≡ false
unfolding WatchesStandFor
none_at_line edition before w n step command token line calm steady st =
    no_fault_at_line edition n before step command token line (sym st.1.0.replaced ∙ calm.replaced) (sym st.1.0.popped ∙ calm.hints_popped)
    (sym st.0.begun ∙ steady.begun) (sym st.0.in_flex ∙ steady.path_flex) (sym st.0.moved ∙ steady.moved)
    (sym st.1.1.1.1.1.going_on ∙ steady.going_on)

pub line_is : (command : Commands) → is_line (Command command) ≡ true → is_line_command command ≡ true
line_is Rlineto is = refl
line_is Hlineto is = refl
line_is Vlineto is = refl
line_is Rrcurveto is = refl
line_is Vhcurveto is = refl
line_is Hvcurveto is = refl
line_is _ is = let no : false ≡ true = is in cc
