-- Numbers, and lines or moves, that are taken one after another.
-- A line or a move leaves the stack empty, so each begins as the first did; what was taken is one row, and a piece more makes it longer.
use Rattle.std.proofs.Common.{◌≡◌, inl, inr, ℕ, zero, suc, ℤ, ◌+◌, ◌-◌, ◌<◌, ◌≤◌, ◌||◌, true, false, Option, Some, None, IfSome, if◌then◌else◌, List, [], ◌∷◌, length, take, length-take, refl, sym, ap, subst, ◌∙◌, arith}
use Rattle.std.proofs.lemmas.Bool.{or_cases}
use Rattle.std.proofs.lemmas.Int.{ints}
use Rattle.std.proofs.Math.Bool.{or-true}
use Rattle.t1_char.specs.declared.command.Command.{Command as Commands}
use Rattle.t1_char.specs.declared.command.Command.TheVariants.{Rlineto, Hlineto, Vlineto, Rrcurveto, Vhcurveto, Hvcurveto, Closepath, Rmoveto, Hmoveto, Vmoveto}
use Rattle.t1_char.specs.declared.cursor.Cursor.{Cursor}
use Rattle.t1_char.specs.declared.cursor.Ahead.{Ahead}
use Rattle.t1_char.specs.declared.lines.DrawnPath.{DrawnPath}
use Rattle.t1_char.specs.declared.lines.DrawnPath.TheVariants.{Nothing, Open, Closed}
use Rattle.t1_char.specs.declared.token.CharToken.{CharToken}
use Rattle.t1_char.specs.declared.lines.Passing.{Passing}
use Rattle.t1_char.specs.declared.lines.Passing.TheVariants as passing
use Rattle.t1_char.specs.declared.lines.Way.{Way}
use Rattle.t1_char.specs.declared.taking.Lines.{Lines}
use Rattle.t1_char.specs.declared.taking.Stop.{Stop}
use Rattle.t1_char.specs.declared.token.CharToken.TheVariants.{Command, Short}
use Rattle.t1_char.specs.Lines.{ClosesPath, IsWayNear, can_follow, drawn_after, further, is_closed, is_led, is_line_command, is_move_command, leads, no_way, way_by}
use Rattle.t1_char.specs.Stacks.{most_numbers}
use Rattle.t1_char.specs.Tokens.{more_of, token_at, tokens_behind, tokens_of}
use Rattle.t1_char.specs.Private.Cursors.{AtFirst, bytes_left, cursor_of, tokens_left}
use Rattle.t1_char.specs.Private.Plain.{IsPlainEffect}
use Rattle.t1_char.specs.Private.Taking.{Finishes, IsLedAfter, IsLedBy, IsLedFirst, IsTakingLines, PassesCommand, PassesNumbers, PassesOne, PassesRow, StopsAt, Takes, TakesLines, closepath_byte, left_of, lines_cursor, stop_cursor}

near_none : IsWayNear 0 no_way
near_none = record {
  x = record { low = omega (arith, ints); high = omega (arith, ints) };
  y = record { low = omega (arith, ints); high = omega (arith, ints) };
}

pub path_none : (what : Passing) (room : ℕ) (ahead : Ahead) → most_numbers < room
    → IsTakingLines what room ahead [] [] 0 (cursor_of ahead) no_way × (0 + most_numbers < room)
path_none what room ahead enough = (
  record { passes = (refl, (refl, refl)); near = near_none; room_is = omega arith; short = refl; unclosed = refl; few = omega arith },
  omega (arith, enough),
)

pub row_numbers : (what : Passing) (n k : ℕ) (a m b : Cursor) (s t u : List ℤ) (way : Way) → PassesRow what n a m s t way → PassesNumbers k m b t u
    → PassesRow what (n + k) a b s u way
row_numbers what n zero a m b s t u way row passes =
    let same : n ≡ n + 0 = omega arith in
    subst (λ i. PassesRow what i a b s u way) same
    (subst (λ x. PassesRow what n a x s u way) (sym passes.0)
    (subst (λ x. PassesRow what n a m s x way) (sym passes.1) row))
row_numbers what n (suc k) a m b s t u way row passes =
    let so_far : PassesRow what (n + k) a passes.0 s passes.1.0 way = row_numbers what n k a m passes.0 s t passes.1.0 way row passes.1.1.0 in
    let one : PassesOne what passes.0 b passes.1.0 u way way = inl (passes.1.1.1, refl) in
    let same : suc (n + k) ≡ n + suc k = omega arith in
    subst (λ i. PassesRow what i a b s u way) same (row_one what (n + k) a passes.0 b s passes.1.0 u way way so_far one)
  where
    row_one : (what : Passing) (n : ℕ) (a m b : Cursor) (s t u : List ℤ) (before way : Way) → PassesRow what n a m s t before
        → PassesOne what m b t u before way → PassesRow what (suc n) a b s u way
    row_one what n a m b s t u before way row one = (m, (t, (before, (row, one))))

near_more : (n k : ℕ) (way : Way) → IsWayNear n way → IsWayNear (n + k) way
near_more n k way near = record {
  x = record { low = omega (arith, ints, near.x.low); high = omega (arith, ints, near.x.high) };
  y = record { low = omega (arith, ints, near.y.low); high = omega (arith, ints, near.y.high) };
}

pub path_numbers : (what : Passing) (room : ℕ) (ahead left : Ahead) (new : List ℤ) (passed : ℕ) (way : Way) (stop : Stop)
    → IsTakingLines what room ahead [] [] passed (cursor_of left) way → passed + most_numbers < room → (takes : Takes left [] new stop)
    → stop.len ≡ length new → stop.len ≤ most_numbers → IsTakingLines what room ahead [] new (passed + stop.len) takes.before way
path_numbers what room ahead left new passed way stop so_far enough takes is few =
    let count : takes.count ≡ stop.len = omega (arith, takes.more, is) in
    record {
      passes = subst (λ k. PassesRow what (passed + k) (cursor_of ahead) takes.before [] new way) count
          (row_numbers what passed takes.count (cursor_of ahead) (cursor_of left) takes.before [] [] new way so_far.passes takes.passes);
      near = near_more passed stop.len way so_far.near;
      room_is = omega (arith, enough, few);
      short = takes.near refl;
      unclosed = so_far.unclosed;
      few = omega (arith, so_far.few);
    }

-- A line empties the stack, and so does a move.
line_effect : (command : Commands) → is_line_command command ≡ true → (old : List ℤ) → IsPlainEffect (Command command) old []
line_effect Rlineto is old = λ named depth waiting. refl
line_effect Hlineto is old = λ named depth waiting. refl
line_effect Vlineto is old = λ named depth waiting. refl
line_effect Rrcurveto is old = λ named depth waiting. refl
line_effect Vhcurveto is old = λ named depth waiting. refl
line_effect Hvcurveto is old = λ named depth waiting. refl
line_effect _ is old = let no : false ≡ true = is in cc

move_effect : (command : Commands) → is_move_command command ≡ true → (old : List ℤ) → IsPlainEffect (Command command) old []
move_effect Rmoveto is old = λ named depth waiting. refl
move_effect Hmoveto is old = λ named depth waiting. refl
move_effect Vmoveto is old = λ named depth waiting. refl
move_effect _ is old = let no : false ≡ true = is in cc

led_effect : (what : Passing) (command : Commands) → is_led what command ≡ true → (old : List ℤ) → IsPlainEffect (Command command) old []
led_effect passing.Lines command is old = line_effect command is old
led_effect passing.Moves command is old =
    elim (or_cases (is_line_command command) (is_move_command command) is) [
      | inl line ↦ line_effect command line old
      | inr move ↦ move_effect command move old
    ]
led_effect passing.Returned command is old = let no : false ≡ true = is in cc
led_effect passing.Numbers command is old = let no : false ≡ true = is in cc

-- It closes no path.
not_closed : (command : Commands) (v : List ℤ) (drawn : DrawnPath) → is_closed drawn ≡ false → is_closed (drawn_after drawn (way_by command v).drawn) ≡ false
not_closed Rlineto v drawn unclosed = refl
not_closed Hlineto v drawn unclosed = refl
not_closed Vlineto v drawn unclosed = refl
not_closed Rrcurveto v drawn unclosed = refl
not_closed Vhcurveto v drawn unclosed = refl
not_closed Hvcurveto v drawn unclosed = refl
not_closed Rmoveto v drawn unclosed = unclosed
not_closed Hmoveto v drawn unclosed = unclosed
not_closed Vmoveto v drawn unclosed = unclosed
not_closed _ v drawn unclosed = unclosed

-- A line can come where the path isn't closed, and a move where nothing is drawn.
line_led : (what : Passing) → leads what ≡ true → (command : Commands) → is_line_command command ≡ true → is_led what command ≡ true
line_led passing.Lines on command is = is
line_led passing.Moves on command is = ap (λ b. b || is_move_command command) is
line_led passing.Returned on command is = let no : false ≡ true = on in cc
line_led passing.Numbers on command is = let no : false ≡ true = on in cc

line_follows : (command : Commands) (drawn : DrawnPath) → is_line_command command ≡ true → is_closed drawn ≡ false → can_follow command drawn ≡ true
line_follows command Nothing is unclosed = refl
line_follows command Open is unclosed = is
line_follows command Closed is unclosed = let no : true ≡ false = unclosed in cc

line_after : (what : Passing) (drawn : DrawnPath) (token : CharToken) (numbers : List ℤ) (way : Way) → leads what ≡ true → is_closed drawn ≡ false
    → IsLedBy is_line_command token numbers way → IsLedAfter what drawn token numbers way
line_after what drawn token numbers way on unclosed line = record {
  by = record {
    command = line.command;
    token_is = line.token_is;
    is = record { led = line_led what on line.command line.is.led; count = line.is.count; near = line.is.near };
    way_is = line.way_is;
  };
  from = line_follows line.command drawn line.is.led unclosed;
}

pub line_first : (what : Passing) (drawn : DrawnPath) (first : ℕ) (numbers : List ℤ) (one : Option Way) → leads what ≡ true → is_closed drawn ≡ false
    → IfSome one (λ way. (rest : List ℕ) → IsLedBy is_line_command (token_at first rest) numbers way) → IfSome one (λ way. more_of first ≡ 0)
    → IfSome one (λ way. IsLedFirst what drawn (Some first) numbers way)
line_first what drawn first numbers None on unclosed line more = tt
line_first what drawn first numbers (Some way) on unclosed line more =
    (λ rest. line_after what drawn (token_at first rest) numbers way on unclosed (line rest), more)

pub move_after : (what : Passing) (drawn : DrawnPath) (token : CharToken) (numbers : List ℤ) (way : Way) → what ≡ passing.Moves → drawn ≡ Nothing
    → IsLedBy is_move_command token numbers way → IsLedAfter what drawn token numbers way
move_after what drawn token numbers way on none move =
    subst (λ w. IsLedAfter w drawn token numbers way) (sym on)
    (subst (λ d. IsLedAfter passing.Moves d token numbers way) (sym none)
    (record {
      by = record {
        command = move.command;
        token_is = move.token_is;
        is = record { led = ap (λ b. is_line_command move.command || b) move.is.led ∙ or-true (is_line_command move.command); count = move.is.count; near = move.is.near };
        way_is = move.way_is;
      };
      from = refl;
    }))

-- The token of a first byte that alone writes it.
first_token : (first : ℕ) (before ahead : Cursor) → AtFirst first before ahead → more_of first ≡ 0
    → tokens_left before ≡ token_at first (bytes_left ahead) ∷ tokens_left ahead
unfolding tokens_behind
first_token first before ahead at none =
    ap (λ b. if b then Short ∷ tokens_of (bytes_left before) else tokens_of (bytes_left before)) at.before_short
    ∙ ap tokens_of at.bytes
    ∙ ap (λ n. token_at first (bytes_left ahead) ∷ tokens_behind n (bytes_left ahead)) none
    ∙ ap (λ b. token_at first (bytes_left ahead) ∷ (if b then Short ∷ tokens_of (bytes_left ahead) else tokens_of (bytes_left ahead))) (sym at.behind_short)

led_read : (what : Passing) (first : Option ℕ) (before ahead : Cursor) (numbers : List ℤ) (so_far one way : Way) → StopsAt first before ahead
    → IsLedFirst what so_far.drawn first numbers one → is_closed so_far.drawn ≡ false → way ≡ further so_far one
    → PassesCommand what before ahead numbers [] so_far way × (is_closed way.drawn ≡ false)
led_read what None before ahead numbers so_far one way at led unclosed is = absurd led
led_read what (Some first) before ahead numbers so_far one way at led unclosed is =
    let this = led.0 (bytes_left ahead) in (
      record {
        command = this.by.command;
        token = first_token first before ahead at led.1 ∙ ap (λ t. t ∷ tokens_left ahead) this.by.token_is;
        plain = led_effect what this.by.command this.by.is.led numbers;
        goes_on = inl (record { is = this.by.is; from = this.from; way = is ∙ ap (further so_far) this.by.way_is });
      },
      ap (λ w. is_closed w.drawn) (is ∙ ap (further so_far) this.by.way_is) ∙ not_closed this.by.command numbers so_far.drawn unclosed,
    )

-- A closepath right after a line.
close_read : (what : Passing) (before ahead : Cursor) (numbers : List ℤ) (so_far way : Way) → AtFirst closepath_byte before ahead → ClosesPath Closepath numbers so_far way
    → PassesCommand what before ahead numbers [] so_far way
close_read what before ahead numbers so_far way at close = record {
  command = Closepath;
  token = first_token closepath_byte before ahead at refl;
  plain = λ named depth waiting. refl;
  goes_on = inr close;
}

row_more : (what : Passing) → leads what ≡ true → (n : ℕ) (a m b : Cursor) (s t u : List ℤ) (before way : Way) → PassesRow what n a m s t before
    → PassesCommand what m b t u before way → PassesRow what (suc n) a b s u way
row_more what on n a m b s t u before way row one = (m, (t, (before, (row, inr (on, one)))))

pub path_line : (what : Passing) → leads what ≡ true → (room : ℕ) (ahead : Ahead) (numbers : List ℤ) (passed : ℕ) (before : Cursor) (so_far one way : Way) (stop : Stop)
    → IsTakingLines what room ahead [] numbers passed before so_far → StopsAt stop.first before (stop_cursor stop) → IsLedFirst what so_far.drawn stop.first numbers one
    → way ≡ further so_far one → IsWayNear (passed + 1) way → way.moves ≤ passed + 1 → most_numbers + 1 < room - passed
    → IsTakingLines what room ahead [] [] (passed + 1) (cursor_of (left_of stop.left stop.cipher)) way × (passed + 1 + most_numbers < room)
path_line what on room ahead numbers passed before so_far one way stop round at led is near few enough =
    let same : suc passed ≡ passed + 1 = omega arith in
    let read = led_read what stop.first before (stop_cursor stop) numbers so_far one way at led round.unclosed is in (
      record {
        passes = subst (λ n. PassesRow what n (cursor_of ahead) (stop_cursor stop) [] [] way) same
            (row_more what on passed (cursor_of ahead) before (stop_cursor stop) [] numbers [] so_far way round.passes read.0);
        near = near;
        room_is = omega (arith, enough);
        short = refl;
        unclosed = read.1;
        few = few;
      },
      omega (arith, enough),
    )

-- The path ends at the next token, or after a closepath.
pub path_all : (what : Passing) → leads what ≡ true → (room : ℕ) (ahead : Ahead) (cells numbers : List ℤ) (passed : ℕ) (before : Cursor) (way : Way) (stop : Stop) (lines : Lines)
    → IsTakingLines what room ahead [] numbers passed before way → StopsAt stop.first before (stop_cursor stop) → numbers ≡ take stop.len cells
    → Finishes stop passed way lines → TakesLines what ahead [] (take lines.len cells) lines
path_all what on room ahead cells numbers passed before way stop lines round at is (inl there) =
    subst (λ (l : Lines). TakesLines what ahead [] (take l.len cells) l) (sym there)
    (record {
      before = before;
      passes = subst (λ ns. PassesRow what passed (cursor_of ahead) before [] ns way) is round.passes;
      first = at;
    })
path_all what on room ahead cells numbers passed before way stop lines round at is (inr behind) =
    let none : numbers ≡ [] = is ∙ ap (λ n. take n cells) behind.alone in
    let first : AtFirst closepath_byte before (stop_cursor stop) = subst (λ f. StopsAt f before (stop_cursor stop)) behind.first at in
    let close : ClosesPath Closepath numbers way lines.way =
    record { closes = refl; alone = none; drawn = behind.drawn; way = behind.way_is } in
    let count : suc passed ≡ lines.passed = omega (arith, behind.passed_is) in
    record {
      before = stop_cursor stop;
      passes = subst (λ n. PassesRow what lines.passed (cursor_of ahead) (stop_cursor stop) [] (take n cells) lines.way) (sym behind.len)
          (subst (λ n. PassesRow what n (cursor_of ahead) (stop_cursor stop) [] [] lines.way) count
          (row_more what on passed (cursor_of ahead) before (stop_cursor stop) [] numbers [] way lines.way round.passes
          (close_read what before (stop_cursor stop) numbers way lines.way first close)));
      first = behind.next;
    }

-- Numbers that fill the stack have room behind what was passed.
pub path_near : (room passed : ℕ) (way : Way) (stop : Stop) (lines : Lines) → passed + most_numbers < room → stop.len ≤ most_numbers
    → Finishes stop (passed + stop.len) way lines → lines.passed + (most_numbers - lines.len) ≤ room
path_near room passed way stop lines enough few (inl there) =
    omega (arith, enough, few, ap (λ (l : Lines). l.len) there, ap (λ (l : Lines). l.passed) there)
path_near room passed way stop lines enough few (inr behind) = omega (arith, enough, behind.alone, behind.len, behind.passed_is)

pub path_few : (passed : ℕ) (way : Way) (stop : Stop) (lines : Lines) → stop.len ≤ most_numbers → Finishes stop passed way lines
    → lines.len ≤ most_numbers
path_few passed way stop lines few (inl there) = omega (arith, few, ap (λ (l : Lines). l.len) there)
path_few passed way stop lines few (inr behind) = omega (arith, behind.len)

pub path_len : (passed : ℕ) (way : Way) (stop : Stop) (lines : Lines) (cells : List ℤ) → stop.len ≡ length (take stop.len cells)
    → Finishes stop passed way lines → lines.len ≡ length (take lines.len cells)
path_len passed way stop lines cells is (inl there) = subst (λ (l : Lines). l.len ≡ length (take l.len cells)) (sym there) is
path_len passed way stop lines cells is (inr behind) = subst (λ n. n ≡ length (take n cells)) (sym behind.len) refl

-- Numbers alone.
pub front_all : (what : Passing) (ahead : Ahead) (old new : List ℤ) (at : Stop) (stop : Lines) → (takes : Takes ahead old new at)
    → stop.passed ≡ takes.count → stop.way ≡ no_way → StopsAt stop.first takes.before (lines_cursor stop) → TakesLines what ahead old new stop
front_all what ahead old new at stop takes passed_is way_is first =
    let none : 0 + takes.count ≡ takes.count = omega arith in
    record {
      before = takes.before;
      passes = subst (λ n. PassesRow what n (cursor_of ahead) takes.before old new stop.way) (sym passed_is)
          (subst (λ w. PassesRow what takes.count (cursor_of ahead) takes.before old new w) (sym way_is)
          (subst (λ n. PassesRow what n (cursor_of ahead) takes.before old new no_way) none
          (row_numbers what 0 takes.count (cursor_of ahead) (cursor_of ahead) takes.before old old new no_way (refl, (refl, refl)) takes.passes)));
      first = first;
    }

pub front_count : (cells : List ℤ) (len : ℕ) → length cells ≡ most_numbers → len ≤ most_numbers → length (take len cells) ≡ len
front_count cells len long few = omega (arith, long, few, length-take len cells)
