-- A step that draws nothing, sets no stem and no width, and doesn't end the glyph: it breaks no rule on the drawing, and a watcher matches the steps
-- with it too. So do numbers.
use Rattle.std.proofs.Common.{◌≡◌, ℕ, ℤ, ◌&&◌, ◌||◌, not, Bool, true, false, Option, List, [], ◌∷◌, ◌++◌, map, append-nil, refl, sym, ap, subst, ◌∙◌}
use Rattle.std.proofs.Math.Bool.{or-false}
use Rattle.t1_char.specs.declared.command.Command.{Command as Commands}
use Rattle.t1_char.specs.declared.command.Command.TheVariants.{Callsubr, Closepath, Div, Dotsection, Hlineto, Hmoveto, Hvcurveto, Pop, Return, Rlineto, Rmoveto, Rrcurveto, Setcurrentpoint, Vhcurveto, Vlineto, Vmoveto}
use Rattle.t1_char.specs.declared.token.CharToken.{CharToken}
use Rattle.t1_char.specs.declared.token.CharToken.TheVariants.{Command, Number}
use Rattle.t1_char.specs.Arguments.{is_flex_end, is_flex_point, is_flex_start}
use Rattle.t1_char.specs.Arguments.{is_callothersubr}
use Rattle.t1_char.specs.Steps.{StepView}
use Rattle.t1_char.proofs.LookingBack.{since_goes_on}
use Rattle.t1_drawing.specs.declared.direction.Direction.{Direction}
use Rattle.t1_drawing.specs.declared.direction.Direction.TheVariants.{Across, Upright}
use Rattle.t1_drawing.specs.declared.font_box.FontBox.{FontBox}
use Rattle.t1_drawing.specs.declared.glyph.DrawingWatcher.{DrawingWatcher}
use Rattle.t1_drawing.specs.declared.moves.MoveWatcher.{MoveWatcher}
use Rattle.t1_drawing.specs.declared.segments.SegmentWatcher.{SegmentWatcher}
use Rattle.t1_drawing.specs.declared.touching.TouchWatcher.{TouchWatcher}
use Rattle.t1_drawing.specs.declared.touching.WatchedStem.{WatchedStem}
use Rattle.t1_drawing.specs.DrawingRules.{drawing_rules, ends_glyph}
use Rattle.t1_drawing.specs.Moves.{draws_or_closes}
use Rattle.t1_drawing.specs.StemEdges.{sets_adjacent, sets_negative_width}
use Rattle.t1_drawing.specs.Strokes.{end_of_steps, segments_of, strokes_at, strokes_from}
use Rattle.t1_drawing.specs.Touching.{stems_of_glyph, stems_set}
use Rattle.t1_drawing.specs.Private.Plain.{draws_nothing, is_silent}
use Rattle.t1_drawing.specs.Private.Standing.{DrawingStandsFor, MovesStandFor, SegmentsStandFor, TouchesStandFor}
use Rattle.t1_drawing.specs.Private.Watching.{watched}
use Rattle.t1_drawing.proofs.NearLaws.{steps_add_what_they_draw}
use Rattle.t1_drawing.proofs.Touches.{end_on, point_goes_on, strokes_more, touched_by_none, watched_on}
use Rattle.t1_outline.specs.declared.nib.Nib.{Nib}
use Rattle.t1_outline.specs.Laws.Points.{last_end}
use Rattle.t1_outline.specs.Outlines.{drawn, has_subpath, makes_subpath, spoils_flex}
use Rattle.t1_outline.specs.Private.Standing.{NibStandsFor}
use Rattle.t1_outline.proofs.LoneStrokes.{run_stays}
use Rattle.t1_outline.proofs.Subpaths.{no_stroke}
use Rattle.t1_rules.specs.StepRules.{breaks}
use Rattle.t1_rules.specs.StepRules.Flex.{current_point}
use Rattle.t1_rules.specs.StepRules.Paths.{closing_step, outer_move}
use Rattle.t1_rules.specs.StepRules.Tokens.{closes, is_line, is_move, sets_width}

and-true : (b : Bool) → (b && true) ≡ b
and-true true = refl
and-true false = refl

-- What such a step is not.
pub record IsPlain (t : StepView) : Type 0 where
  pub move : is_move t.token ≡ false
  pub closing : closes t.token ≡ false
  pub width : sets_width t.token ≡ false
  pub across : stems_set Across t ≡ []
  pub upright : stems_set Upright t ≡ []
  pub adjacent : (before : List StepView) → sets_adjacent before t ≡ false
  pub negative : sets_negative_width t ≡ false
  pub ends : ends_glyph t ≡ false
  pub start : is_flex_start t ≡ false
  pub point : is_flex_point t ≡ false
  pub end : is_flex_end t ≡ false

plain_number : (t : StepView) (z : ℤ) → t.token ≡ Number z → IsPlain t
plain_number t z is = record {
  move = rw is refl;
  closing = rw is refl;
  width = rw is refl;
  across = rw is refl;
  upright = rw is refl;
  adjacent = λ before. rw is refl;
  negative = rw is refl;
  ends = rw is refl;
  start = rw is refl;
  point = rw is refl;
  end = rw is refl;
}

-- A command that isn't one of those: by which it is, all that can be computed is.
plain_command : (t : StepView) (command : Commands) → t.token ≡ Command command → (is_silent (Command command) || is_line (Command command)) ≡ true → IsPlain t
plain_command t Callsubr is kind = record { move = rw is refl; closing = rw is refl; width = rw is refl; across = rw is refl; upright = rw is refl; adjacent = λ before. rw is refl; negative = rw is refl; ends = rw is refl; start = rw is refl; point = rw is refl; end = rw is refl }
plain_command t Return is kind = record { move = rw is refl; closing = rw is refl; width = rw is refl; across = rw is refl; upright = rw is refl; adjacent = λ before. rw is refl; negative = rw is refl; ends = rw is refl; start = rw is refl; point = rw is refl; end = rw is refl }
plain_command t Pop is kind = record { move = rw is refl; closing = rw is refl; width = rw is refl; across = rw is refl; upright = rw is refl; adjacent = λ before. rw is refl; negative = rw is refl; ends = rw is refl; start = rw is refl; point = rw is refl; end = rw is refl }
plain_command t Div is kind = record { move = rw is refl; closing = rw is refl; width = rw is refl; across = rw is refl; upright = rw is refl; adjacent = λ before. rw is refl; negative = rw is refl; ends = rw is refl; start = rw is refl; point = rw is refl; end = rw is refl }
plain_command t Dotsection is kind = record { move = rw is refl; closing = rw is refl; width = rw is refl; across = rw is refl; upright = rw is refl; adjacent = λ before. rw is refl; negative = rw is refl; ends = rw is refl; start = rw is refl; point = rw is refl; end = rw is refl }
plain_command t Setcurrentpoint is kind = record { move = rw is refl; closing = rw is refl; width = rw is refl; across = rw is refl; upright = rw is refl; adjacent = λ before. rw is refl; negative = rw is refl; ends = rw is refl; start = rw is refl; point = rw is refl; end = rw is refl }
plain_command t Rlineto is kind = record { move = rw is refl; closing = rw is refl; width = rw is refl; across = rw is refl; upright = rw is refl; adjacent = λ before. rw is refl; negative = rw is refl; ends = rw is refl; start = rw is refl; point = rw is refl; end = rw is refl }
plain_command t Hlineto is kind = record { move = rw is refl; closing = rw is refl; width = rw is refl; across = rw is refl; upright = rw is refl; adjacent = λ before. rw is refl; negative = rw is refl; ends = rw is refl; start = rw is refl; point = rw is refl; end = rw is refl }
plain_command t Vlineto is kind = record { move = rw is refl; closing = rw is refl; width = rw is refl; across = rw is refl; upright = rw is refl; adjacent = λ before. rw is refl; negative = rw is refl; ends = rw is refl; start = rw is refl; point = rw is refl; end = rw is refl }
plain_command t Rrcurveto is kind = record { move = rw is refl; closing = rw is refl; width = rw is refl; across = rw is refl; upright = rw is refl; adjacent = λ before. rw is refl; negative = rw is refl; ends = rw is refl; start = rw is refl; point = rw is refl; end = rw is refl }
plain_command t Vhcurveto is kind = record { move = rw is refl; closing = rw is refl; width = rw is refl; across = rw is refl; upright = rw is refl; adjacent = λ before. rw is refl; negative = rw is refl; ends = rw is refl; start = rw is refl; point = rw is refl; end = rw is refl }
plain_command t Hvcurveto is kind = record { move = rw is refl; closing = rw is refl; width = rw is refl; across = rw is refl; upright = rw is refl; adjacent = λ before. rw is refl; negative = rw is refl; ends = rw is refl; start = rw is refl; point = rw is refl; end = rw is refl }
plain_command t _ is kind = let no : false ≡ true = kind in cc

pub plain : (t : StepView) → (is_silent t.token || is_line t.token) ≡ true → IsPlain t
plain t kind = go t.token refl kind
  where
    go : (token : CharToken) → t.token ≡ token → (is_silent token || is_line token) ≡ true → IsPlain t
    go (Number z) is kind = plain_number t z is
    go (Command command) is kind = plain_command t command is kind
    go _ is kind = let no : false ≡ true = kind in cc

-- What a move and a closepath are not.
pub record IsTurn (t : StepView) : Type 0 where
  pub width : sets_width t.token ≡ false
  pub across : stems_set Across t ≡ []
  pub upright : stems_set Upright t ≡ []
  pub adjacent : (before : List StepView) → sets_adjacent before t ≡ false
  pub negative : sets_negative_width t ≡ false
  pub ends : ends_glyph t ≡ false

turn_command : (t : StepView) (command : Commands) → t.token ≡ Command command → (is_move (Command command) || closes (Command command)) ≡ true → IsTurn t
turn_command t Rmoveto is kind = record { width = rw is refl; across = rw is refl; upright = rw is refl; adjacent = λ before. rw is refl; negative = rw is refl; ends = rw is refl }
turn_command t Hmoveto is kind = record { width = rw is refl; across = rw is refl; upright = rw is refl; adjacent = λ before. rw is refl; negative = rw is refl; ends = rw is refl }
turn_command t Vmoveto is kind = record { width = rw is refl; across = rw is refl; upright = rw is refl; adjacent = λ before. rw is refl; negative = rw is refl; ends = rw is refl }
turn_command t Closepath is kind = record { width = rw is refl; across = rw is refl; upright = rw is refl; adjacent = λ before. rw is refl; negative = rw is refl; ends = rw is refl }
turn_command t _ is kind = let no : false ≡ true = kind in cc

pub turn : (t : StepView) → (is_move t.token || closes t.token) ≡ true → IsTurn t
turn t kind = go t.token refl kind
  where
    go : (token : CharToken) → t.token ≡ token → (is_move token || closes token) ≡ true → IsTurn t
    go (Command command) is kind = turn_command t command is kind
    go _ is kind = let no : false ≡ true = kind in cc

-- One that is silent is no line.
silent_line : (t : StepView) → is_silent t.token ≡ true → is_line t.token ≡ false
silent_line t silent = go t.token silent
  where
    by_command : (command : Commands) → is_silent (Command command) ≡ true → is_line (Command command) ≡ false
    by_command Callsubr silent = refl
    by_command Return silent = refl
    by_command Pop silent = refl
    by_command Div silent = refl
    by_command Dotsection silent = refl
    by_command Setcurrentpoint silent = refl
    by_command _ silent = let no : false ≡ true = silent in cc

    go : (token : CharToken) → is_silent token ≡ true → is_line token ≡ false
    go (Number z) silent = refl
    go (Command command) silent = by_command command silent
    go _ silent = let no : false ≡ true = silent in cc

-- A step that draws nothing.
pub record IsUndrawn (t : StepView) : Type 0 where
  pub move : is_move t.token ≡ false
  pub line : is_line t.token ≡ false
  pub closing : closes t.token ≡ false
  pub start : is_flex_start t ≡ false
  pub point : is_flex_point t ≡ false
  pub end : is_flex_end t ≡ false

undrawn_silent : (t : StepView) → is_silent t.token ≡ true → IsUndrawn t
undrawn_silent t silent =
    let is = plain t (ap (λ b. b || is_line t.token) silent) in
    record { move = is.move; line = silent_line t silent; closing = is.closing; start = is.start; point = is.point; end = is.end }

neither : (a b : Bool) → not (a || b) ≡ true → (not a ≡ true) × (b ≡ false)
neither false false is = (refl, refl)
neither true b is = let no : false ≡ true = is in cc
neither false true is = let no : false ≡ true = is in cc

is_not : (a : Bool) → not a ≡ true → a ≡ false
is_not false is = refl
is_not true is = let no : false ≡ true = is in cc

pub undrawn : (t : StepView) → draws_nothing t.token ≡ true → IsUndrawn t
undrawn t nothing =
    let call = neither (is_move t.token || is_line t.token || closes t.token) (is_callothersubr t.token) nothing in
    let closing = neither (is_move t.token || is_line t.token) (closes t.token) call.0 in
    let line = neither (is_move t.token) (is_line t.token) closing.0 in
    record {
      move = is_not (is_move t.token) line.0;
      line = line.1;
      closing = closing.1;
      start = rw (call.1) refl;
      point = rw (call.1) refl;
      end = rw (call.1) refl;
    }

module _ (before : List StepView) (t : StepView) (is : IsUndrawn t) where
  pub undrawn_is : drawn before t ≡ []
  undrawn_is = rw (is.move, is.end, is.closing, no_stroke (current_point before) t.stack t.token is.line) refl

  pub segments_stay : (box : Option FontBox) (w : SegmentWatcher) → SegmentsStandFor box w (segments_of before)
      → SegmentsStandFor box w (segments_of (before ++ t ∷ []))
  segments_stay box w =
      subst (SegmentsStandFor box w)
      (sym (steps_add_what_they_draw before t ∙ ap (λ ss. segments_of before ++ ss) undrawn_is ∙ append-nil (segments_of before)))

  pub moves_stay : (w : MoveWatcher) → MovesStandFor w before → MovesStandFor w (before ++ t ∷ [])
  moves_stay w st =
      st ∙ sym (since_goes_on outer_move draws_or_closes before t ∙ rw (is.move, is.line, is.end, is.closing) (and-true _))

  pub nib_stays : (nib : Nib) → spoils_flex before t ≡ false → NibStandsFor nib before → NibStandsFor nib (before ++ t ∷ [])
  nib_stays nib unspoiled st = record {
    run = run_stays nib.run before t is.start is.point unspoiled st.run;
    subpath = st.subpath ∙ sym (since_goes_on makes_subpath closing_step before t
        ∙ rw (is.move, is.line, is.end, is.closing) (and-true (has_subpath before)));
  }

module _ (before : List StepView) (t : StepView) (silent : is_silent t.token ≡ true) (unspoiled : spoils_flex before t ≡ false) where
  is_plain : IsPlain t
  is_plain = plain t (ap (λ b. b || is_line t.token) silent)

  draws_none : drawn before t ≡ []
  draws_none = undrawn_is before t (undrawn_silent t silent)

  no_strokes : strokes_at before t ≡ []
  no_strokes = ap (strokes_from (end_of_steps before)) draws_none

  stems_stay : (direction : Direction) (stems : List WatchedStem) → stems_set direction t ≡ []
      → stems ≡ map (watched direction) (stems_of_glyph direction before)
      → stems ≡ map (watched direction) (stems_of_glyph direction (before ++ t ∷ []))
  stems_stay direction stems none st =
      watched_on direction before t stems stems
      (st ∙ sym (rw no_strokes (touched_by_none direction (map (watched direction) (stems_of_glyph direction before)))))
      (rw none refl)

  touches_stay : (w : TouchWatcher) → TouchesStandFor w before → TouchesStandFor w (before ++ t ∷ [])
  touches_stay w st = record {
    across = stems_stay Across w.across.items is_plain.across st.across;
    upright = stems_stay Upright w.upright.items is_plain.upright st.upright;
    sidebearing = st.sidebearing ∙ sym (point_goes_on before t ∙ rw (is_plain.width) refl);
    end = st.end ∙ sym (end_on before t ∙ ap (last_end (end_of_steps before)) draws_none);
    has_strokes = st.has_strokes ∙ sym (strokes_more before t ∙ rw no_strokes (or-false _));
    done = st.done;
  }

  pub stays_at_silent : (box : Option FontBox) (w : DrawingWatcher) → DrawingStandsFor box w before → DrawingStandsFor box w (before ++ t ∷ [])
  stays_at_silent box w st = record {
    nib = nib_stays before t (undrawn_silent t silent) w.nib unspoiled st.nib;
    segments = segments_stay before t (undrawn_silent t silent) box w.segments st.segments;
    moves = moves_stay before t (undrawn_silent t silent) w.moves st.moves;
    touches = touches_stay w.touches st.touches;
  }

-- Whatever comes before, none of the rules is broken.
pub no_fault_at_silent : (before : List StepView) (t : StepView) → is_silent t.token ≡ true → (box : Option FontBox) (n : ℕ)
    → breaks (drawing_rules box) n before t ≡ false
unfolding drawing_rules
no_fault_at_silent before t silent box n =
    let is = plain t (ap (λ b. b || is_line t.token) silent) in
    rw (undrawn_is before t (undrawn_silent t silent), is.move, is.ends, is.adjacent before, is.negative) refl

module _ (before : List StepView) (t : StepView) (z : ℤ) (is : t.token ≡ Number z) where
  number_is_silent : is_silent t.token ≡ true
  number_is_silent = rw is refl

  pub stays_at_number : (box : Option FontBox) (w : DrawingWatcher) → DrawingStandsFor box w before → DrawingStandsFor box w (before ++ t ∷ [])
  stays_at_number = stays_at_silent before t number_is_silent (rw is refl)

  pub no_fault_at_number : (box : Option FontBox) (n : ℕ) → breaks (drawing_rules box) n before t ≡ false
  no_fault_at_number = no_fault_at_silent before t number_is_silent
