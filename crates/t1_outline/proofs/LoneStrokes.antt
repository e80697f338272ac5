-- A nib keeps what it has at a line or a curve outside flex, where there is a subpath; and what it has after a step that begins or closes one.
use Rattle.std.proofs.Common.{◌≡◌, ℤ, ◌&&◌, ◌||◌, not, Bool, true, false, None, Some, List, [], ◌∷◌, ◌++◌, take, refl, sym, ap, subst, ◌∙◌}
use Rattle.std.proofs.lemmas.Bool.{and_parts}
use Rattle.t1_char.specs.declared.command.Command.{Command as Commands}
use Rattle.t1_char.specs.declared.command.Command.TheVariants.{Closepath, Hmoveto, Rmoveto, Vmoveto, Vlineto, Rlineto, Hlineto, Rrcurveto, Vhcurveto, Hvcurveto}
use Rattle.t1_char.specs.declared.token.CharToken.{CharToken}
use Rattle.t1_char.specs.declared.token.CharToken.TheVariants.{Command}
use Rattle.t1_char.specs.Arguments.{is_flex_end, is_flex_point, is_flex_start}
use Rattle.t1_char.specs.Steps.{StepView}
use Rattle.t1_char.proofs.LookingBack.{since_goes_on}
use Rattle.t1_outline.specs.declared.flex_run.FlexRun.{FlexRun}
use Rattle.t1_outline.specs.declared.nib.Nib.{Nib}
use Rattle.t1_outline.specs.declared.segment.Segment.{Segment}
use Rattle.t1_outline.specs.declared.segment.Segment.TheVariants.{Close, Move}
use Rattle.t1_outline.specs.Outlines.{begins_flex, begins_or_closes, drawn, has_subpath, is_spoiled, makes_subpath, spoils_flex, stroke, stroke_at, stroke_by}
use Rattle.t1_outline.specs.Private.Standing.{FlexRunStandsFor, NibStandsFor}
use Rattle.t1_outline.proofs.Flexes.{places_go_on, spoiled_goes_on}
use Rattle.t1_rules.specs.declared.step_rules.flex.Point.{Point}
use Rattle.t1_rules.specs.StepRules.Flex.{commands_in_flex, counts_no_pairs, current_point, flex_moves, flex_points, miscounts, starts_in_flex}
use Rattle.t1_rules.specs.StepRules.Paths.{closing_step, in_flex}
use Rattle.t1_rules.specs.StepRules.Tokens.{clears, closes, is_line, is_move}

-- A step of the six commands: no other kind of step.
pub record IsStroke (t : StepView) : Type 0 where
  pub line : is_line t.token ≡ true
  pub move : is_move t.token ≡ false
  pub closing : closes t.token ≡ false
  pub start : is_flex_start t ≡ false
  pub point : is_flex_point t ≡ false
  pub end : is_flex_end t ≡ false

by_command : (start : Point) (v : List ℤ) (command : Commands) (s : Segment) → stroke_by start v command ≡ Some s → (t : StepView)
    → t.token ≡ Command command → IsStroke t
by_command start v Rlineto s is t token = record { line = rw token refl; move = rw token refl; closing = rw token refl; start = rw token refl; point = rw token refl; end = rw token refl }
by_command start v Hlineto s is t token = record { line = rw token refl; move = rw token refl; closing = rw token refl; start = rw token refl; point = rw token refl; end = rw token refl }
by_command start v Vlineto s is t token = record { line = rw token refl; move = rw token refl; closing = rw token refl; start = rw token refl; point = rw token refl; end = rw token refl }
by_command start v Rrcurveto s is t token = record { line = rw token refl; move = rw token refl; closing = rw token refl; start = rw token refl; point = rw token refl; end = rw token refl }
by_command start v Vhcurveto s is t token = record { line = rw token refl; move = rw token refl; closing = rw token refl; start = rw token refl; point = rw token refl; end = rw token refl }
by_command start v Hvcurveto s is t token = record { line = rw token refl; move = rw token refl; closing = rw token refl; start = rw token refl; point = rw token refl; end = rw token refl }
by_command start v _ s is t token = let no : None ≡ Some s = is in cc

pub is_stroke : (start : Point) (t : StepView) (s : Segment) → stroke start t ≡ Some s → IsStroke t
is_stroke start t s is = go t.token refl is
  where
    go : (token : CharToken) → t.token ≡ token → stroke_at start t.stack token ≡ Some s → IsStroke t
    go (Command command) same is = by_command start t.stack command s is t same
    go _ same is = let no : None ≡ Some s = is in cc

and-false : (b : Bool) → (b && false) ≡ false
and-false true = refl
and-false false = refl

and-true : (b : Bool) → (b && true) ≡ b
and-true true = refl
and-true false = refl

and-none : (a b : Bool) → b ≡ false → (a && b) ≡ false
and-none a b is = ap (λ b. a && b) is ∙ and-false a

-- Outside flex nothing spoils one but a start of another.
pub unspoiled_outside : (before : List StepView) (t : StepView) → is_flex_start t ≡ false → in_flex before ≡ false → spoils_flex before t ≡ false
unspoiled_outside before t start outside =
    none (starts_in_flex before t) (commands_in_flex before t) (counts_no_pairs before t)
    (ap (λ b. b && in_flex before) start)
    (and-none (clears t.token && not (is_move t.token)) (in_flex before) outside)
    (and-none (miscounts (flex_moves before) (flex_points before) t) (in_flex before) outside)
  where
    none : (a b c : Bool) → a ≡ false → b ≡ false → c ≡ false → (a || (b || c)) ≡ false
    none a b c first second third = rw (first, second, third) refl

-- What a nib keeps of flexes stays so at a step that neither starts one, nor gives a point, nor spoils one.
pub run_stays : (run : FlexRun) (before : List StepView) (t : StepView) → is_flex_start t ≡ false → is_flex_point t ≡ false
    → spoils_flex before t ≡ false → FlexRunStandsFor run before → FlexRunStandsFor run (before ++ t ∷ [])
run_stays run before t start point unspoiled st = record {
  places = st.places ∙ ap (take 8) (sym (places_go_on before t ∙ rw (start, point) refl));
  spoiled = st.spoiled ∙ sym (spoiled_goes_on before t
      ∙ ap (λ b. b || (is_spoiled before && not (begins_flex before t))) unspoiled
      ∙ ap (λ b. is_spoiled before && not (b && not (in_flex before))) start
      ∙ and-true (is_spoiled before));
}

module _ (before : List StepView) (t : StepView) (start : Point) (s : Segment) (outside : in_flex before ≡ false) (is : stroke start t ≡ Some s) where
  kind : IsStroke t
  kind = is_stroke start t s is

  pub nib_stays : (nib : Nib) → has_subpath before ≡ true → NibStandsFor nib before → NibStandsFor nib (before ++ t ∷ [])
  nib_stays nib there st = record {
    run = run_stays nib.run before t kind.start kind.point (unspoiled_outside before t kind.start outside) st.run;
    subpath = st.subpath ∙ there ∙ sym (since_goes_on makes_subpath closing_step before t ∙ rw (kind.move, kind.line) refl);
  }

-- A move or a closepath: no other kind of step.
pub record IsBound (t : StepView) : Type 0 where
  pub line : is_line t.token ≡ false
  pub start : is_flex_start t ≡ false
  pub point : is_flex_point t ≡ false
  pub end : is_flex_end t ≡ false
  pub stroke : (start : Point) → stroke start t ≡ None

bound_by : (t : StepView) (command : Commands) → t.token ≡ Command command → (is_move (Command command) || closes (Command command)) ≡ true → IsBound t
bound_by t Rmoveto is kind = record { line = rw is refl; start = rw is refl; point = rw is refl; end = rw is refl; stroke = λ p. rw is refl }
bound_by t Hmoveto is kind = record { line = rw is refl; start = rw is refl; point = rw is refl; end = rw is refl; stroke = λ p. rw is refl }
bound_by t Vmoveto is kind = record { line = rw is refl; start = rw is refl; point = rw is refl; end = rw is refl; stroke = λ p. rw is refl }
bound_by t Closepath is kind = record { line = rw is refl; start = rw is refl; point = rw is refl; end = rw is refl; stroke = λ p. rw is refl }
bound_by t _ is kind = let no : false ≡ true = kind in cc

pub bound : (t : StepView) → (is_move t.token || closes t.token) ≡ true → IsBound t
bound t kind = go t.token refl kind
  where
    go : (token : CharToken) → t.token ≡ token → (is_move token || closes token) ≡ true → IsBound t
    go (Command command) is kind = bound_by t command is kind
    go _ is kind = let no : false ≡ true = kind in cc

-- What begins or closes a subpath is such a step, and no move where the move isn't outside flex.
pub one_of_both : (before : List StepView) (t : StepView) → begins_or_closes before t ≡ true → (is_move t.token || closes t.token) ≡ true
one_of_both before t is = go (is_move t.token) (closes t.token) (has_subpath before) is
  where
    go : (move closing there : Bool) → (move || (closing && there)) ≡ true → (move || closing) ≡ true
    go true closing there is = refl
    go false true there is = refl
    go false false there is = is

module _ (before : List StepView) (t : StepView) (outside : in_flex before ≡ false) (is : begins_or_closes before t ≡ true) where
  bounds : IsBound t
  bounds = bound t (one_of_both before t is)

  subpath_on : (move : Bool) → is_move t.token ≡ move → move ≡ has_subpath (before ++ t ∷ [])
  subpath_on true moves = sym (since_goes_on makes_subpath closing_step before t ∙ rw (moves, outside) refl)
  subpath_on false still =
      sym (since_goes_on makes_subpath closing_step before t
      ∙ rw (still, bounds.line, bounds.end, (ap (λ b. b || closes t.token) (sym still) ∙ one_of_both before t is)) (and-false (has_subpath before)))

  pub nib_goes_on : (nib new : Nib) → new.run ≡ nib.run → new.has_subpath ≡ is_move t.token → NibStandsFor nib before → NibStandsFor new (before ++ t ∷ [])
  nib_goes_on nib new same turned st = record {
    run = subst (λ run. FlexRunStandsFor run (before ++ t ∷ [])) (sym same)
        (run_stays nib.run before t bounds.start bounds.point (unspoiled_outside before t bounds.start outside) st.run);
    subpath = turned ∙ subpath_on (is_move t.token) refl;
  }

  pub begun : is_move t.token ≡ true → drawn before t ≡ Move (current_point (before ++ t ∷ [])) ∷ []
  begun moves = rw (moves, outside) refl

  pub closed_there : is_move t.token ≡ false → drawn before t ≡ Close ∷ []
  closed_there still =
      let both = ap (λ b. b || (closes t.token && has_subpath before)) (sym still) ∙ is in
      let parts = and_parts (closes t.token) (has_subpath before) both in
      rw (still, bounds.end, bounds.stroke (current_point before), parts.0, parts.1) refl
