use Rattle.std.proofs.Common.{◌≡◌, ◌<◌, ◌||◌, false, true, IfSome, None, Option, Some, List, [], ◌∷◌, ◌++◌, length, sym, ap, subst, ◌∙◌}
use Rattle.std.proofs.Math.Bool.{or-false}
use Rattle.t1_char.specs.declared.edition.Edition.{Edition}
use Rattle.t1_char.specs.Steps.{StepView}
use Rattle.t1_char.specs.StepValues.{step_view}
use Rattle.t1_drawing.specs.declared.font_box.FontBox.{FontBox}
use Rattle.t1_drawing.specs.declared.glyph.DrawingWatcher.{DrawingWatcher}
use Rattle.t1_drawing.specs.Private.Plain.{DrawsAlone}
use Rattle.t1_drawing.specs.Private.Standing.{DrawingStandsFor}
use Rattle.t1_drawing.proofs.Numbers.{no_fault_at_silent, plain, stays_at_silent}
use Rattle.t1_outline.proofs.LoneStrokes.{unspoiled_outside}
use Rattle.t1_drawing.proofs.glyph.DrawingWatcher.see.Goals as goal
use Rattle.t1_outline.specs.declared.segment.Segment.{Segment}
use Rattle.t1_outline.specs.Laws.Points.{end_of}
use Rattle.t1_outline.specs.Outlines.{drawn}
use Rattle.t1_outline.specs.Private.Standing.{NibStandsFor}
use Rattle.t1_rules.specs.declared.watches.Watches.{Watches}
use Rattle.t1_rules.specs.Private.Standing.{WatchesStandFor}
use Rattle.t1_rules.specs.StepRules.{breaks, step_rules}
use Rattle.t1_rules.specs.StepRules.Flex.{current_point}
use Rattle.t1_rules.specs.StepRules.Paths.{in_flex}
use Rattle.t1_rules.specs.StepRules.Tokens.{is_line}
use Rattle.t1_rules.specs.Watches.{most_steps}

-- A line or a curve that is drawn alone.
draws_alone : (edition : Edition) (box : Option FontBox) (watches : Watches) (w : DrawingWatcher) (before : List StepView) (t : StepView)
    (result : Option Segment) (segment : Segment) → result ≡ Some segment → WatchesStandFor edition watches before → DrawingStandsFor box w before
    → length before < most_steps → in_flex before ≡ false → IfSome result (λ s. is_line t.token ≡ true)
    → IfSome result (λ s. drawn before t ≡ s ∷ []) → IfSome result (λ s. NibStandsFor w.nib (before ++ t ∷ []))
    → DrawsAlone edition box watches w before t segment
draws_alone edition box watches w before t None segment is ws st short outside line alone seen = let no : None ≡ Some segment = is in cc
draws_alone edition box watches w before t (Some s) segment is ws st short outside line alone seen =
    let same : s ≡ segment = cc in
    record {
      watched = ws;
      stands = st;
      short = short;
      outside = outside;
      line = line;
      alone = alone ∙ ap (λ x. x ∷ []) same;
      seen = seen;
    }

pub returns-then-is_silent-clause-stands : goal.returns-then-is_silent-clause-stands
returns-then-is_silent-clause-stands c = λ edition box before ws st short.
    let t = step_view c.args.step.now in
    let silent = sym c.is_silent.ensures ∙ c.if-is_silent.true in
    let outside = sym (c.is_in_flex.ensures edition before ws) ∙ c.if-is_in_flex.false in
    stays_at_silent before t silent (unspoiled_outside before t (plain t (ap (λ b. b || is_line t.token) silent)).start outside) box c.args.self.now st

pub returns-then-is_silent-clause-answer : goal.returns-then-is_silent-clause-answer
returns-then-is_silent-clause-answer c = λ edition box before ws st short n.
    let t = step_view c.args.step.now in
    let silent = sym c.is_silent.ensures ∙ c.if-is_silent.true in
    c.see.ensures.answer edition before ws short n
    ∙ sym (ap (λ b. breaks (step_rules edition) n before t || b) (no_fault_at_silent before t silent box n) ∙ or-false (breaks (step_rules edition) n before t))

pub see_stroke-requires-clause-alone : goal.see_stroke-requires-clause-alone
see_stroke-requires-clause-alone c =
    let edition = c.requires.0 in
    let box = c.requires.1.0 in
    let before = c.requires.1.1.0 in
    let ws = c.requires.1.1.1.0 in
    let st = c.requires.1.1.1.1.0 in
    let short = c.requires.1.1.1.1.1 in
    let outside = sym (c.is_in_flex.ensures edition before ws) ∙ c.if-is_in_flex.false in (
      edition,
      (
        box,
        (
          before,
          draws_alone edition box c.args.watches.now c.args.self.now before (step_view c.args.step.now) c.stroke.result c.in-Some.segment c.in-Some.is ws st short
              outside c.stroke.ensures.line (c.stroke.ensures.drawn before st.nib (c.point.ensures.value edition before ws) outside)
              (c.stroke.ensures.stands before st.nib outside),
        ),
      ),
    )

pub see_turn-requires : goal.see_turn-requires
see_turn-requires c =
    let edition = c.requires.0 in
    let before = c.requires.1.1.0 in
    let ws = c.requires.1.1.1.0 in
    let st = c.requires.1.1.1.1.0 in (
      edition,
      (
        c.requires.1.0,
        (
          before,
          record {
            watched = ws;
            stands = st;
            short = c.requires.1.1.1.1.1;
            outside = sym (c.is_in_flex.ensures edition before ws) ∙ c.if-is_in_flex.false;
            turns = sym (c.begins_or_closes.ensures before st.nib) ∙ c.if-begins_or_closes.true;
          },
        ),
      ),
    )

pub returns-then-begins_or_closes-clause-stands : goal.returns-then-begins_or_closes-clause-stands
returns-then-begins_or_closes-clause-stands c = λ edition box before ws st short.
    c.see_turn.ensures.stands edition box before (record {
      watched = ws;
      stands = st;
      short = short;
      outside = sym (c.is_in_flex.ensures edition before ws) ∙ c.if-is_in_flex.false;
      turns = sym (c.begins_or_closes.ensures before st.nib) ∙ c.if-begins_or_closes.true;
    })

pub returns-then-begins_or_closes-clause-answer : goal.returns-then-begins_or_closes-clause-answer
returns-then-begins_or_closes-clause-answer c = λ edition box before ws st short.
    c.see_turn.ensures.answer edition box before (record {
      watched = ws;
      stands = st;
      short = short;
      outside = sym (c.is_in_flex.ensures edition before ws) ∙ c.if-is_in_flex.false;
      turns = sym (c.begins_or_closes.ensures before st.nib) ∙ c.if-begins_or_closes.true;
    })

pub see_setting-requires : goal.see_setting-requires
see_setting-requires c =
    let edition = c.requires.0 in
    let before = c.requires.1.1.0 in
    let ws = c.requires.1.1.1.0 in (
      edition,
      (
        c.requires.1.0,
        (
          before,
          record {
            watched = ws;
            stands = c.requires.1.1.1.1.0;
            short = c.requires.1.1.1.1.1;
            outside = sym (c.is_in_flex.ensures edition before ws) ∙ c.if-is_in_flex.false;
            nothing = sym c.draws_nothing.ensures ∙ c.if-draws_nothing.true;
          },
        ),
      ),
    )

pub returns-then-draws_nothing-clause-stands : goal.returns-then-draws_nothing-clause-stands
returns-then-draws_nothing-clause-stands c = λ edition box before ws st short.
    c.see_setting.ensures.stands edition box before (record {
      watched = ws;
      stands = st;
      short = short;
      outside = sym (c.is_in_flex.ensures edition before ws) ∙ c.if-is_in_flex.false;
      nothing = sym c.draws_nothing.ensures ∙ c.if-draws_nothing.true;
    })

pub returns-then-draws_nothing-clause-answer : goal.returns-then-draws_nothing-clause-answer
returns-then-draws_nothing-clause-answer c = λ edition box before ws st short.
    c.see_setting.ensures.answer edition box before (record {
      watched = ws;
      stands = st;
      short = short;
      outside = sym (c.is_in_flex.ensures edition before ws) ∙ c.if-is_in_flex.false;
      nothing = sym c.draws_nothing.ensures ∙ c.if-draws_nothing.true;
    })

pub returns-in-Some-clause-stands : goal.returns-in-Some-clause-stands
returns-in-Some-clause-stands c = λ edition box before ws st short.
    let outside = sym (c.is_in_flex.ensures edition before ws) ∙ c.if-is_in_flex.false in
    c.see_stroke.ensures.stands edition box before
    (draws_alone edition box c.args.watches.now c.args.self.now before (step_view c.args.step.now) c.stroke.result c.in-Some.segment c.in-Some.is ws st short
    outside c.stroke.ensures.line (c.stroke.ensures.drawn before st.nib (c.point.ensures.value edition before ws) outside)
    (c.stroke.ensures.stands before st.nib outside))

pub returns-in-Some-clause-answer : goal.returns-in-Some-clause-answer
returns-in-Some-clause-answer c = λ edition box before ws st short.
    let outside = sym (c.is_in_flex.ensures edition before ws) ∙ c.if-is_in_flex.false in
    c.see_stroke.ensures.answer edition box before
    (draws_alone edition box c.args.watches.now c.args.self.now before (step_view c.args.step.now) c.stroke.result c.in-Some.segment c.in-Some.is ws st short
    outside c.stroke.ensures.line (c.stroke.ensures.drawn before st.nib (c.point.ensures.value edition before ws) outside)
    (c.stroke.ensures.stands before st.nib outside))

pub see_stroke-requires-clause-end : goal.see_stroke-requires-clause-end
see_stroke-requires-clause-end c = λ edition before ws.
    let t = step_view c.args.step.now in
    subst (λ (drawn : Option Segment). IfSome drawn (λ segment. end_of segment ≡ Some (current_point (before ++ t ∷ [])))) c.in-Some.is
    (c.stroke.ensures.end before (c.point.ensures.value edition before ws))
