-- What one step more changes for the stems of a glyph and what is drawn beside them.
use Rattle.std.proofs.Common.{◌≡◌, ◌+◌, ◌<◌, ℕ, zero, suc, ℤ, Some, get_or, take, option_map, ◌||◌, not, nat_le, if◌then◌else◌, Bool, true, false, Option, None, List, [], ◌∷◌, ◌++◌, length, map, refl, sym, ap, subst, ◌∙◌, append_assoc, append-nil, arith}
use Rattle.std.proofs.Math.Bool.{or-false, or_assoc}
use Rattle.std.proofs.lemmas.List.{length-map, map-append}
use Rattle.std.proofs.lemmas.List.Folds.{list_any-append}
use Rattle.std.specs.List.{count_by, find, fold, list_any}
use Rattle.t1_char.specs.Steps.{StepView}
use Rattle.t1_char.proofs.LookingBack.{last_goes_on}
use Rattle.t1_drawing.specs.declared.direction.Direction.{Direction}
use Rattle.t1_drawing.specs.declared.direction.Direction.TheVariants.{Across, Upright}
use Rattle.t1_drawing.specs.declared.touching.Extent.{Extent}
use Rattle.t1_drawing.specs.declared.touching.WatchedStem.{WatchedStem}
use Rattle.t1_drawing.specs.Strokes.{Stroke, end_of_steps, segments_of, strokes_after, strokes_at, strokes_from}
use Rattle.t1_drawing.specs.Touching.{SetStem, coordinate, extent_by, has_edges_of, is_stroke, is_touched, is_untouched, set_after, set_at, set_from, setting_width, sidebearing_point, stems_of_glyph, stems_set, touches, touches_one, untouched_of, with_stem, with_stems}
use Rattle.t1_drawing.specs.Private.Watching.{Drawing, all_touched, draw_on, draws_on, has_edges, is_left, left_as, point_on, touched_by, watched, with_stem_from, with_stems_from}
use Rattle.t1_drawing.proofs.Mapped.{mapped_to}
use Rattle.t1_drawing.proofs.NearLaws.{steps_add_what_they_draw}
use Rattle.t1_outline.specs.declared.segment.Segment.{Segment}
use Rattle.t1_outline.specs.Laws.Points.{end_of, last_end}
use Rattle.t1_outline.specs.Outlines.{drawn}
use Rattle.t1_rules.specs.declared.step_rules.flex.Point.{Point}
use Rattle.t1_rules.specs.declared.step_rules.stems.Stem.{Stem}
use Rattle.t1_rules.specs.StepRules.Flex.{set_by}
use Rattle.t1_rules.specs.StepRules.Stems.{most_stems}

-- A stem after strokes more.
abbrev pub with_later : List Stroke → SetStem → SetStem
with_later strokes stem = record stem { later = stem.later ++ strokes }

-- A watched stem after strokes more.
abbrev pub touched_by_all : Direction → List Stroke → WatchedStem → WatchedStem
touched_by_all direction strokes stem = record stem { touched = stem.touched || list_any (touches direction stem.low stem.high) strokes }

strokes_on : (before steps : List StepView) (t : StepView) → strokes_after before (steps ++ t ∷ []) ≡ strokes_after before steps ++ strokes_at (before ++ steps) t
strokes_on before [] t = grind (arith, append-nil)
strokes_on before (s ∷ ss) t = grind (arith, append_assoc, strokes_on (before ++ s ∷ []) ss t)

pub maps_twice : {A B C : Type 0} (f : A → B) (g : B → C) (h : A → C) (xs : List A) → ((x : A) → g (f x) ≡ h x) → map g (map f xs) ≡ map h xs
maps_twice f g h [] same = refl
maps_twice f g h (x ∷ xs) same = rw (same x, maps_twice f g h xs same) refl

set_on : (direction : Direction) (before steps : List StepView) (t : StepView) → set_after direction before (steps ++ t ∷ [])
    ≡ map (with_later (strokes_at (before ++ steps) t)) (set_after direction before steps) ++ set_at direction (before ++ steps) t []
set_on direction before [] t = grind (arith, append-nil)
set_on direction before (s ∷ ss) t =
    let start = coordinate direction (sidebearing_point before) in
    let front = before ++ s ∷ [] in
    let more = strokes_at (front ++ ss) t in
    let here : set_at direction before s (ss ++ t ∷ []) ≡ map (with_later more) (set_at direction before s ss) =
    ap (λ later. map (set_from start later) (stems_set direction s)) (strokes_on front ss t)
    ∙ sym (maps_twice (set_from start (strokes_after front ss)) (with_later more) (set_from start (strokes_after front ss ++ more)) (stems_set direction s) (λ x. refl)) in
    grind (arith, append_assoc, map-append, here, set_on direction front ss t)

any_mapped : {A B : Type 0} (p : B → Bool) (q : A → Bool) (f : A → B) (xs : List A) → ((x : A) → p (f x) ≡ q x) → list_any p (map f xs) ≡ list_any q xs
any_mapped p q f [] same = refl
any_mapped p q f (x ∷ xs) same = rw (same x, any_mapped p q f xs same) refl

stems_both : (stems more others : List SetStem) → with_stems stems (more ++ others) ≡ with_stems (with_stems stems more) others
stems_both stems [] others = refl
stems_both stems (m ∷ ms) others = stems_both (with_stem stems m) ms others

-- A choice of lists goes through a map.
mapped_choice : {A B : Type 0} (f : A → B) (b : Bool) (xs ys : List A) → map f (if b then xs else ys) ≡ (if b then map f xs else map f ys)
mapped_choice f true xs ys = refl
mapped_choice f false xs ys = refl

stem_later : (strokes : List Stroke) (stems : List SetStem) (stem : SetStem)
    → with_stem (map (with_later strokes) stems) (with_later strokes stem) ≡ map (with_later strokes) (with_stem stems stem)
stem_later strokes stems stem =
    let f = with_later strokes in
    let known : list_any (has_edges_of (f stem)) (map f stems) ≡ list_any (has_edges_of stem) stems = any_mapped (has_edges_of (f stem)) (has_edges_of stem) f stems (λ x. refl) in
    let room : length (map f stems) ≡ length stems = length-map stems f in
    let none = list_any (has_edges_of stem) stems || nat_le most_stems (length stems) in
    let first : with_stem (map f stems) (f stem) ≡ (if none then map f stems else map f stems ++ f stem ∷ []) = rw (known, room) refl in
    first ∙ ap (λ more. if none then map f stems else more) (sym (map-append f stems (stem ∷ []))) ∙ sym (mapped_choice f none stems (stems ++ stem ∷ []))

stems_later : (strokes : List Stroke) (stems more : List SetStem)
    → with_stems (map (with_later strokes) stems) (map (with_later strokes) more) ≡ map (with_later strokes) (with_stems stems more)
stems_later strokes stems [] = refl
stems_later strokes stems (m ∷ ms) =
    ap (λ kept. with_stems kept (map (with_later strokes) ms)) (stem_later strokes stems m) ∙ stems_later strokes (with_stem stems m) ms

-- The stems of a glyph after one step more.
pub stems_on : (direction : Direction) (before : List StepView) (t : StepView) → stems_of_glyph direction (before ++ t ∷ [])
    ≡ with_stems (map (with_later (strokes_at before t)) (stems_of_glyph direction before)) (set_at direction before t [])
stems_on direction before t =
    ap (λ set. with_stems [] set) (set_on direction [] before t)
    ∙ stems_both [] (map (with_later (strokes_at before t)) (set_after direction [] before)) (set_at direction before t [])
    ∙ ap (λ kept. with_stems kept (set_at direction before t [])) (stems_later (strokes_at before t) [] (set_after direction [] before))

watched_later : (direction : Direction) (strokes : List Stroke) (stem : SetStem)
    → watched direction (with_later strokes stem) ≡ touched_by_all direction strokes (watched direction stem)
watched_later direction strokes stem =
    ap (λ t. record (watched direction stem) { touched = t }) (list_any-append (touches direction stem.low stem.high) stem.later strokes)

watched_all : (direction : Direction) (strokes : List Stroke) (stems : List SetStem)
    → map (watched direction) (map (with_later strokes) stems) ≡ map (touched_by_all direction strokes) (map (watched direction) stems)
watched_all direction strokes [] = refl
watched_all direction strokes (s ∷ ss) = rw (watched_later direction strokes s, watched_all direction strokes ss) refl

-- What a watcher adds is what the glyph has.
watched_stem : (direction : Direction) (start : ℤ) (stems : List SetStem) (stem : Stem)
    → with_stem_from start (map (watched direction) stems) stem ≡ map (watched direction) (with_stem stems (set_from start [] stem))
watched_stem direction start stems stem =
    let f = watched direction in
    let s = set_from start [] stem in
    let known : list_any (has_edges s.low s.high) (map f stems) ≡ list_any (has_edges_of s) stems = any_mapped (has_edges s.low s.high) (has_edges_of s) f stems (λ x. refl) in
    let room : length (map f stems) ≡ length stems = length-map stems f in
    let none = list_any (has_edges_of s) stems || nat_le most_stems (length stems) in
    let first : with_stem_from start (map f stems) stem ≡ (if none then map f stems else map f stems ++ f s ∷ []) = rw (known, room) refl in
    first ∙ ap (λ more. if none then map f stems else more) (sym (map-append f stems (s ∷ []))) ∙ sym (mapped_choice f none stems (stems ++ s ∷ []))

watched_stems : (direction : Direction) (start : ℤ) (stems : List SetStem) (more : List Stem)
    → with_stems_from start (map (watched direction) stems) more ≡ map (watched direction) (with_stems stems (map (set_from start []) more))
watched_stems direction start stems [] = refl
watched_stems direction start stems (m ∷ ms) =
    ap (λ kept. with_stems_from start kept ms) (watched_stem direction start stems m) ∙ watched_stems direction start (with_stem stems (set_from start [] m)) ms

pub touched_by_none : (direction : Direction) (stems : List WatchedStem) → map (touched_by_all direction []) stems ≡ stems
touched_by_none direction [] = refl
touched_by_none direction (s ∷ ss) = rw (or-false s.touched, touched_by_none direction ss) refl

-- A stem that is touched stays so; where all are, nothing changes them.
pub touched_stays : (e : Option Extent) (s : WatchedStem) → s.touched ≡ true → touched_by e s ≡ s
touched_stays e s is = ap (λ t. record s { touched = t }) (ap (λ t. t || touches_one e s.low s.high) is ∙ sym is)

pub touched_stay : (e : Option Extent) (stems : List WatchedStem) → all_touched stems ≡ true → map (touched_by e) stems ≡ stems
touched_stay e [] all = refl
touched_stay e (s ∷ ss) all = go s.touched refl all (touched_stay e ss)
  where
    go : (touched : Bool) → s.touched ≡ touched → not (not touched || list_any (λ stem. not stem.touched) ss) ≡ true
        → (all_touched ss ≡ true → map (touched_by e) ss ≡ ss) → map (touched_by e) (s ∷ ss) ≡ s ∷ ss
    go false is all rest = let no : false ≡ true = all in cc
    go true is all rest =
        rw (touched_stays e s is, rest all) refl

-- One more of those that are touched.
pub touched_more : (f : WatchedStem → WatchedStem) (i : ℕ) (stems : List WatchedStem) (d : WatchedStem) → i < length stems
    → all_touched (map f (take i stems)) ≡ true → (f (get_or (mapped_to f i stems) i d)).touched ≡ true → all_touched (map f (take (suc i) stems)) ≡ true
touched_more f i [] d fits all last = absurd (omega (arith, fits))
touched_more f zero (s ∷ ss) d fits all last = subst (λ t. not (not t || false) ≡ true) (sym last) refl
touched_more f (suc i) (s ∷ ss) d fits all last = go (f s).touched refl all (touched_more f i ss d (omega (arith, fits)))
  where
    go : (touched : Bool) → (f s).touched ≡ touched → not (not touched || list_any (λ stem. not stem.touched) (map f (take i ss))) ≡ true
        → (all_touched (map f (take i ss)) ≡ true → (f (get_or (mapped_to f i ss) i d)).touched ≡ true → all_touched (map f (take (suc i) ss)) ≡ true)
        → all_touched (map f (take (suc (suc i)) (s ∷ ss))) ≡ true
    go false is all rest = let no : false ≡ true = all in cc
    go true is all rest =
        subst (λ t. not (not t || list_any (λ stem. not stem.touched) (map f (take (suc i) ss))) ≡ true) (sym is) (rest all last)

-- What is no line and no curve touches nothing.
pub touched_by_nothing : (stems : List WatchedStem) → map (touched_by None) stems ≡ stems
touched_by_nothing [] = refl
touched_by_nothing (s ∷ ss) = rw (or-false s.touched, touched_by_nothing ss) refl

touched_by_more : (direction : Direction) (start : Option Point) (segment : Segment) (more : List Segment) (stems : List WatchedStem)
    → map (touched_by_all direction (strokes_from (end_of segment) more)) (map (touched_by (extent_by (coordinate direction) start segment)) stems)
    ≡ map (touched_by_all direction (strokes_from start (segment ∷ more))) stems
touched_by_more direction start segment more stems =
    maps_twice (touched_by (extent_by (coordinate direction) start segment)) (touched_by_all direction (strokes_from (end_of segment) more))
    (touched_by_all direction (strokes_from start (segment ∷ more))) stems
    (λ s. ap (λ t. record s { touched = t }) (or_assoc s.touched _ _))

pub record Draws (d : Drawing) (segments : List Segment) : Type 0 where
  pub across : (draws_on d segments).across ≡ map (touched_by_all Across (strokes_from d.end segments)) d.across
  pub upright : (draws_on d segments).upright ≡ map (touched_by_all Upright (strokes_from d.end segments)) d.upright
  pub end : (draws_on d segments).end ≡ last_end d.end segments
  pub has_strokes : (draws_on d segments).has_strokes ≡ (d.has_strokes || list_any is_stroke (strokes_from d.end segments))

pub draws : (d : Drawing) (segments : List Segment) → Draws d segments
draws d [] = record {
  across = sym (touched_by_none Across d.across);
  upright = sym (touched_by_none Upright d.upright);
  end = refl;
  has_strokes = sym (or-false d.has_strokes);
}
draws d (s ∷ ss) =
    let rest = draws (draw_on d s) ss in
    record {
      across = rest.across ∙ touched_by_more Across d.end s ss d.across;
      upright = rest.upright ∙ touched_by_more Upright d.end s ss d.upright;
      end = rest.end;
      has_strokes = rest.has_strokes ∙ or_assoc d.has_strokes _ _;
    }

last_end_both : (start : Option Point) (segments more : List Segment) → last_end start (segments ++ more) ≡ last_end (last_end start segments) more
last_end_both start [] more = refl
last_end_both start (s ∷ ss) more = last_end_both (end_of s) ss more

-- Where the last segment ends after one step more.
pub end_on : (before : List StepView) (t : StepView) → end_of_steps (before ++ t ∷ []) ≡ last_end (end_of_steps before) (drawn before t)
end_on before t = ap (λ ss. last_end None ss) (steps_add_what_they_draw before t) ∙ last_end_both None (segments_of before) (drawn before t)

set_by_choice : (b : Bool) (one other : Option StepView) → set_by (if b then one else other) ≡ (if b then set_by one else set_by other)
set_by_choice true one other = refl
set_by_choice false one other = refl

pub point_goes_on : (before : List StepView) (t : StepView) → sidebearing_point (before ++ t ∷ []) ≡ point_on (sidebearing_point before) t
point_goes_on before t = ap set_by (last_goes_on setting_width before t) ∙ set_by_choice (setting_width t) _ _

pub strokes_more : (before : List StepView) (t : StepView)
    → list_any is_stroke (strokes_after [] (before ++ t ∷ [])) ≡ (list_any is_stroke (strokes_after [] before) || list_any is_stroke (strokes_at before t))
strokes_more before t =
    ap (λ strokes. list_any is_stroke strokes) (strokes_on [] before t) ∙ list_any-append is_stroke (strokes_after [] before) (strokes_at before t)

-- What a watcher keeps of a direction after a step: what was drawn touches what was there, and then come the step's own stems.
pub watched_on : (direction : Direction) (before : List StepView) (t : StepView) (drawn_stems set_stems : List WatchedStem)
    → drawn_stems ≡ map (touched_by_all direction (strokes_at before t)) (map (watched direction) (stems_of_glyph direction before))
    → set_stems ≡ with_stems_from (coordinate direction (sidebearing_point before)) drawn_stems (stems_set direction t)
    → set_stems ≡ map (watched direction) (stems_of_glyph direction (before ++ t ∷ []))
watched_on direction before t drawn_stems set_stems d s =
    let start = coordinate direction (sidebearing_point before) in
    let kept = map (with_later (strokes_at before t)) (stems_of_glyph direction before) in
    s ∙ ap (λ stems. with_stems_from start stems (stems_set direction t)) (d ∙ sym (watched_all direction (strokes_at before t) (stems_of_glyph direction before)))
    ∙ watched_stems direction start kept (stems_set direction t)
    ∙ ap (λ stems. map (watched direction) stems) (sym (stems_on direction before t))

-- A stem that isn't touched is one that a watcher knows so.
pub untouched_watched : (direction : Direction) (stems : List SetStem)
    → list_any (λ stem. not stem.touched) (map (watched direction) stems) ≡ list_any (λ stem. not (is_touched direction stem)) stems
untouched_watched direction stems =
    any_mapped (λ stem. not stem.touched) (λ stem. not (is_touched direction stem)) (watched direction) stems (λ x. refl)

counted_from : (direction : Direction) (k : ℕ) (stems : List SetStem)
    → fold (λ n stem. n + (if is_left stem then 1 else 0)) k (map (watched direction) stems)
    ≡ fold (λ n stem. n + (if is_untouched direction stem then 1 else 0)) k stems
counted_from direction k [] = refl
counted_from direction k (stem ∷ stems) = counted_from direction (k + (if is_untouched direction stem then 1 else 0)) stems

pub counted_watched : (direction : Direction) (stems : List SetStem)
    → count_by is_left (map (watched direction) stems) ≡ count_by (is_untouched direction) stems
counted_watched direction stems = counted_from direction 0 stems

pub found_watched : (direction : Direction) (count : ℕ) (stems : List SetStem)
    → option_map (left_as direction count) (find is_left (map (watched direction) stems))
    ≡ option_map (untouched_of direction count) (find (is_untouched direction) stems)
found_watched direction count [] = refl
found_watched direction count (stem ∷ stems) = either_way (is_untouched direction stem) (found_watched direction count stems)
  where
    either_way : (b : Bool) → option_map (left_as direction count) (find is_left (map (watched direction) stems))
        ≡ option_map (untouched_of direction count) (find (is_untouched direction) stems)
        → option_map (left_as direction count) (if b then Some (watched direction stem) else find is_left (map (watched direction) stems))
        ≡ option_map (untouched_of direction count) (if b then Some stem else find (is_untouched direction) stems)
    either_way true later = refl
    either_way false later = later
