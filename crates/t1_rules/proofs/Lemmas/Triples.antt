-- What the watcher of three stems of a command keeps, one step further, and what its rules say of a step.
use Rattle.std.proofs.Common.{◌≡◌, ℕ, ◌&&◌, ◌||◌, not, if◌then◌else◌, Bool, true, false, Option, Some, None, is_none as is_nothing, is_some, option_map, List, [], ◌∷◌, ◌++◌, refl, sym, ap, ◌∙◌}
use Rattle.std.proofs.Math.Bool.{or-false}
use Rattle.t1_char.specs.declared.command.Command.TheVariants.{Hstem, Hstem3, Vstem, Vstem3}
use Rattle.t1_char.specs.declared.edition.Edition.{Edition}
use Rattle.t1_char.specs.declared.token.CharToken.{CharToken}
use Rattle.t1_char.specs.declared.token.CharToken.TheVariants.{Command}
use Rattle.t1_char.specs.Editions.{has_later_rules}
use Rattle.t1_char.specs.Since.{last_of}
use Rattle.t1_char.specs.Steps.{StepView}
use Rattle.t1_char.proofs.LookingBack.{last_goes_on}
use Rattle.std.specs.List.{list_any}
use Rattle.t1_rules.specs.declared.rule.Rule.TheVariants.{H05, H06, H07}
use Rattle.t1_rules.specs.declared.step_rules.triples.Triple.{Triple}
use Rattle.t1_rules.specs.declared.step_rules.triples.TripleWatcher.{TripleWatcher}
use Rattle.t1_rules.specs.StepRules.{breaks, triple_rules}
use Rattle.t1_rules.specs.StepRules.Stems.{is_stem, stem_at, stems_of}
use Rattle.t1_rules.specs.StepRules.Tokens.{IsCommand}
use Rattle.t1_rules.specs.StepRules.Triples.{came, is_hstem, is_hstem3, is_thin, is_vstem, is_vstem3, last_triple, changes_by, stands_beside, triple_of}
use Rattle.t1_rules.specs.Private.KeyTests.{broken_among}
use Rattle.t1_rules.specs.Private.Standing.{TriplesKeep, TriplesStandFor}
use Rattle.t1_rules.specs.Private.StepTests.{breaks_by_one, breaks_by_three}
use Rattle.t1_rules.proofs.Lemmas.Counters.{some_goes_on}

-- ---- what is kept

pub last_triple_goes_on : (kind : CharToken → Bool) (before : List StepView) (t : StepView) → last_triple kind (before ++ t ∷ [])
    ≡ (if kind t.token then Some (triple_of t) else last_triple kind before)
last_triple_goes_on kind before t = ap (option_map triple_of) (last_goes_on (λ s. kind s.token) before t) ∙ go (kind t.token)
  where
    go : (b : Bool) → option_map triple_of (if b then Some t else last_of (λ s. kind s.token) before) ≡ (if b then Some (triple_of t) else last_triple kind before)
    go true = refl
    go false = refl

-- What is kept after a step, by what was kept before it.
pub one_more_triple : (old new : TripleWatcher) (before : List StepView) (t : StepView) → TriplesKeep old before
    → new.hstem ≡ (old.hstem || is_hstem t.token)
    → new.hstem3 ≡ (if is_hstem3 t.token then Some (triple_of t) else old.hstem3)
    → new.vstem ≡ (old.vstem || is_vstem t.token)
    → new.vstem3 ≡ (if is_vstem3 t.token then Some (triple_of t) else old.vstem3)
    → TriplesKeep new (before ++ t ∷ [])
one_more_triple old new before t st hstem hstem3 vstem vstem3 = record {
  hstem = hstem ∙ rw st.hstem (sym (some_goes_on (λ s. is_hstem s.token) before t));
  hstem3 = hstem3 ∙ rw st.hstem3 (sym (last_triple_goes_on is_hstem3 before t));
  vstem = vstem ∙ rw st.vstem (sym (some_goes_on (λ s. is_vstem s.token) before t));
  vstem3 = vstem3 ∙ rw st.vstem3 (sym (last_triple_goes_on is_vstem3 before t));
}

-- Where the edition hasn't these rules, nothing has to be kept.
pub triples_stay_off : (edition : Edition) (w : TripleWatcher) (before : List StepView) (t : StepView) → has_later_rules edition ≡ false
    → TriplesStandFor edition w before → TriplesStandFor edition w (before ++ t ∷ [])
triples_stay_off edition w before t none st = record { is_on = st.is_on; kept = λ has. let no : true ≡ false = sym has ∙ none in cc }

-- Where it has them, what is kept goes on.
pub triples_go_on : (edition : Edition) (old new : TripleWatcher) (before : List StepView) (t : StepView) → new.is_on ≡ old.is_on
    → TriplesStandFor edition old before → TriplesKeep new (before ++ t ∷ []) → TriplesStandFor edition new (before ++ t ∷ [])
triples_go_on edition old new before t on st keeps = record { is_on = on ∙ st.is_on; kept = λ has. keeps }

-- What sets no stem leaves all as it is.
record IsNoStem (token : CharToken) : Type 0 where
  hstem : is_hstem token ≡ false
  hstem3 : is_hstem3 token ≡ false
  vstem : is_vstem token ≡ false
  vstem3 : is_vstem3 token ≡ false

no_stem : (token : CharToken) → is_stem token ≡ false → IsNoStem token
no_stem (Command Hstem) none = let no : true ≡ false = none in cc
no_stem (Command Hstem3) none = let no : true ≡ false = none in cc
no_stem (Command Vstem) none = let no : true ≡ false = none in cc
no_stem (Command Vstem3) none = let no : true ≡ false = none in cc
no_stem _ none = record { hstem = refl; hstem3 = refl; vstem = refl; vstem3 = refl }

pub stays_for_triples : (edition : Edition) (w : TripleWatcher) (before : List StepView) (t : StepView) → is_stem t.token ≡ false → TriplesStandFor edition w before
    → TriplesStandFor edition w (before ++ t ∷ [])
stays_for_triples edition w before t sets_none st =
    let none : IsNoStem t.token = no_stem t.token sets_none in
    record {
      is_on = st.is_on;
      kept = λ has. one_more_triple w w before t (st.kept has)
          (rw none.hstem (sym (or-false w.hstem)))
          (rw none.hstem3 refl)
          (rw none.vstem (sym (or-false w.vstem)))
          (rw none.vstem3 refl);
    }

-- Each of the four tests is true of one command; what passes none of them sets no stem.
pub is_at_hstem : (token : CharToken) → is_hstem token ≡ true → token ≡ Command Hstem
is_at_hstem (Command Hstem) is = refl
is_at_hstem _ is = let no : false ≡ true = is in cc

pub is_at_hstem3 : (token : CharToken) → is_hstem3 token ≡ true → token ≡ Command Hstem3
is_at_hstem3 (Command Hstem3) is = refl
is_at_hstem3 _ is = let no : false ≡ true = is in cc

pub is_at_vstem : (token : CharToken) → is_vstem token ≡ true → token ≡ Command Vstem
is_at_vstem (Command Vstem) is = refl
is_at_vstem _ is = let no : false ≡ true = is in cc

pub is_at_vstem3 : (token : CharToken) → is_vstem3 token ≡ true → token ≡ Command Vstem3
is_at_vstem3 (Command Vstem3) is = refl
is_at_vstem3 _ is = let no : false ≡ true = is in cc

pub is_none : (token : CharToken) → is_hstem token ≡ false → is_vstem token ≡ false → is_hstem3 token ≡ false → is_vstem3 token ≡ false → is_stem token ≡ false
is_none (Command Hstem) one other three last = let no : true ≡ false = one in cc
is_none (Command Vstem) one other three last = let no : true ≡ false = other in cc
is_none (Command Hstem3) one other three last = let no : true ≡ false = three in cc
is_none (Command Vstem3) one other three last = let no : true ≡ false = last in cc
is_none _ one other three last = refl

-- ---- what the rules say

-- Whether such a command came, by the stems of the last one.
came_by_triple : (kind : CharToken → Bool) (before : List StepView) (last : Option Triple) → last ≡ last_triple kind before → came kind before ≡ is_some last
came_by_triple kind before last is = go (last_of (λ s. kind s.token) before) ∙ sym (ap is_some is)
  where
    go : (found : Option StepView) → is_some found ≡ is_some (option_map triple_of found)
    go None = refl
    go (Some s) = refl

not_some : (last : Option Triple) → not (is_some last) ≡ is_nothing last
not_some None = refl
not_some (Some triple) = refl

-- Where an edition hasn't these rules, none is broken.
pub no_triple_rule : (edition : Edition) (before : List StepView) (t : StepView) (n : ℕ) → has_later_rules edition ≡ false
    → breaks (triple_rules edition) n before t ≡ false
unfolding triple_rules
no_triple_rule edition before t n off = rw off refl

-- Nor at a token that sets no stem.
no_first : (token : CharToken) (before : List StepView) → is_stem token ≡ false → stands_beside token before ≡ false
no_first (Command Hstem) before none = let no : true ≡ false = none in cc
no_first (Command Hstem3) before none = let no : true ≡ false = none in cc
no_first (Command Vstem) before none = let no : true ≡ false = none in cc
no_first (Command Vstem3) before none = let no : true ≡ false = none in cc
no_first _ before none = refl

no_change : (token : CharToken) (before : List StepView) (triple : Triple) → is_stem token ≡ false → changes_by token before triple ≡ false
no_change (Command Hstem3) before triple none = let no : true ≡ false = none in cc
no_change (Command Vstem3) before triple none = let no : true ≡ false = none in cc
no_change _ before triple none = refl

pub none_at_no_stem : (edition : Edition) (before : List StepView) (t : StepView) → is_stem t.token ≡ false → (n : ℕ)
    → breaks (triple_rules edition) n before t ≡ false
unfolding triple_rules
none_at_no_stem edition before t none n =
    last (has_later_rules edition) (is_stem t.token) (list_any is_thin (stems_of t)) (stands_beside t.token before) (changes_by t.token before (triple_of t))
    none (no_first t.token before none) (no_change t.token before (triple_of t) none)
  where
    last : (on stem thin beside another : Bool) → stem ≡ false → beside ≡ false → another ≡ false
        → broken_among ((H05, on && (stem && thin)) ∷ (H06, on && beside) ∷ (H07, on && another) ∷ []) n ≡ false
    last true stem thin beside another a b c = rw (a, b, c) refl
    last false stem thin beside another a b c = refl

-- A stem of a command for one breaks what its direction's commands before it say, and three do.
pub at_one_across : (edition : Edition) (w : TripleWatcher) (before : List StepView) (t : StepView) → has_later_rules edition ≡ true → TriplesKeep w before
    → IsCommand t Hstem → (n : ℕ) → breaks_by_one w.hstem w.hstem3 (stem_at t.stack 0 ∷ []) n ≡ breaks (triple_rules edition) n before t
unfolding triple_rules
at_one_across edition w before t has st is n =
    rw (is, has, sym st.hstem, came_by_triple is_hstem3 before w.hstem3 st.hstem3) refl

pub at_one_upright : (edition : Edition) (w : TripleWatcher) (before : List StepView) (t : StepView) → has_later_rules edition ≡ true → TriplesKeep w before
    → IsCommand t Vstem → (n : ℕ) → breaks_by_one w.vstem w.vstem3 (stem_at t.stack 0 ∷ []) n ≡ breaks (triple_rules edition) n before t
unfolding triple_rules
at_one_upright edition w before t has st is n =
    rw (is, has, sym st.vstem, came_by_triple is_vstem3 before w.vstem3 st.vstem3) refl

pub at_three_across : (edition : Edition) (w : TripleWatcher) (before : List StepView) (t : StepView) → has_later_rules edition ≡ true → TriplesKeep w before
    → IsCommand t Hstem3 → (n : ℕ) → breaks_by_three w.hstem w.hstem3 (triple_of t) n ≡ breaks (triple_rules edition) n before t
unfolding triple_rules
at_three_across edition w before t has st is n =
    rw (is, has, sym st.hstem, came_by_triple is_hstem3 before w.hstem3 st.hstem3, sym st.hstem3, sym (not_some w.hstem3)) refl

pub at_three_upright : (edition : Edition) (w : TripleWatcher) (before : List StepView) (t : StepView) → has_later_rules edition ≡ true → TriplesKeep w before
    → IsCommand t Vstem3 → (n : ℕ) → breaks_by_three w.vstem w.vstem3 (triple_of t) n ≡ breaks (triple_rules edition) n before t
unfolding triple_rules
at_three_upright edition w before t has st is n =
    rw (is, has, sym st.vstem, came_by_triple is_vstem3 before w.vstem3 st.vstem3, sym st.vstem3, sym (not_some w.vstem3)) refl
