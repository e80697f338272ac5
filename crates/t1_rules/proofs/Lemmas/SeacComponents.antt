-- Where the rules on the codes and the components of seac are broken, by its arguments and the glyphs that it names.
use Rattle.std.proofs.Common.{◌≡◌, ◌≢◌, ℕ, zero, suc, ℤ, ◌<◌, ◌==◌, ◌&&◌, ◌||◌, not, is_none, if◌then◌else◌, Bool, true, false, Option, Some, None, List, [], ◌∷◌, ◌++◌, length, slice_get, refl, sym, ap, ◌∙◌, arith}
use Rattle.std.specs.List.{list_any}
use Rattle.std.specs.Ordering.{int_eq}
use Rattle.std.proofs.lemmas.Bool.{eqb-true}
use Rattle.std.proofs.lemmas.Int.{ints}
use Rattle.std.proofs.lemmas.List.FromFn.{get_or-map-range_with_len}
use Rattle.t1_char.specs.declared.command.Command.TheVariants.{Seac}
use Rattle.t1_char.specs.declared.token.CharToken.{CharToken}
use Rattle.t1_char.specs.declared.token.CharToken.TheVariants.{Command}
use Rattle.t1_char.specs.Arguments.{argument}
use Rattle.t1_char.specs.Steps.{StepView}
use Rattle.t1_font.specs.Fonts.{FontValue}
use Rattle.t1_rules.specs.declared.rule.Rule.TheVariants.{K01, K02, K03, K04, K05, K07}
use Rattle.t1_rules.specs.declared.sidebearings.Component.{Component}
use Rattle.t1_rules.specs.Components.{component_at, component_in, component_named, component_of_glyph, components_of, first_sidebearing, glyph_named, is_seac_step, missing}
use Rattle.t1_rules.specs.Laws.Seac.{DiffersInSidebearing, IsCode, IsCodePlace, LacksComponent, LacksSidebearing, MissingGlyphsAreTold, MissingSidebearingsAreTold, Names, NamesGlyph, NestedSeacsAreTold, Nests, OtherSidebearingsAreTold, SeacAloneHasCodes, SeacAloneHasComponents, UnnamedCodesAreTold, WrongCodesAreTold, HasNoCode, HasUnnamedCode, accent, base, breaks_by_component, is_width, looked_at}
use Rattle.t1_rules.specs.Laws.StepRules.{violates}
use Rattle.t1_rules.specs.StandardEncoding.{standard_name}
use Rattle.t1_rules.specs.StepRules.{component_rules}
use Rattle.t1_rules.specs.StepRules.Seac.{component_of_code, differs_in_sidebearing, is_another, is_lacking, is_named, is_unnamed, is_without_sidebearing, lacks_component, lacks_sidebearing, nests, seac_code}
use Rattle.t1_rules.specs.StepRules.Tokens.{sets_width, IsCommand}
use Rattle.t1_rules.proofs.Lemmas.Book.{both}
use Rattle.t1_rules.proofs.Lemmas.Components.{named_by_letters}
use Rattle.t1_rules.proofs.Lemmas.Rows.{k01_row, k02_row}
use Rattle.t1_rules.proofs.Lemmas.SeacLaws.{codes_are_whole_to_255}
use Rattle.t1_rules.proofs.Lemmas.StepRules.{row_decides}
use Rattle.t1_char.specs.Seacs.{is_seac}

-- ---- rows

k03_row : (limit : ℕ) (font : FontValue) (before : List StepView) (step : StepView) → breaks_by_component limit font K03 before step ≡ lacks_component
    (components_of limit font) step
unfolding component_rules
k03_row limit font before step = row_decides 64 (component_rules (components_of limit font)) 0 _ refl refl refl refl before step

k04_row : (limit : ℕ) (font : FontValue) (before : List StepView) (step : StepView) → breaks_by_component limit font K04 before step
    ≡ nests (components_of limit font) step
unfolding component_rules
k04_row limit font before step = row_decides 65 (component_rules (components_of limit font)) 1 _ refl refl refl refl before step

k05_row : (limit : ℕ) (font : FontValue) (before : List StepView) (step : StepView) → breaks_by_component limit font K05 before step ≡ differs_in_sidebearing
    (components_of limit font) step
unfolding component_rules
k05_row limit font before step = row_decides 66 (component_rules (components_of limit font)) 2 _ refl refl refl refl before step

k07_row : (limit : ℕ) (font : FontValue) (before : List StepView) (step : StepView) → breaks_by_component limit font K07 before step ≡ lacks_sidebearing
    (components_of limit font) step
unfolding component_rules
k07_row limit font before step = row_decides 68 (component_rules (components_of limit font)) 3 _ refl refl refl refl before step

-- ---- the component at a place

abbrev code_at : StepView → ℕ → Option ℕ
code_at step place = seac_code (argument step.stack place)

abbrev part : ℕ → FontValue → StepView → ℕ → Component
part limit font step place = component_of_code (components_of limit font) (code_at step place)

-- No code that has a name is there; or its name is no glyph's; or it is a glyph's.
data IsPart (limit : ℕ) (font : FontValue) (step : StepView) (place : ℕ) : Type 0 where
  nameless : is_named (code_at step place) ≡ false → part limit font step place ≡ missing → IsPart limit font step place
  lacking : (name : List ℕ) → Names step place name → glyph_named font name ≡ None → part limit font step place ≡ missing → IsPart limit font step place
  present : (glyph : ℕ) → NamesGlyph font step place glyph → part limit font step place ≡ component_in (looked_at limit font glyph)
      → IsPart limit font step place

at_code : (limit : ℕ) (font : FontValue) (code : ℕ) → code < 256 → component_of_code (components_of limit font) (Some code) ≡ component_named
    limit font (standard_name code)
unfolding components_of
at_code limit font code below = get_or-map-range_with_len (component_at limit font) 0 256 code code missing below (omega arith)

has_no_letters : (name : List ℕ) → 0 < length name → (length name == 0) ≡ false
has_no_letters name letters = grind (arith, letters)

-- By the name that is there.
by_name : (limit : ℕ) (font : FontValue) (step : StepView) (place : ℕ) (name : List ℕ) → Names step place name → part limit font step place ≡ component_of_glyph
    limit font (glyph_named font name)
by_name limit font step place name names =
    ap (component_of_code (components_of limit font)) ((codes_are_whole_to_255 (argument step.stack place) names.code).1 names.is_code)
    ∙ at_code limit font names.code names.is_code.below
    ∙ ap (component_named limit font) names.is_name
    ∙ named_by_letters limit font name (has_no_letters name names.has_letters)

is_a_name : (step : StepView) (place : ℕ) (name : List ℕ) → Names step place name → is_named (code_at step place) ≡ true
is_a_name step place name names =
    ap is_named ((codes_are_whole_to_255 (argument step.stack place) names.code).1 names.is_code)
    ∙ ap (λ (letters : List ℕ). not (length letters == 0)) names.is_name
    ∙ ap not (has_no_letters name names.has_letters)

part_of : (limit : ℕ) (font : FontValue) (step : StepView) (place : ℕ) → IsPart limit font step place
part_of limit font step place = by_code (code_at step place) refl
  where
    by_glyph : (name : List ℕ) → Names step place name → (found : Option ℕ) → glyph_named font name ≡ found → IsPart limit font step place
    by_glyph name names None is = lacking name names is (by_name limit font step place name names ∙ ap (component_of_glyph limit font) is)
    by_glyph name names (Some glyph) is =
        present glyph (record { name = name; names = names; found = is }) (by_name limit font step place name names ∙ ap (component_of_glyph limit font) is)

    by_letters : (code : ℕ) → code_at step place ≡ Some code → (name : List ℕ) → standard_name code ≡ name → IsPart limit font step place
    by_letters code is [] none =
        let below : code < 256 = ((codes_are_whole_to_255 (argument step.stack place) code).0 is).below in
        nameless (ap is_named is ∙ ap (λ (letters : List ℕ). not (length letters == 0)) none)
        (ap (component_of_code (components_of limit font)) is ∙ at_code limit font code below ∙ ap (component_named limit font) none)
    by_letters code is (c ∷ cs) name =
        let names : Names step place (c ∷ cs) =
        record { code = code; is_code = (codes_are_whole_to_255 (argument step.stack place) code).0 is; is_name = name; has_letters = omega arith } in
        by_glyph (c ∷ cs) names (glyph_named font (c ∷ cs)) refl

    by_code : (found : Option ℕ) → code_at step place ≡ found → IsPart limit font step place
    by_code None is = nameless (ap is_named is) (ap (component_of_code (components_of limit font)) is)
    by_code (Some code) is = by_letters code is (standard_name code) refl

-- What no missing component has, is had by a glyph.
record Has (test : Component → Bool) (limit : ℕ) (font : FontValue) (step : StepView) (place : ℕ) : Type 0 where
  glyph : ℕ
  names : NamesGlyph font step place glyph
  such : test (component_in (looked_at limit font glyph)) ≡ true

has : (test : Component → Bool) → test missing ≡ false → (limit : ℕ) (font : FontValue) (step : StepView) (place : ℕ) → test (part limit font step place) ≡ true
    → Has test limit font step place
has test none limit font step place e = go (part_of limit font step place)
  where
    not_missing : part limit font step place ≡ missing → ⊥
    not_missing is = let no : false ≡ true = sym none ∙ sym (ap test is) ∙ e in cc

    go : IsPart limit font step place → Has test limit font step place
    go (nameless no_name is) = absurd (not_missing is)
    go (lacking name names absent is) = absurd (not_missing is)
    go (present glyph names is) = record { glyph = glyph; names = names; such = sym (ap test is) ∙ e }

had : (test : Component → Bool) (limit : ℕ) (font : FontValue) (step : StepView) (place glyph : ℕ) → NamesGlyph font step place glyph
    → test (component_in (looked_at limit font glyph)) ≡ true → test (part limit font step place) ≡ true
had test limit font step place glyph names such =
    ap test (by_name limit font step place names.name names.names ∙ ap (component_of_glyph limit font) names.found) ∙ such

-- ---- one of two

always : (b : Bool) → (b || true) ≡ true
always true = refl
always false = refl

one_of : (a b : Bool) (C : Type 0) → (a ≡ true → C) → (b ≡ true → C) → (a || b) ≡ true → C
one_of true b C first second e = first refl
one_of false b C first second e = second e

no_seac : (token : CharToken) → (token ≡ Command Seac → ⊥) → is_seac token ≡ false
no_seac (Command Seac) other = absurd (other refl)
no_seac _ other = refl

-- ---- K03

told : (at : ℕ → Bool) (place : ℕ) → IsCodePlace place → at place ≡ true → (at 3 || at 4) ≡ true
told at _ base e = rw e refl
told at _ accent e = rw e (always (at 3))

lacks_at : (limit : ℕ) (font : FontValue) (step : StepView) (place : ℕ) → IsCodePlace place → is_lacking (code_at step place) (part limit font step place)
    ≡ true → LacksComponent font step
lacks_at limit font step place is_place e = go (part_of limit font step place)
  where
    parts : (is_named (code_at step place) ≡ true) × (not (part limit font step place).there ≡ true)
    parts = both _ _ e

    go : IsPart limit font step place → LacksComponent font step
    go (nameless no_name is) = let no : false ≡ true = sym no_name ∙ parts.0 in cc
    go (lacking name names absent is) = record { place = place; is_place = is_place; name = name; names = names; missing = absent }
    go (present glyph names is) = let no : false ≡ true = sym (ap (λ (c : Component). not c.there) is) ∙ parts.1 in cc

lacked_at : (limit : ℕ) (font : FontValue) (step : StepView) (place : ℕ) (name : List ℕ) → Names step place name → glyph_named font name ≡ None
    → is_lacking (code_at step place) (part limit font step place) ≡ true
lacked_at limit font step place name names absent =
    ap (λ b. b && not (part limit font step place).there) (is_a_name step place name names)
    ∙ ap (λ (c : Component). not c.there) (by_name limit font step place name names ∙ ap (component_of_glyph limit font) absent)

pub missing_glyphs_are_told : MissingGlyphsAreTold
missing_glyphs_are_told limit font before step is =
    let at = λ (place : ℕ). is_lacking (code_at step place) (part limit font step place) in
    let broken : breaks_by_component limit font K03 before step ≡ (at 3 || at 4) = k03_row limit font before step
    ∙ ap (λ token. is_seac token && (at 3 || at 4)) is in (
      λ e. one_of (at 3) (at 4) (LacksComponent font step) (lacks_at limit font step 3 base) (lacks_at limit font step 4 accent) (sym broken ∙ e),
      λ r. broken ∙ told at r.place r.is_place (lacked_at limit font step r.place r.name r.names r.missing),
    )

-- ---- K04

seac_of : (token : CharToken) → is_seac token ≡ true → token ≡ Command Seac
seac_of (Command Seac) e = refl
seac_of _ e = let no : false ≡ true = e in cc

record SeacAt (steps : List StepView) : Type 0 where
  at : ℕ
  seac : StepView
  there : slice_get steps at ≡ Some seac
  is_seac : IsCommand seac Seac

seac_at : (steps : List StepView) → list_any is_seac_step steps ≡ true → SeacAt steps
seac_at [] e = let no : false ≡ true = e in cc
seac_at (s ∷ ss) e = go (is_seac s.token) refl e (seac_at ss)
  where
    go : (b : Bool) → is_seac s.token ≡ b → (b || list_any is_seac_step ss) ≡ true → (list_any is_seac_step ss ≡ true → SeacAt ss) → SeacAt (s ∷ ss)
    go true is e rest = record { at = 0; seac = s; there = refl; is_seac = seac_of s.token is }
    go false is e rest = let later = rest e in record { at = suc later.at; seac = later.seac; there = later.there; is_seac = later.is_seac }

seac_there : (steps : List StepView) (at : ℕ) (s : StepView) → slice_get steps at ≡ Some s → IsCommand s Seac → list_any is_seac_step steps ≡ true
seac_there [] at s there is = let no : None ≡ Some s = there in cc
seac_there (x ∷ xs) zero s there is = let same : x ≡ s = cc in rw (same, is) refl
seac_there (x ∷ xs) (suc at) s there is = rw (seac_there xs at s there is) (always (is_seac x.token))

abbrev has_seac : Component → Bool
has_seac component = component.has_seac

nests_at : (limit : ℕ) (font : FontValue) (step : StepView) (place : ℕ) → IsCodePlace place → has_seac (part limit font step place) ≡ true
    → Nests limit font step
nests_at limit font step place is_place e =
    let found = has has_seac refl limit font step place e in
    let at = seac_at (looked_at limit font found.glyph) found.such in
    record { place = place; is_place = is_place; glyph = found.glyph; names = found.names; at = at.at; seac = at.seac; there = at.there; is_seac = at.is_seac }

pub nested_seacs_are_told : NestedSeacsAreTold
nested_seacs_are_told limit font before step is =
    let at = λ (place : ℕ). has_seac (part limit font step place) in
    let broken : breaks_by_component limit font K04 before step ≡ (at 3 || at 4) = k04_row limit font before step
    ∙ ap (λ token. is_seac token && (at 3 || at 4)) is in (
      λ e. one_of (at 3) (at 4) (Nests limit font step) (nests_at limit font step 3 base) (nests_at limit font step 4 accent) (sym broken ∙ e),
      λ r. broken ∙ told at r.place r.is_place
          (had has_seac limit font step r.place r.glyph r.names (seac_there (looked_at limit font r.glyph) r.at r.seac r.there r.is_seac)),
    )

-- ---- K07

no_width : (steps : List StepView) → is_none (first_sidebearing steps) ≡ true → list_any is_width steps ≡ false
no_width [] e = refl
no_width (s ∷ ss) e = go (sets_width s.token) e (no_width ss)
  where
    go : (b : Bool) → is_none (if b then Some (argument s.stack 0) else first_sidebearing ss) ≡ true
        → (is_none (first_sidebearing ss) ≡ true → list_any is_width ss ≡ false) → (b || list_any is_width ss) ≡ false
    go true e rest = let no : false ≡ true = e in cc
    go false e rest = rest e

width_none : (steps : List StepView) → list_any is_width steps ≡ false → is_none (first_sidebearing steps) ≡ true
width_none [] e = refl
width_none (s ∷ ss) e = go (sets_width s.token) e (width_none ss)
  where
    go : (b : Bool) → (b || list_any is_width ss) ≡ false → (list_any is_width ss ≡ false → is_none (first_sidebearing ss) ≡ true)
        → is_none (if b then Some (argument s.stack 0) else first_sidebearing ss) ≡ true
    go true e rest = let no : true ≡ false = e in cc
    go false e rest = rest e

lacks_width_at : (limit : ℕ) (font : FontValue) (step : StepView) (place : ℕ) → IsCodePlace place → is_without_sidebearing (part limit font step place) ≡ true
    → LacksSidebearing limit font step
lacks_width_at limit font step place is_place e =
    let found = has is_without_sidebearing refl limit font step place e in
    record { place = place; is_place = is_place; glyph = found.glyph; names = found.names; none = no_width (looked_at limit font found.glyph) found.such }

pub missing_sidebearings_are_told : MissingSidebearingsAreTold
missing_sidebearings_are_told limit font before step is =
    let at = λ (place : ℕ). is_without_sidebearing (part limit font step place) in
    let broken : breaks_by_component limit font K07 before step ≡ (at 3 || at 4) = k07_row limit font before step
    ∙ ap (λ token. is_seac token && (at 3 || at 4)) is in (
      λ e. one_of (at 3) (at 4) (LacksSidebearing limit font step) (lacks_width_at limit font step 3 base) (lacks_width_at limit font step 4 accent) (sym broken
          ∙ e),
      λ r. broken ∙ told at r.place r.is_place
          (had is_without_sidebearing limit font step r.place r.glyph r.names (width_none (looked_at limit font r.glyph) r.none)),
    )

-- ---- K05

record FirstWidth (steps : List StepView) (sidebearing : ℤ) : Type 0 where
  front : List StepView
  width : StepView
  rest : List StepView
  is : steps ≡ front ++ width ∷ rest
  first : list_any is_width front ≡ false
  sets : sets_width width.token ≡ true
  has : argument width.stack 0 ≡ sidebearing

first_width : (steps : List StepView) (z : ℤ) → first_sidebearing steps ≡ Some z → FirstWidth steps z
first_width [] z e = let no : None ≡ Some z = e in cc
first_width (s ∷ ss) z e = go (sets_width s.token) refl e (first_width ss z)
  where
    go : (b : Bool) → sets_width s.token ≡ b → (if b then Some (argument s.stack 0) else first_sidebearing ss) ≡ Some z
        → (first_sidebearing ss ≡ Some z → FirstWidth ss z) → FirstWidth (s ∷ ss) z
    go true sets e rest = let same : argument s.stack 0 ≡ z = cc in record
        { front = []; width = s; rest = ss; is = refl; first = refl; sets = sets; has = same }
    go false sets e rest =
        let later = rest e in
        record {
          front = s ∷ later.front;
          width = later.width;
          rest = later.rest;
          is = ap (λ (more : List StepView). s ∷ more) later.is;
          first =
              rw (sets, later.first) refl;
          sets = later.sets;
          has = later.has;
        }

width_first : (front rest : List StepView) (width : StepView) → list_any is_width front ≡ false → sets_width width.token ≡ true
    → first_sidebearing (front ++ width ∷ rest) ≡ Some (argument width.stack 0)
width_first [] rest width none sets = rw sets refl
width_first (s ∷ ss) rest width none sets = go (sets_width s.token) none (width_first ss rest width)
  where
    go : (b : Bool) → (b || list_any is_width ss) ≡ false
        → (list_any is_width ss ≡ false → sets_width width.token ≡ true → first_sidebearing (ss ++ width ∷ rest) ≡ Some (argument width.stack 0))
        → (if b then Some (argument s.stack 0) else first_sidebearing (ss ++ width ∷ rest)) ≡ Some (argument width.stack 0)
    go true none later = let no : true ≡ false = none in cc
    go false none later = later none sets

another : (sidebearing z : ℤ) → not (int_eq sidebearing z) ≡ true → sidebearing ≢ z
another sidebearing z e same = absurd (grind (arith, ints, e, same))

is_other : (sidebearing z : ℤ) → sidebearing ≢ z → not (int_eq sidebearing z) ≡ true
is_other sidebearing z apart = go (int_eq sidebearing z) refl
  where
    same : int_eq sidebearing z ≡ true → sidebearing ≡ z
    same e = grind (arith, ints, e)

    go : (b : Bool) → int_eq sidebearing z ≡ b → not b ≡ true
    go true e = absurd (apart (same e))
    go false e = refl

differs : (limit : ℕ) (font : FontValue) (step : StepView) → is_another (part limit font step 4).sidebearing (argument step.stack 0) ≡ true
    → DiffersInSidebearing limit font step
differs limit font step e = go (first_sidebearing (looked_at limit font found.glyph)) refl found.such
  where
    found : Has (λ c. is_another c.sidebearing (argument step.stack 0)) limit font step 4
    found = has (λ c. is_another c.sidebearing (argument step.stack 0)) refl limit font step 4 e

    go : (sidebearing : Option ℤ) → first_sidebearing (looked_at limit font found.glyph) ≡ sidebearing → is_another sidebearing (argument step.stack 0) ≡ true
        → DiffersInSidebearing limit font step
    go None is e = let no : false ≡ true = e in cc
    go (Some z) is e =
        let first = first_width (looked_at limit font found.glyph) z is in
        record {
          glyph = found.glyph;
          names = found.names;
          front = first.front;
          width = first.width;
          rest = first.rest;
          steps = first.is;
          first = first.first;
          sets = first.sets;
          differs = λ same. another z (argument step.stack 0) e (sym first.has ∙ same);
        }

pub other_sidebearings_are_told : OtherSidebearingsAreTold
other_sidebearings_are_told limit font before step is =
    let broken : breaks_by_component limit font K05 before step ≡ is_another (part limit font step 4).sidebearing (argument step.stack 0) =
    k05_row limit font before step ∙ ap (λ token. is_seac token && is_another (part limit font step 4).sidebearing (argument step.stack 0)) is in (
      λ e. differs limit font step (sym broken ∙ e),
      λ r. broken ∙ had (λ c. is_another c.sidebearing (argument step.stack 0)) limit font step 4 r.glyph r.names
          (ap (λ sidebearing. is_another sidebearing (argument step.stack 0)) (ap first_sidebearing r.steps ∙ width_first r.front r.rest r.width r.first r.sets)
          ∙ is_other (argument r.width.stack 0) (argument step.stack 0) r.differs),
    )

-- ---- K01 and K02

no_code_at : (step : StepView) (place : ℕ) → IsCodePlace place → is_none (code_at step place) ≡ true → HasNoCode step
no_code_at step place is_place e = record {
  place = place;
  is_place = is_place;
  none = λ code is. let no : false ≡ true = sym (ap is_none ((codes_are_whole_to_255 (argument step.stack place) code).1 is)) ∙ e in cc;
}

none_at : (step : StepView) (place : ℕ) → ((code : ℕ) → IsCode (argument step.stack place) code → ⊥) → is_none (code_at step place) ≡ true
none_at step place none = go (code_at step place) refl
  where
    go : (found : Option ℕ) → code_at step place ≡ found → is_none (code_at step place) ≡ true
    go None is = ap is_none is
    go (Some code) is = absurd (none code ((codes_are_whole_to_255 (argument step.stack place) code).0 is))

pub wrong_codes_are_told : WrongCodesAreTold
wrong_codes_are_told edition before step is =
    let at = λ (place : ℕ). is_none (code_at step place) in
    let broken : violates edition K01 before step ≡ (at 3 || at 4) = k01_row edition before step ∙ ap (λ token. is_seac token && (at 3 || at 4)) is in (
      λ e. one_of (at 3) (at 4) (HasNoCode step) (no_code_at step 3 base) (no_code_at step 4 accent) (sym broken ∙ e),
      λ r. broken ∙ told at r.place r.is_place (none_at step r.place r.none),
    )

unnamed_at : (step : StepView) (place : ℕ) → IsCodePlace place → is_unnamed (code_at step place) ≡ true → HasUnnamedCode step
unnamed_at step place is_place e = go (code_at step place) refl e
  where
    no_letters : (name : List ℕ) → (length name == 0) ≡ true → name ≡ []
    no_letters [] none = refl
    no_letters (c ∷ cs) none = absurd (omega (arith, eqb-true (length (c ∷ cs)) 0 none))

    go : (found : Option ℕ) → code_at step place ≡ found → is_unnamed found ≡ true → HasUnnamedCode step
    go None is e = let no : false ≡ true = e in cc
    go (Some code) is e =
        record {
          place = place;
          is_place = is_place;
          code = code;
          is_code = (codes_are_whole_to_255 (argument step.stack place) code).0 is;
          unnamed =
              no_letters (standard_name code) e;
        }

pub unnamed_codes_are_told : UnnamedCodesAreTold
unnamed_codes_are_told edition before step is =
    let at = λ (place : ℕ). is_unnamed (code_at step place) in
    let broken : violates edition K02 before step ≡ (at 3 || at 4) = k02_row edition before step ∙ ap (λ token. is_seac token && (at 3 || at 4)) is in (
      λ e. one_of (at 3) (at 4) (HasUnnamedCode step) (unnamed_at step 3 base) (unnamed_at step 4 accent) (sym broken ∙ e),
      λ r. broken ∙ told at r.place r.is_place (ap is_unnamed ((codes_are_whole_to_255 (argument step.stack r.place) r.code).1 r.is_code)
          ∙ ap (λ (name : List ℕ). length name == 0) r.unnamed),
    )

pub seac_alone_has_codes : SeacAloneHasCodes
seac_alone_has_codes edition before step other = record {
  wrong = k01_row edition before step ∙ rw (no_seac step.token other) refl;
  unnamed = k02_row edition before step ∙ rw (no_seac step.token other) refl;
}

-- ---- others

pub seac_alone_has_components : SeacAloneHasComponents
unfolding component_rules
seac_alone_has_components limit font rule before step other = rw (no_seac step.token other) refl
