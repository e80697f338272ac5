-- What a search returns of a unit, given waivers, from what is broken there.
use Rattle.std.proofs.Common.{◌≡◌, ℕ, ◌+◌, ◌-◌, ◌<◌, ◌≤◌, ◌&&◌, inl, inr, not, false, List, [], length, slice_get, sym, ap, subst, ◌∙◌, arith, Option, None, Some, MatchOption}
use Rattle.t1_font.specs.Fonts.{glyph_name}
use Rattle.t1_report.specs.Checked.{CheckedFont}
use Rattle.t1_rules.specs.Book.{number_of}
use Rattle.t1_rules.specs.Mask.{has}
use Rattle.t1_report.specs.declared.walk.font_places.FontPlaces.{FontPlaces}
use Rattle.t1_report.specs.declared.walk.found.Found.{Found}
use Rattle.t1_report.specs.declared.walk.glyph_run.GlyphRun.{GlyphRun}
use Rattle.t1_report.specs.declared.walk.search.Part.{Part}
use Rattle.t1_report.specs.declared.walk.search.Part.TheVariants.{Font, Glyph, Waivers}
use Rattle.t1_report.specs.declared.walk.search.Search.{Search}
use Rattle.t1_report.specs.Reports.{is_broken, is_told, path_in, tells_unused}
use Rattle.t1_report.specs.Private.Units.{IsFirst, IsQuietFrom, font_step, executed}
use Rattle.t1_report.specs.Private.Searches.{IsFirstTold, IsPart, IsSearch, IsWaiverPart, TellsNoneFrom, checked_in, step_of_part}
use Rattle.t1_report.specs.Waivers.{Waiver, is_waived}
use Rattle.t1_report.specs.Walks.{first_asked, turns_asked}
use Rattle.t1_report.specs.Private.Units.{turns_if_any}
use Rattle.t1_report.proofs.Asked.{asked_more}
use Rattle.t1_report.proofs.Broken.{no_path_behind}
use Rattle.t1_report.proofs.Told.{no_waiver, quiet_told, told_in_font, told_in_glyph, told_of_waiver}

-- The search's part, by its kind.
pub part_as : (s : Search) (part : Part) → s.part ≡ part → IsSearch s → IsPart (checked_in s) s.waivers.now s.from s.first s.unit s.passed s.checked part
part_as s part is search = subst (λ p. IsPart (checked_in s) s.waivers.now s.from s.first s.unit s.passed s.checked p) is search.part_is

-- ---- the font

font_told : (font : CheckedFont) (waivers : List Waiver) (unit step n : ℕ) → unit ≡ 0 → is_told font waivers unit step n ≡ is_broken font 0 step n
font_told font waivers unit step n first = ap (λ u. is_told font waivers u step n) first ∙ told_in_font font waivers step n

first_in_font : (font : CheckedFont) (waivers : List Waiver) (unit from : ℕ) (r : Option Found) → unit ≡ 0 → MatchOption r (IsQuietFrom font 0 from)
    (λ found. IsFirst font 0 from found)
    → MatchOption r (TellsNoneFrom font waivers unit from) (λ found. IsFirstTold font waivers unit from found)
first_in_font font waivers unit from None first quiet = λ s rule past. font_told font waivers unit s (number_of rule) first ∙ quiet s rule past
first_in_font font waivers unit from (Some found) first is =
    record {
      unit_is = is.unit_is ∙ sym first;
      behind = is.behind;
      quiet = λ s rule past less. font_told font waivers unit s (number_of rule) first ∙ is.quiet s rule past less;
      rules = λ n. is.rules n ∙ sym (font_told font waivers unit found.step n first);
      path = is.path ∙ ap (λ u. path_in font.value u found.step) (sym first);
    }

pub told_of_font : (s : Search) (places : FontPlaces) (r : Option Found) → s.part ≡ Font places → IsSearch s
    → MatchOption r (IsQuietFrom (checked_in s) 0 (font_step places)) (λ found. IsFirst (checked_in s) 0 (font_step places) found)
    → MatchOption r (TellsNoneFrom (checked_in s) s.waivers.now s.unit (step_of_part s.part))
    (λ found. IsFirstTold (checked_in s) s.waivers.now s.unit (step_of_part s.part) found)
told_of_font s places r is search found =
    subst (λ from. MatchOption r (TellsNoneFrom (checked_in s) s.waivers.now s.unit from) (λ found. IsFirstTold (checked_in s) s.waivers.now s.unit from found))
    (sym (ap step_of_part is))
    (first_in_font (checked_in s) s.waivers.now s.unit (font_step places) r (part_as s (Font places) is search).0.unit_is found)

-- ---- a glyph

first_of_glyph : (font : CheckedFont) (waivers : List Waiver) (unit glyph from : ℕ) (found told : Found) → unit ≡ glyph + 1 → glyph < length font.value.glyphs
    → IsFirst font unit from found
    → told.unit ≡ found.unit → told.step ≡ found.step → told.path.items ≡ found.path.items
    → ((n : ℕ) → has told.rules n ≡ (has found.rules n && not (is_waived waivers (glyph_name font.value (found.unit - 1)) n)))
    → IsFirstTold font waivers unit from told
first_of_glyph font waivers unit glyph from found told at there is same_unit same_step same_path rules =
    record {
      unit_is = same_unit ∙ is.unit_is;
      behind = omega (arith, is.behind, same_step);
      quiet = λ s rule past less. quiet_told font waivers unit s (number_of rule) (omega (arith, at, there))
          (is.quiet s rule past (omega (arith, less, same_step)));
      rules = λ n. rules n
          ∙ ap (λ b. b && not (is_waived waivers (glyph_name font.value (found.unit - 1)) n)) (is.rules n)
          ∙ ap (λ g. is_broken font unit found.step n && not (is_waived waivers (glyph_name font.value g) n))
          (let here : found.unit - 1 ≡ glyph = omega (arith, is.unit_is, at) in here)
          ∙ sym (told_in_glyph font waivers unit glyph found.step n at there)
          ∙ ap (λ s. is_told font waivers unit s n) (sym same_step);
      path = same_path ∙ is.path ∙ ap (path_in font.value unit) (sym same_step);
    }

there_in : (s : Search) (run : GlyphRun) → s.part ≡ Glyph run → IsSearch s → run.machine.glyph < length s.font.now.glyphs
there_in s run is search =
    let at = (part_as s (Glyph run) is search).0 in
    subst (λ (f : CheckedFont). run.machine.glyph < length f.value.glyphs) at.font_is at.runs.there

pub told_of_glyph : (s : Search) (run : GlyphRun) (found told : Found) → s.part ≡ Glyph run → IsSearch s
    → IsFirst (executed run.machine) s.unit (run.machine.counted + 1) found
    → told.unit ≡ found.unit → told.step ≡ found.step → told.path.items ≡ found.path.items
    → ((n : ℕ) → has told.rules n ≡ (has found.rules n && not (is_waived s.waivers.now (glyph_name s.font.now (found.unit - 1)) n)))
    → IsFirstTold (checked_in s) s.waivers.now s.unit (step_of_part s.part) told
told_of_glyph s run found told is search first same_unit same_step same_path rules =
    let at = (part_as s (Glyph run) is search).0 in
    subst (λ from. IsFirstTold (checked_in s) s.waivers.now s.unit from told) (sym (ap step_of_part is))
    (first_of_glyph (checked_in s) s.waivers.now s.unit run.machine.glyph (run.machine.counted + 1) found told at.unit_is (there_in s run is search)
    (subst (λ f. IsFirst f s.unit (run.machine.counted + 1) found) at.font_is first) same_unit same_step same_path rules)

pub none_of_glyph : (s : Search) (run : GlyphRun) → s.part ≡ Glyph run → IsSearch s → IsQuietFrom (executed run.machine) s.unit (run.machine.counted + 1)
    → TellsNoneFrom (checked_in s) s.waivers.now s.unit (step_of_part s.part)
none_of_glyph s run is search quiet =
    let at = (part_as s (Glyph run) is search).0 in
    let there = there_in s run is search in
    subst (λ from. TellsNoneFrom (checked_in s) s.waivers.now s.unit from) (sym (ap step_of_part is))
    (λ t rule past. quiet_told (checked_in s) s.waivers.now s.unit t (number_of rule) (omega (arith, at.unit_is, there))
    (subst (λ f. is_broken f s.unit t (number_of rule) ≡ false) at.font_is (quiet t rule past)))

-- ---- the waivers

pub told_of_next : (s : Search) (next : ℕ) (found : Found) → s.part ≡ Waivers next → IsSearch s → found.unit ≡ s.unit → found.step ≡ next
    → found.path.items ≡ []
    → ((n : ℕ) → has found.rules n ≡ tells_unused (checked_in s) s.waivers.now (next - 1 + 1) n) → IsFirstTold (checked_in s) s.waivers.now
    s.unit (step_of_part s.part) found
told_of_next s next found is search unit_is step_is path rules =
    let at = part_as s (Waivers next) is search in
    let here : next - 1 + 1 ≡ found.step = omega (arith, at.first, step_is) in
    subst (λ from. IsFirstTold (checked_in s) s.waivers.now s.unit from found) (sym (ap step_of_part is))
    (record {
      unit_is = unit_is;
      behind = omega (arith, step_is);
      quiet = λ t rule past less. absurd (omega (arith, past, less, step_is));
      rules = λ n. rules n ∙ ap (λ t. tells_unused (checked_in s) s.waivers.now t n) here
          ∙ sym (told_of_waiver (checked_in s) s.waivers.now s.unit found.step n at.unit_is);
      path = path ∙ sym (no_path_behind s.font.now s.unit found.step (omega (arith, at.unit_is)));
    })

pub none_of_waivers : (s : Search) (next : ℕ) → s.part ≡ Waivers next → IsSearch s → length s.waivers.now < next
    → TellsNoneFrom (checked_in s) s.waivers.now s.unit (step_of_part s.part)
none_of_waivers s next is search past =
    let at = part_as s (Waivers next) is search in
    subst (λ from. TellsNoneFrom (checked_in s) s.waivers.now s.unit from) (sym (ap step_of_part is))
    (λ t rule behind. told_of_waiver (checked_in s) s.waivers.now s.unit t (number_of rule) at.unit_is ∙ no_waiver (checked_in s) s.waivers.now t
    (number_of rule) (omega (arith, past, behind)))

-- One more was tested.
pub one_more_asked : (font : CheckedFont) (waivers : List Waiver) (from first unit passed checked next turns : ℕ) → IsWaiverPart font waivers from first unit
    passed checked next → next ≤ length waivers
    → turns ≡ turns_if_any font (slice_get waivers (next - 1)) → IsWaiverPart font waivers from first unit passed (checked + turns) (next + 1)
one_more_asked font waivers from first unit passed checked next turns is within asked =
    let less : first_asked font waivers from first < next = elim is.begun [ inl less ↦ less | inr all ↦ absurd (omega (arith, all, within)) ] in
    let here : next - 1 + 1 ≡ next + 1 - 1 = omega (arith, is.first) in
    record {
      begins = is.begins;
      unit_is = is.unit_is;
      first = omega arith;
      within = omega (arith, within);
      passed_are = is.passed_are;
      begun = inl (omega (arith, less));
      checked_are = ap (λ n. n + turns) is.checked_are
          ∙ ap (λ n. turns_asked font waivers from first (next - 1) + n) asked
          ∙ sym (asked_more font waivers from first (next - 1) (omega (arith, less)) (omega (arith, is.first, within)))
          ∙ ap (turns_asked font waivers from first) here;
      few = is.few;
      few_waivers = is.few_waivers;
    }

pub next_asked : (s : Search) (next turns : ℕ) → s.part ≡ Waivers next → IsSearch s → next ≤ length s.waivers.now
    → turns ≡ turns_if_any (checked_in s) (slice_get s.waivers.now (next - 1))
    → IsWaiverPart (checked_in s) s.waivers.now s.from s.first s.unit s.passed (s.checked + turns) (next + 1)
next_asked s next turns is search within asked =
    one_more_asked (checked_in s) s.waivers.now s.from s.first s.unit s.passed s.checked next turns (part_as s (Waivers next) is search) within asked
