use Rattle.std.proofs.Common.{◌≡◌, ◌++◌, ℕ, List, [], ◌∷◌, ap, append-nil, append_assoc, refl, string_bytes, subst, sym, ◌∙◌}
use Rattle.t1_font.specs.Fonts.{FontValue}
use Rattle.t1_report.specs.Faults.{faults_of}
use Rattle.t1_report.specs.declared.faults.Fault.{Fault}
use Rattle.t1draw.specs.Folders.{glyphs_after, glyphs_at_turn}
use Rattle.t1draw.specs.Private.Sheets.{AddsPictures}
use Rattle.t1draw.proofs.Pictures.{both_added}
use Rattle.t1draw.proofs.Slices.{none_in, uncons}
use Rattle.t1draw.proofs.folder.push_pictures.Goals as goal

-- the first fault's glyph, and those of the others
turned : (font : FontValue) (unit : ℕ) (rest others : List Fault) (fault : Fault) → rest ≡ fault ∷ others
    → glyphs_at_turn font unit fault.unit ++ glyphs_after font fault.unit (faults_of others) ≡ glyphs_after font unit (faults_of rest)
unfolding glyphs_after
turned font unit rest others fault is = rw is refl

no_glyph : (font : FontValue) (unit : ℕ) (rest : List Fault) → rest ≡ [] → glyphs_after font unit (faults_of rest) ≡ []
unfolding glyphs_after
no_glyph font unit rest is = rw is refl

pub loop-rest-preserved : goal.loop-rest-preserved
loop-rest-preserved c =
    let held = c.loop-rest.invariant in
    let font = c.args.sheet.now.font.now in
    let whole = uncons c.loop-rest.rest.now c.fault-item.result c.in-len1-up.len_at_least c.fault-item.is in (
      held.0 ++ glyphs_at_turn font c.loop-rest.unit c.fault-item.result.unit,
      both_added c.args.sheet.now held.0 _ _ _ _ held.1 c.in_ok-push_turn.ensures,
      append_assoc held.0 _ _
          ∙ ap (λ (glyphs : List ℕ). held.0 ++ glyphs) (turned font c.loop-rest.unit c.loop-rest.rest.now _ c.fault-item.result whole)
          ∙ held.2,
    )

pub returns : goal.returns
returns c =
    let held = c.loop-rest.invariant in
    let font = c.args.sheet.now.font.now in
    let none = no_glyph font c.loop-rest.unit c.loop-rest.rest.now (none_in c.loop-rest.rest.now c.in_default.len_below) in
    subst (λ (glyphs : List ℕ). AddsPictures c.args.sheet.now glyphs (string_bytes c.args.text.now) (string_bytes c.loop-rest.text))
    (sym (append-nil held.0) ∙ ap (λ (glyphs : List ℕ). held.0 ++ glyphs) (sym none) ∙ held.2) held.1
