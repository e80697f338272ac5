use Rattle.std.proofs.Common.{◌≡◌, ◌++◌, ℕ, List, [], ◌∷◌, Option, Some, ap, append_assoc, refl, string_bytes, subst, ◌∙◌}
use Rattle.std.proofs.lemmas.List.Elements.{All-tail}
use Rattle.std.specs.List.{All}
use Rattle.t1_font.specs.Fonts.{FontValue}
use Rattle.t1_report.specs.Faults.{fault_value, faults_of}
use Rattle.t1_report.specs.Lines.{IsInFont}
use Rattle.t1_report.specs.Waivers.{Waiver}
use Rattle.t1_report.specs.declared.faults.Fault.{Fault}
use Rattle.t1draw.specs.Folders.{end_of, line_text, parts_from, turn_to}
use Rattle.t1draw.proofs.Slices.{none_in, uncons}
use Rattle.t1draw.proofs.index.push_parts.Goals as goal

-- the part of the first fault, and the others
first_part : (font : FontValue) (waivers : List Waiver) (begun : Option ℕ) (rest others : List Fault) (fault : Fault) → rest ≡ fault ∷ others
    → turn_to font begun fault.unit ++ (line_text font waivers (fault_value fault) ++ parts_from font waivers (Some fault.unit) (faults_of others))
    ≡ parts_from font waivers begun (faults_of rest)
unfolding parts_from
first_part font waivers begun rest others fault is = rw is refl

no_part : (font : FontValue) (waivers : List Waiver) (begun : Option ℕ) (rest : List Fault) → rest ≡ []
    → end_of begun ≡ parts_from font waivers begun (faults_of rest)
unfolding parts_from
no_part font waivers begun rest is = rw is refl

-- two texts are appended before what follows
appended : (html turned lined turn line rest : List ℕ) → turned ≡ html ++ turn → lined ≡ turned ++ line
    → lined ++ rest ≡ html ++ (turn ++ (line ++ rest))
appended html turned lined turn line rest is is' =
    ap (λ (t : List ℕ). t ++ rest) is' ∙ append_assoc turned line rest ∙ ap (λ (t : List ℕ). t ++ (line ++ rest)) is
    ∙ append_assoc html turn (line ++ rest)

later : (P : Fault → Type 0) (rest others : List Fault) (fault : Fault) → rest ≡ fault ∷ others → All P rest → All P others
later P rest others fault is all = All-tail P fault others (subst (All P) is all)

pub loop-rest-preserved : goal.loop-rest-preserved
loop-rest-preserved c =
    let font = c.args.sheet.now.font.now in
    let waivers = c.args.sheet.now.waivers.now in
    let held = c.loop-rest.invariant in
    let whole = uncons c.loop-rest.rest.now c.fault-item.result c.in-len1-up.len_at_least c.fault-item.is in record {
      in_font = later (λ fault. IsInFont font waivers (fault_value fault)) c.loop-rest.rest.now _ c.fault-item.result whole held.in_font;
      written = appended (string_bytes c.loop-rest.html) _ _ _ _ _ c.in_ok-turn_to.ensures c.in_ok-push_line.ensures
          ∙ ap (λ (t : List ℕ). string_bytes c.loop-rest.html ++ t)
          (first_part font waivers c.loop-rest.begun c.loop-rest.rest.now _ c.fault-item.result whole)
          ∙ held.written;
    }

pub returns : goal.returns
returns c =
    let font = c.args.sheet.now.font.now in
    let waivers = c.args.sheet.now.waivers.now in
    let held = c.loop-rest.invariant in
    c.in_ok-push_end_of.ensures
    ∙ ap (λ (t : List ℕ). string_bytes c.loop-rest.html ++ t)
    (no_part font waivers c.loop-rest.begun c.loop-rest.rest.now (none_in c.loop-rest.rest.now c.in_default.len_below))
    ∙ held.written
