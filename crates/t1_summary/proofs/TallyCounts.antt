-- The counts of a tally.
use Rattle.std.proofs.Common.{◌≡◌, ◌+◌, ◌-◌, ◌<◌, ◌^◌, ℕ, All, Bool, List, [], ◌∷◌, ◌++◌, get_or, length, map, set, refl, sym, ap, ◌∙◌, arith}
use Rattle.std.proofs.lemmas.List.Elements.{All-map}
use Rattle.std.proofs.lemmas.List.Sums.{count_by-le-length, sum-map}
use Rattle.std.specs.List.{count_by}
use Rattle.t1_rules.specs.Book.{number_of, rules}
use Rattle.t1_rules.specs.declared.rule.Rule.{Rule}
use Rattle.t1_rules.specs.declared.rule.Rule.TheVariants.{F01}
use Rattle.t1_summary.proofs.Counts.{bumped, capped_fits, classes_add_up, count_more, each_same, is_class, is_rule, rules_add_up, sums_capped, sums_whole}
use Rattle.t1_summary.specs.Classes.{capped, classes, fonts_of, lines_of, place_of}
use Rattle.t1_summary.specs.Laws.{FontsAddUp, LinesAddUp, TalliesCount}
use Rattle.t1_summary.specs.Tallies.{IsTally, fonts_in, lines_in, tally_of}
use Rattle.t1_summary.specs.declared.found.FontClass.{FontClass}
use Rattle.t1_summary.specs.declared.found.FontClass.TheVariants.{Clean, Known, Faulty, Refused, Unchecked}
use Rattle.t1_summary.specs.declared.tally.Tally.{Tally}

abbrev tally : List ℕ → List ℕ → Tally
tally fonts lines = record { fonts = fonts; lines = lines }

-- ---- laws

class_at : (f : FontClass → ℕ) (class : FontClass) → get_or (map f classes) (place_of class) 0 ≡ f class
class_at f Clean = refl
class_at f Known = refl
class_at f Faulty = refl
class_at f Refused = refl
class_at f Unchecked = refl

rule_at : (f : Rule → ℕ) (rule : Rule) → get_or (map f rules) (number_of rule - 1) 0 ≡ f rule
rule_at f F01 = refl
rule_at f _ = refl

all_fit : {C : Type 0} (f : C → ℕ) (cs : List C) → All (λ n. n < 2 ^ 64) (map (λ (c : C). capped (f c)) cs)
all_fit {C} f cs = All-map (λ n. n < 2 ^ 64) (λ (c : C). capped (f c)) cs (λ k d less. capped_fits (f (get_or cs k d)))

whole : (founds : List FontClass) (lines : List Rule) → IsTally (tally_of founds lines)
unfolding tally_of
whole founds lines = record {
  classes = refl;
  rules = refl;
  fonts_fit = all_fit (fonts_of founds) classes;
  lines_fit = all_fit (lines_of lines) rules;
}

pub tallies_count : TalliesCount
unfolding tally_of
tallies_count founds lines = record {
  is = whole founds lines;
  fonts = ap capped (sum-map (λ (class : FontClass). capped (fonts_of founds class)) classes) ∙ sums_capped (fonts_of founds) classes
      ∙ ap capped (classes_add_up founds);
  of_class = class_at (λ (class : FontClass). capped (fonts_of founds class));
  of_rule = rule_at (λ (rule : Rule). capped (lines_of lines rule));
}

few : {X : Type 0} (p : X → Bool) (xs : List X) → length xs < 2 ^ 64 → count_by p xs < 2 ^ 64
few p xs less = let most = count_by-le-length p xs in omega (arith, most, less)

pub fonts_add_up : FontsAddUp
unfolding tally_of
fonts_add_up founds lines less =
    sum-map (λ (class : FontClass). capped (fonts_of founds class)) classes
    ∙ sums_whole (fonts_of founds) classes (λ class. few (is_class class) founds less) ∙ classes_add_up founds

pub lines_add_up : LinesAddUp
unfolding tally_of
lines_add_up founds lines less =
    sum-map (λ (rule : Rule). capped (lines_of lines rule)) rules
    ∙ sums_whole (lines_of lines) rules (λ rule. few (is_rule rule) lines less) ∙ rules_add_up lines

-- ---- one more

class_set : (f : FontClass → ℕ) (found : FontClass)
    → set (map f classes) (place_of found) (capped (f found + 1)) ≡ map (λ (class : FontClass). bumped (is_class class found) (f class)) classes
class_set f Clean = refl
class_set f Known = refl
class_set f Faulty = refl
class_set f Refused = refl
class_set f Unchecked = refl

rule_set : (f : Rule → ℕ) (line : Rule)
    → set (map f rules) (number_of line - 1) (capped (f line + 1)) ≡ map (λ (rule : Rule). bumped (is_rule rule line) (f rule)) rules
rule_set f F01 = refl
rule_set f _ = refl

pub one_font_more : (founds : List FontClass) (lines : List Rule) (found : FontClass)
    → tally (set (tally_of founds lines).fonts (place_of found) (capped (fonts_in (tally_of founds lines) found + 1))) (tally_of founds lines).lines
    ≡ tally_of (founds ++ found ∷ []) lines
unfolding tally_of
one_font_more founds lines found =
    let f = λ (class : FontClass). capped (fonts_of founds class) in
    ap (λ (fonts : List ℕ). tally fonts (tally_of founds lines).lines)
    (ap (λ (n : ℕ). set (map f classes) (place_of found) (capped (n + 1))) (class_at f found) ∙ class_set f found
    ∙ sym (each_same (λ (class : FontClass). capped (fonts_of (founds ++ found ∷ []) class)) (λ (class : FontClass). bumped (is_class class found) (f class)) classes
    (λ class. count_more (is_class class) founds found)))

pub one_line_more : (founds : List FontClass) (lines : List Rule) (line : Rule)
    → tally (tally_of founds lines).fonts (set (tally_of founds lines).lines (number_of line - 1) (capped (lines_in (tally_of founds lines) line + 1)))
    ≡ tally_of founds (lines ++ line ∷ [])
unfolding tally_of
one_line_more founds lines line =
    let f = λ (rule : Rule). capped (lines_of lines rule) in
    ap (λ (numbers : List ℕ). tally (tally_of founds lines).fonts numbers)
    (ap (λ (n : ℕ). set (map f rules) (number_of line - 1) (capped (n + 1))) (rule_at f line) ∙ rule_set f line
    ∙ sym (each_same (λ (rule : Rule). capped (lines_of (lines ++ line ∷ []) rule)) (λ (rule : Rule). bumped (is_rule rule line) (f rule)) rules
    (λ rule. count_more (is_rule rule) lines line)))

-- ---- as the program counts

pub added : (t : Tally) (place more : ℕ) (found : FontClass) → place ≡ place_of found → more ≡ capped (get_or t.fonts place 0 + 1)
    → (founds : List FontClass) (lines : List Rule) → t ≡ tally_of founds lines
    → tally (set t.fonts place more) t.lines ≡ tally_of (founds ++ found ∷ []) lines
added t place more found at is founds lines same =
    ap (λ (m : ℕ). tally (set t.fonts place m) t.lines) is
    ∙ ap (λ (p : ℕ). tally (set t.fonts p (capped (get_or t.fonts p 0 + 1))) t.lines) at
    ∙ ap (λ (s : Tally). tally (set s.fonts (place_of found) (capped (fonts_in s found + 1))) s.lines) same
    ∙ one_font_more founds lines found

pub line_added : (t : Tally) (place more : ℕ) (line : Rule) → place ≡ number_of line - 1 → more ≡ capped (get_or t.lines place 0 + 1)
    → (founds : List FontClass) (lines : List Rule) → t ≡ tally_of founds lines
    → tally t.fonts (set t.lines place more) ≡ tally_of founds (lines ++ line ∷ [])
line_added t place more line at is founds lines same =
    ap (λ (m : ℕ). tally t.fonts (set t.lines place m)) is
    ∙ ap (λ (p : ℕ). tally t.fonts (set t.lines p (capped (get_or t.lines p 0 + 1)))) at
    ∙ ap (λ (s : Tally). tally s.fonts (set s.lines (number_of line - 1) (capped (lines_in s line + 1)))) same
    ∙ one_line_more founds lines line
