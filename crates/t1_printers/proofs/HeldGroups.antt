-- Groups of lines that are held.
use Rattle.std.proofs.Common.{◌≡◌, ◌≢◌, ◌-◌, ◌==◌, ℕ, Bool, true, false, List, [], ◌∷◌, ◌++◌, Option, ap, append-nil, arith, cond, inl, inr, length, map, refl, subst, sym, ◌∙◌}
use Rattle.std.proofs.lemmas.Bool.{cases_Bool, eq-eqb, eqb-false, eqb-true}
use Rattle.std.proofs.lemmas.List.{get_or-replicate, get_or-set_other, get_or-set_same, length-map, length-replicate, length-set, map-append}
use Rattle.std.proofs.lemmas.List.Elements.{filter-append}
use Rattle.std.specs.List.{flat_map}
use Rattle.t1_printers.proofs.FirstReasons.{added_reason, reason_push}
use Rattle.t1_printers.proofs.GroupTails.{IsGroup, line_more, no_lines}
use Rattle.t1_printers.specs.GroupLines.{group_line, group_lines}
use Rattle.t1_printers.specs.Groups.{GroupValue, added, empty_group}
use Rattle.t1_printers.specs.Held.{HeldLine, by_level, first_reason, held_text, is_same_level, lines_of, of_level, reason_of, units_of}
use Rattle.t1_printers.specs.RuleGroups.{group_of, no_groups, with_line}
use Rattle.t1_printers.specs.Units.{NamedUnit, names_of}
use Rattle.t1_rules.proofs.Lemmas.Book.{in_book, one_rule}
use Rattle.t1_rules.specs.Book.{last_number, level_of, number_of, rules}
use Rattle.t1_rules.specs.declared.level.Level.TheVariants.{Must, Should, Tidy}
use Rattle.t1_rules.specs.declared.rule.Rule.{Rule}

-- The groups of all rules have these lines, and the reasons of the first.
pub record AreGroups (room : ℕ) (held : List HeldLine) (groups : List GroupValue) : Type 0 where
  pub all : length groups ≡ last_number
  pub each : (rule : Rule) → IsGroup room (units_of rule held) (group_of groups rule)
  pub reasons : (rule : Rule) → (group_of groups rule).reason ≡ first_reason rule held

pub none_held : (room : ℕ) → AreGroups room [] (no_groups room)
none_held room = record {
  all = length-replicate last_number (empty_group room);
  each = λ rule. (let book = in_book rule in
      subst (IsGroup room []) (sym (get_or-replicate last_number (number_of rule - 1) (empty_group room) (empty_group 0) (omega (arith, book.0, book.1))))
      (no_lines room));
  reasons = λ rule. (let book = in_book rule in
      ap (λ (g : GroupValue). g.reason)
      (get_or-replicate last_number (number_of rule - 1) (empty_group room) (empty_group 0) (omega (arith, book.0, book.1))));
}

-- ---- a line more

lines_same : (rule : Rule) (held : List HeldLine) (l : HeldLine) → (number_of l.rule == number_of rule) ≡ true
    → lines_of rule (held ++ l ∷ []) ≡ lines_of rule held ++ l ∷ []
lines_same rule held l is =
    filter-append (λ (m : HeldLine). number_of m.rule == number_of rule) held (l ∷ [])
    ∙ ap (λ b. lines_of rule held ++ cond b (l ∷ []) []) is

lines_other : (rule : Rule) (held : List HeldLine) (l : HeldLine) → (number_of l.rule == number_of rule) ≡ false
    → lines_of rule (held ++ l ∷ []) ≡ lines_of rule held
lines_other rule held l is =
    filter-append (λ (m : HeldLine). number_of m.rule == number_of rule) held (l ∷ [])
    ∙ ap (λ b. lines_of rule held ++ cond b (l ∷ []) []) is
    ∙ append-nil (lines_of rule held)

units_same : (rule : Rule) (held : List HeldLine) (l : HeldLine) → (number_of l.rule == number_of rule) ≡ true
    → units_of rule (held ++ l ∷ []) ≡ units_of rule held ++ l.unit ∷ []
units_same rule held l is =
    ap (map (λ (m : HeldLine). m.unit)) (lines_same rule held l is)
    ∙ map-append (λ (m : HeldLine). m.unit) (lines_of rule held) (l ∷ [])

units_other : (rule : Rule) (held : List HeldLine) (l : HeldLine) → (number_of l.rule == number_of rule) ≡ false
    → units_of rule (held ++ l ∷ []) ≡ units_of rule held
units_other rule held l is = ap (map (λ (m : HeldLine). m.unit)) (lines_other rule held l is)

module _ (room : ℕ) (held : List HeldLine) (groups : List GroupValue) (are : AreGroups room held groups) (l : HeldLine) where
  abbrev more : GroupValue
  more = added (group_of groups l.rule) l.unit.number l.unit.name l.reason

  here : group_of (with_line groups l) l.rule ≡ more
  here =
      let book = in_book l.rule in
      get_or-set_same groups (number_of l.rule - 1) more (empty_group 0) (omega (arith, book.0, book.1, are.all))

  there : (rule : Rule) → (number_of l.rule == number_of rule) ≡ false → group_of (with_line groups l) rule ≡ group_of groups rule
  there rule is =
      let book = in_book l.rule in
      let its = in_book rule in
      let apart = eqb-false (number_of l.rule) (number_of rule) is in
      let elsewhere : number_of rule - 1 ≢ number_of l.rule - 1 = λ same. apart (omega (arith, same, book.0, its.0)) in
      get_or-set_other groups (number_of l.rule - 1) (number_of rule - 1) more (empty_group 0) elsewhere

  its_own : (number_of l.rule == number_of l.rule) ≡ true
  its_own = eq-eqb (number_of l.rule) (number_of l.rule) refl

  own : IsGroup room (units_of l.rule (held ++ l ∷ [])) (group_of (with_line groups l) l.rule)
  own =
      let grown = line_more room (units_of l.rule held) l.unit l.reason (group_of groups l.rule) (are.each l.rule) in
      subst (λ g. IsGroup room (units_of l.rule (held ++ l ∷ [])) g) (sym here)
      (subst (λ units. IsGroup room units more) (sym (units_same l.rule held l its_own)) grown)

  other : (rule : Rule) → (number_of l.rule == number_of rule) ≡ false
      → IsGroup room (units_of rule (held ++ l ∷ [])) (group_of (with_line groups l) rule)
  other rule is =
      subst (λ g. IsGroup room (units_of rule (held ++ l ∷ [])) g) (sym (there rule is))
      (subst (λ units. IsGroup room units (group_of groups rule)) (sym (units_other rule held l is)) (are.each rule))

  own_reason : (group_of (with_line groups l) l.rule).reason ≡ first_reason l.rule (held ++ l ∷ [])
  own_reason =
      let lines = lines_of l.rule held in
      let count = (are.each l.rule).count ∙ length-map lines (λ (m : HeldLine). m.unit) in
      ap (λ (g : GroupValue). g.reason) here
      ∙ added_reason (group_of groups l.rule) l.unit.number l.unit.name l.reason
      ∙ ap (λ k. cond (k == 0) l.reason (group_of groups l.rule).reason) count
      ∙ ap (λ r. cond (length lines == 0) l.reason r) (are.reasons l.rule)
      ∙ sym (reason_push lines l)
      ∙ ap reason_of (sym (lines_same l.rule held l its_own))

  other_reason : (rule : Rule) → (number_of l.rule == number_of rule) ≡ false
      → (group_of (with_line groups l) rule).reason ≡ first_reason rule (held ++ l ∷ [])
  other_reason rule is =
      ap (λ (g : GroupValue). g.reason) (there rule is) ∙ are.reasons rule ∙ ap reason_of (sym (lines_other rule held l is))

  pub line_held : AreGroups room (held ++ l ∷ []) (with_line groups l)
  line_held = record {
    all = length-set groups (number_of l.rule - 1) more ∙ are.all;
    each = λ rule. elim (cases_Bool (number_of l.rule == number_of rule)) [
      | inl is ↦ (
          let same = one_rule l.rule rule (eqb-true (number_of l.rule) (number_of rule) is) in
          subst (λ r. IsGroup room (units_of r (held ++ l ∷ [])) (group_of (with_line groups l) r)) same own)
      | inr is ↦ other rule is
    ];
    reasons = λ rule. elim (cases_Bool (number_of l.rule == number_of rule)) [
      | inl is ↦ (
          let same = one_rule l.rule rule (eqb-true (number_of l.rule) (number_of rule) is) in
          subst (λ r. (group_of (with_line groups l) r).reason ≡ first_reason r (held ++ l ∷ [])) same own_reason)
      | inr is ↦ other_reason rule is
    ];
  }

-- ---- the text

flat_map_agree : {X : Type 0} (f g : X → List ℕ) (xs : List X) → ((x : X) → f x ≡ g x) → flat_map f xs ≡ flat_map g xs
flat_map_agree f g [] same = refl
flat_map_agree f g (x ∷ xs) same = ap (λ t. t ++ flat_map f xs) (same x) ∙ ap (λ t. g x ++ t) (flat_map_agree f g xs same)

by_level_agree : (f g : Rule → List ℕ) → ((rule : Rule) → f rule ≡ g rule) → by_level f ≡ by_level g
by_level_agree f g same =
    flat_map_agree (of_level f) (of_level g) (Must ∷ Should ∷ Tidy ∷ [])
    (λ level. flat_map_agree _ _ rules (λ rule. ap (λ t. cond (is_same_level (level_of rule) level) t []) (same rule)))

-- The lines of groups are those of the lines that are held.
pub lines_are_held : (room : ℕ) (held : List HeldLine) (groups : List GroupValue) (line : Rule → GroupValue → List ℕ)
    (line_of : Rule → ℕ → List (List ℕ) → Option (List ℕ) → List ℕ)
    → ((rule : Rule) (units : List NamedUnit) (g : GroupValue) → IsGroup room units g
    → line rule g ≡ line_of rule (length units) (names_of units) g.reason)
    → AreGroups room held groups → group_lines line groups ≡ held_text line_of held
lines_are_held room held groups line line_of same are =
    by_level_agree (group_line line groups) _
    (λ rule. (let is = are.each rule in
    let units = units_of rule held in
    ap (λ k. cond (k == 0) [] (line rule (group_of groups rule))) is.count
    ∙ ap (λ t. cond (length units == 0) [] t)
    (same rule units (group_of groups rule) is ∙ ap (line_of rule (length units) (names_of units)) (are.reasons rule))))

flat_map_none : {X : Type 0} (f : X → List ℕ) (xs : List X) → ((x : X) → f x ≡ []) → flat_map f xs ≡ []
flat_map_none f [] none = refl
flat_map_none f (x ∷ xs) none = rw (none x) (flat_map_none f xs none)

both_none : (b : Bool) (text : List ℕ) → text ≡ [] → cond b text [] ≡ []
both_none true text none = none
both_none false text none = refl

-- Groups of no line have no text.
pub none_written : (room : ℕ) (line : Rule → GroupValue → List ℕ) → group_lines line (no_groups room) ≡ []
none_written room line =
    flat_map_none (of_level (group_line line (no_groups room))) (Must ∷ Should ∷ Tidy ∷ [])
    (λ level. flat_map_none _ rules
    (λ rule. (let none = (none_held room).each rule in
    both_none (is_same_level (level_of rule) level) (group_line line (no_groups room) rule)
    (ap (λ k. cond (k == 0) [] (line rule (group_of (no_groups room) rule))) none.count))))
