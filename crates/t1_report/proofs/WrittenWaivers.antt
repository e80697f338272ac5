-- The line of a waiver is read as that waiver, and no other text is.
use Rattle.std.proofs.Common.{◌≡◌, ◌==◌, ◌+◌, ℕ, zero, suc, true, Option, Some, None, List, [], ◌∷◌, ◌++◌, drop, take, length, inl, inr, refl, sym, subst, ap, ◌∙◌, arith}
use Rattle.std.proofs.lemmas.Bool.{cases_Bool, and_parts}
use Rattle.std.proofs.lemmas.Bool.Decides.{nat_tests}
use Rattle.std.specs.List.{list_all, prefix_len}
use Rattle.t1_char.specs.declared.edition.Edition.{Edition}
use Rattle.t1_scan.specs.Bytes.{is_regular}
use Rattle.t1_scan.proofs.Prefixes.{prefix_all}
use Rattle.t1_rules.specs.declared.rule.Rule.{Rule}
use Rattle.t1_rules.specs.Book.{code_of, rule_coded}
use Rattle.t1_rules.proofs.Lemmas.RuleCodes.{code_is_its, rule_is_found}
use Rattle.t1_report.specs.Waivers.{Waiver, is_waivable, waiver_at, waiver_by, waiver_of}
use Rattle.t1_report.specs.Laws.WaiverLines.{CanBeWritten, LinesAreWaivers, waiver_line}

some_same : {A : Type 0} (a b : A) → Some a ≡ Some b → a ≡ b
some_same a b e = cc

-- ---- a line is read

front_len : (name rest : List ℕ) → list_all is_regular name ≡ true → prefix_len is_regular (name ++ 32 ∷ rest) ≡ length name
front_len [] rest regular = refl
front_len (b ∷ name) rest regular =
    let p = and_parts (is_regular b) (list_all is_regular name) regular in
    let more : 1 + length name ≡ suc (length name) = omega arith in
    rw (p.0, front_len name rest p.1, more) refl

take_front : (name rest : List ℕ) → take (length name) (name ++ rest) ≡ name
take_front [] rest = refl
take_front (b ∷ name) rest = ap (λ xs. b ∷ xs) (take_front name rest)

drop_front : (name rest : List ℕ) → drop (length name) (name ++ rest) ≡ rest
drop_front [] rest = refl
drop_front (b ∷ name) rest = drop_front name rest

line_is_read : (edition : Edition) (name : List ℕ) (rule : Rule) → list_all is_regular name ≡ true → is_waivable edition rule ≡ true
    → waiver_of edition (name ++ 32 ∷ code_of rule) ≡ Some (name, rule)
line_is_read edition name rule regular waivable =
    rw (front_len name (code_of rule) regular, take_front name (32 ∷ code_of rule), drop_front name (32 ∷ code_of rule), rule_is_found rule, waivable) refl

-- ---- nothing else is

by_read : (edition : Edition) (name : List ℕ) (o : Option Rule) (w : Waiver) → waiver_by edition name o ≡ Some w → (o ≡ Some w.1) × ((name ≡ w.0) × (is_waivable edition w.1 ≡ true))
by_read edition name None w e = cc
by_read edition name (Some rule) w e =
    elim (cases_Bool (is_waivable edition rule)) [
      | inl is ↦ (
          let here : Some (name, rule) ≡ Some w = rw is at e in
          let it : Waiver = (name, rule) in
          subst (λ (v : Waiver). (Some rule ≡ Some v.1) × ((name ≡ v.0) × (is_waivable edition v.1 ≡ true))) (some_same it w here) (refl, (refl, is)))
      | inr is ↦ (let never : None ≡ Some w = rw is at e in cc)
    ]

at_read : (edition : Edition) (name rest : List ℕ) (w : Waiver) → waiver_at edition name rest ≡ Some w → (rest ≡ 32 ∷ code_of w.1) × ((name ≡ w.0) × (is_waivable edition w.1 ≡ true))
at_read edition name [] w e = cc
at_read edition name (b ∷ code) w e =
    elim (cases_Bool (b == 32)) [
      | inl is ↦ (
          let here : waiver_by edition name (rule_coded code) ≡ Some w = rw is at e in
          let told = by_read edition name (rule_coded code) w here in
          let blank : b ≡ 32 = grind (arith, nat_tests, is) in
          let code_is = code_is_its code w.1 told.0 in
          (rw (blank, code_is) refl, told.1))
      | inr is ↦ (let never : None ≡ Some w = rw is at e in cc)
    ]

whole : (n : ℕ) (text : List ℕ) → take n text ++ drop n text ≡ text
whole zero text = refl
whole (suc n) [] = refl
whole (suc n) (b ∷ text) = ap (λ xs. b ∷ xs) (whole n text)

text_is_line : (edition : Edition) (text : List ℕ) (w : Waiver) → waiver_of edition text ≡ Some w → CanBeWritten edition w × (waiver_line w ≡ text)
text_is_line edition text w e =
    let n = prefix_len is_regular text in
    let told = at_read edition (take n text) (drop n text) w e in
    let regular : list_all is_regular (take n text) ≡ true = prefix_all is_regular text in (
      record { name = subst (λ (name : List ℕ). list_all is_regular name ≡ true) told.1.0 regular; rule = told.1.1 },
      ap (λ name. name ++ (32 ∷ code_of w.1)) (sym told.1.0) ∙ (ap (λ rest. take n text ++ rest) (sym told.0) ∙ whole n text),
    )

line_is_text : (edition : Edition) (text : List ℕ) (w : Waiver) → CanBeWritten edition w × (waiver_line w ≡ text) → waiver_of edition text ≡ Some w
line_is_text edition text w h = subst (λ line. waiver_of edition line ≡ Some w) h.1 (line_is_read edition w.0 w.1 h.0.name h.0.rule)

pub lines_are_waivers : LinesAreWaivers
lines_are_waivers edition text w = (text_is_line edition text w, line_is_text edition text w)
