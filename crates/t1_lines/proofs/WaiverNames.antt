-- The names of waivers that were read are regular bytes, since each line's is.
use Rattle.std.proofs.Common.{◌≡◌, ◌==◌, ℕ, true, false, cond, Option, Some, None, List, [], ◌∷◌, ◌++◌, drop, take, inl, inr, subst, IsTrue}
use Rattle.std.proofs.lemmas.Bool.{cases_Bool}
use Rattle.std.proofs.lemmas.List.Elements.{All-nil, All-cons, All-head, All-tail}
use Rattle.std.proofs.lemmas.Option.{option_and_then_some}
use Rattle.std.specs.List.{list_all, prefix_len}
use Rattle.t1_char.specs.declared.edition.Edition.{Edition}
use Rattle.t1_scan.specs.Bytes.{is_regular}
use Rattle.t1_scan.proofs.Prefixes.{prefix_all}
use Rattle.t1_rules.specs.declared.rule.Rule.{Rule}
use Rattle.t1_rules.specs.Book.{number_of, rule_coded}
use Rattle.t1_report.specs.Waivers.{Waiver, is_waivable, is_waived, line_read, lines_from, lines_read, text_read, waiver_at, waiver_by, waiver_of, with_waiver, without_return}
use Rattle.t1_lines.specs.Laws.{WaiversHaveNames}
use Rattle.t1_lines.specs.Names.{HaveNames}
use Rattle.t1_lines.proofs.Cuts.{map_some, some_same}

abbrev Named : Waiver → Type 0
Named w = IsTrue (list_all is_regular w.0)

by_named : (edition : Edition) (name : List ℕ) (o : Option Rule) (w : Waiver) → IsTrue (list_all is_regular name) → waiver_by edition name o ≡ Some w → Named w
by_named edition name None w named e = cc
by_named edition name (Some rule) w named e =
    elim (cases_Bool (is_waivable edition rule)) [
      | inl is ↦ (let here : Some (name, rule) ≡ Some w = rw is at e in let it : Waiver = (name, rule) in subst Named (some_same it w here) named)
      | inr is ↦ (let never : None ≡ Some w = rw is at e in cc)
    ]

at_named : (edition : Edition) (name rest : List ℕ) (w : Waiver) → IsTrue (list_all is_regular name) → waiver_at edition name rest ≡ Some w → Named w
at_named edition name [] w named e = cc
at_named edition name (b ∷ code) w named e =
    elim (cases_Bool (b == 32)) [
      | inl is ↦ (let here : waiver_by edition name (rule_coded code) ≡ Some w = rw is at e in by_named edition name (rule_coded code) w named here)
      | inr is ↦ (let never : None ≡ Some w = rw is at e in cc)
    ]

of_named : (edition : Edition) (text : List ℕ) (w : Waiver) → waiver_of edition text ≡ Some w → Named w
of_named edition text w e = at_named edition (take (prefix_len is_regular text) text) (drop (prefix_len is_regular text) text) w (prefix_all is_regular text) e

one_more : (waivers : List Waiver) (w : Waiver) → HaveNames waivers → Named w → HaveNames (waivers ++ (w ∷ []))
one_more [] w names named = All-cons Named w [] named (All-nil Named)
one_more (v ∷ waivers) w names named =
    All-cons Named v (waivers ++ (w ∷ [])) (All-head Named v waivers names) (one_more waivers w (All-tail Named v waivers names) named)

with_named : (waivers : List Waiver) (w : Waiver) → HaveNames waivers → Named w → HaveNames (with_waiver waivers w)
with_named waivers w names named =
    elim (is_waived waivers w.0 (number_of w.1)) as (λ b. HaveNames (cond b waivers (waivers ++ (w ∷ [])))) [
      | true ↦ names
      | false ↦ one_more waivers w names named
    ]

text_named : (edition : Edition) (waivers : List Waiver) (text : List ℕ) (more : List Waiver) → HaveNames waivers → text_read edition waivers text ≡ Some more → HaveNames more
text_named edition waivers [] more names e = subst HaveNames (some_same waivers more e) names
text_named edition waivers (b ∷ text) more names e =
    map_some (with_waiver waivers) (waiver_of edition (b ∷ text)) more e (λ w is whole.
    subst HaveNames whole (with_named waivers w names (of_named edition (b ∷ text) w is)))

lines_named : (edition : Edition) (lines : List (List ℕ)) (waivers all : List Waiver) → HaveNames waivers → lines_read edition waivers lines ≡ Some all → HaveNames all
unfolding lines_read
lines_named edition [] waivers all names e = subst HaveNames (some_same waivers all e) names
lines_named edition (line ∷ lines) waivers all names e =
    option_and_then_some (λ more. lines_read edition more lines) (line_read edition waivers line) all e (λ more is rest.
    lines_named edition lines more all (text_named edition waivers (without_return line) more names is) rest)

pub waivers_have_names : WaiversHaveNames
waivers_have_names edition text waivers e = lines_named edition (lines_from [] text) [] waivers (All-nil Named) e
