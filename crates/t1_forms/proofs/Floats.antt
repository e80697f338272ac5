-- No object that a line means has a float in it.
use Rattle.std.proofs.Common.{◌≡◌, ℕ, List, [], ◌∷◌, Option, Some, None, option_map, codes, false, map, refl}
use Rattle.std.specs.Prelude.{IfSome}
use Rattle.serde_json.specs.Data.{Members, number, string, unsigned}
use Rattle.serde_json.specs.View.{items_of}
use Rattle.serde_json.specs.Written.{has_float, items_have_float, members_have_float}
use Rattle.t1_rules.specs.declared.rule.Rule.{Rule}
use Rattle.t1_lines.specs.Lines.{PlaceValue, at_key, at_step, at_waiver, of_fault, of_refusal}
use Rattle.t1_forms.proofs.NoFloats.{no_floats, put_none}
use Rattle.t1_forms.specs.declared.reason.ToldReason.{ToldReason}
use Rattle.t1_forms.specs.declared.told.Told.{Told}
use Rattle.t1_forms.specs.Objects.{fault_members, object_of, reason_object, what_members, with_font, with_reason}
use Rattle.t1_forms.specs.Shown.{shown}
use Rattle.t1_forms.specs.Tellings.{ReasonValue, ToldValue, WhatValue, of_line, of_unchecked, reason_value, told_value}

lists_have_none : (numbers : List ℕ) → items_have_float (items_of (map (λ n. number (unsigned n)) numbers)) ≡ false
lists_have_none [] = refl
lists_have_none (n ∷ numbers) = lists_have_none numbers

in_place : (font : Option (List ℕ)) (n : ℕ) (place : PlaceValue) (rule : Rule) → members_have_float (with_font font (fault_members n place rule)) ≡ false
in_place None n (at_key key index) rule = refl
in_place (Some name) n (at_key key index) rule = refl
in_place None n (at_step name path step) rule = rw (lists_have_none path) refl
in_place (Some font) n (at_step name path step) rule = rw (lists_have_none path) refl
in_place None n (at_waiver name waived) rule = refl
in_place (Some font) n (at_waiver name waived) rule = refl

in_what : (font : Option (List ℕ)) (what : WhatValue) → members_have_float (with_font font (what_members what)) ≡ false
in_what None (of_line (of_fault l)) = in_place None l.number l.place l.rule
in_what (Some name) (of_line (of_fault l)) = in_place (Some name) l.number l.place l.rule
in_what None (of_line (of_refusal code)) = refl
in_what (Some name) (of_line (of_refusal code)) = refl
in_what None (of_unchecked reason) = refl
in_what (Some name) (of_unchecked reason) = refl

-- ---- the reason

abbrev HasNone : Option ReasonValue → Type 0
HasNone reason = IfSome reason (λ r. members_have_float r.numbers ≡ false)

in_all : (reason : Option ReasonValue) (ms : Members) → HasNone reason → members_have_float ms ≡ false
    → members_have_float (with_reason reason ms) ≡ false
in_all None ms none all = all
in_all (Some r) ms none all =
    put_none (codes "reason") (reason_object r) ms (put_none (codes "text") (string (shown r.text)) r.numbers refl none) all

has_none : (reason : Option ToldReason) → HasNone (option_map reason_value reason)
has_none None = tt
has_none (Some r) = no_floats r.font.now r.reason

pub has_no_float : (t : Told) → has_float (object_of (told_value t)) ≡ false
has_no_float t =
    let v : ToldValue = told_value t in in_all v.reason (with_font v.font (what_members v.what)) (has_none t.reason) (in_what v.font v.what)
