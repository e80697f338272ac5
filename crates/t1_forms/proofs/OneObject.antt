-- What is reported has an object that reports it again: so what is reported differently has different objects.
use Rattle.std.proofs.Common.{◌≡◌, ◌==◌, ℕ, List, [], ◌∷◌, true, nat_lt, Option, Some, None, option_map, unwrap_or, codes, length, map, if◌then◌else◌, refl, sym, ap, ap₂, ◌∙◌}
use Rattle.std.proofs.lemmas.Bool.{and_parts, ltb-true}
use Rattle.std.specs.List.{list_all}
use Rattle.std.specs.Prelude.{IfSome, option_and_then}
use Rattle.std.specs.Str.{bytes_eq}
use Rattle.serde_json.specs.Data.{Data, Items, no_items, item, number, object, string, unsigned}
use Rattle.serde_json.specs.Find.{as_array, as_number, as_str, as_u64, get, get_member}
use Rattle.serde_json.proofs.Views.{get_member-put}
use Rattle.serde_json.specs.View.{items_of}
use Rattle.t1_rules.specs.declared.rule.Rule.{Rule}
use Rattle.t1_rules.specs.Book.{code_of, rule_coded, text_of}
use Rattle.t1_rules.specs.Keys.{key_text_of}
use Rattle.t1_rules.proofs.Lemmas.RuleCodes.{rule_is_found}
use Rattle.t1_lines.specs.Lines.{PlaceValue, IsPlace, at_key, at_step, at_waiver, of_fault, of_refusal}
use Rattle.t1_font.specs.declared.unread.RefusalCode.{RefusalCode}
use Rattle.t1_font.specs.declared.unread.RefusalCode.TheVariants.{E01, E02, E03, E04, E05, E06, E07, E08, E09, E10, E11, E12, E13, E14, E15}
use Rattle.t1_lines.proofs.Cuts.{some_same}
use Rattle.t1_lines.proofs.KeyTexts.{key-found, key_of}
use Rattle.t1_forms.specs.Laws.{AnObjectTellsOneLine, AreBytes, DifferentTellingsHaveDifferentObjects, IsPlaceOfBytes, IsWhatOfBytes}
use Rattle.t1_forms.specs.NameWords.{name_of_word}
use Rattle.t1_forms.specs.Objects.{fault_members, object_of, reason_object, refusal_code_of, refusal_reason_of, what_members, with_font, with_reason}
use Rattle.t1_forms.specs.Shown.{shown}
use Rattle.t1_forms.specs.Tellings.{IsWhat, ReasonValue, ToldValue, WhatValue, of_line, of_unchecked}
use Rattle.t1_forms.proofs.ShownWords.{shown_words}

-- ---- the members of an object

abbrev text_at : List ℕ → Data → List ℕ
text_at key d = unwrap_or (option_and_then as_str (get key d)) []

abbrev number_at : List ℕ → Data → ℕ
number_at key d = unwrap_or (option_and_then as_u64 (option_and_then as_number (get key d))) 0

-- By their names; a text that isn't there is empty, and a number 0.
record Read : Type 0 where
  pub file : Option (List ℕ)
  pub unit : List ℕ
  pub code : List ℕ
  pub text : List ℕ
  pub key : List ℕ
  pub name : List ℕ
  pub waived : List ℕ
  pub count : ℕ
  pub index : ℕ
  pub step : ℕ
  pub path : Items

abbrev read_of : Data → Read
read_of d = record {
  file = option_and_then as_str (get (codes "file") d);
  unit = text_at (codes "unit") d;
  code = text_at (codes "code") d;
  text = text_at (codes "text") d;
  key = text_at (codes "key") d;
  name = text_at (codes "name") d;
  waived = text_at (codes "waived") d;
  count = number_at (codes "number") d;
  index = number_at (codes "index") d;
  step = number_at (codes "step") d;
  path = unwrap_or (option_and_then as_array (get (codes "path") d)) no_items;
}

-- What all objects have.
abbrev common : Option (List ℕ) → List ℕ → List ℕ → List ℕ → Read
common file unit code text = record {
  file = file;
  unit = unit;
  code = code;
  text = text;
  key = [];
  name = [];
  waived = [];
  count = 0;
  index = 0;
  step = 0;
  path = no_items;
}

abbrev fault_read : Option (List ℕ) → ℕ → PlaceValue → Rule → Read
fault_read file n (at_key key index) rule =
    record (common file (codes "font") (code_of rule) (text_of rule)) { key = key_text_of key; count = n; index = index }
fault_read file n (at_step name path step) rule =
    record (common file (codes "glyph") (code_of rule) (text_of rule)) {
      name = shown name;
      count = n;
      step = step;
      path = items_of (map (λ m. number (unsigned m)) path);
    }
fault_read file n (at_waiver name waived) rule =
    record (common file (codes "waiver") (code_of rule) (text_of rule)) { name = shown name; waived = code_of waived; count = n }

abbrev what_read : Option (List ℕ) → WhatValue → Read
what_read file (of_line (of_fault l)) = fault_read file l.number l.place l.rule
what_read file (of_line (of_refusal code)) = common file (codes "refused") (shown (refusal_code_of code)) (shown (refusal_reason_of code))
what_read file (of_unchecked reason) = common file (codes "unchecked") [] (shown reason)

-- ---- an object has these members

abbrev whole : Option ReasonValue → Option (List ℕ) → WhatValue → Data
whole reason font what = object_of (record { font = font; what = what; reason = reason })

reads_fault : (reason : Option ReasonValue) (font : Option (List ℕ)) (n : ℕ) (place : PlaceValue) (rule : Rule)
    → read_of (object (with_reason reason (with_font font (fault_members n place rule)))) ≡ fault_read (option_map shown font) n place rule
reads_fault None None n (at_key key index) rule = refl
reads_fault None None n (at_step name path step) rule = refl
reads_fault None None n (at_waiver name waived) rule = refl
reads_fault None (Some f) n (at_key key index) rule = refl
reads_fault None (Some f) n (at_step name path step) rule = refl
reads_fault None (Some f) n (at_waiver name waived) rule = refl
reads_fault (Some r) None n (at_key key index) rule = refl
reads_fault (Some r) None n (at_step name path step) rule = refl
reads_fault (Some r) None n (at_waiver name waived) rule = refl
reads_fault (Some r) (Some f) n (at_key key index) rule = refl
reads_fault (Some r) (Some f) n (at_step name path step) rule = refl
reads_fault (Some r) (Some f) n (at_waiver name waived) rule = refl

reads : (reason : Option ReasonValue) (font : Option (List ℕ)) (what : WhatValue)
    → read_of (whole reason font what) ≡ what_read (option_map shown font) what
reads reason font (of_line (of_fault l)) = reads_fault reason font l.number l.place l.rule
reads None None (of_line (of_refusal code)) = refl
reads None (Some f) (of_line (of_refusal code)) = refl
reads (Some r) None (of_line (of_refusal code)) = refl
reads (Some r) (Some f) (of_line (of_refusal code)) = refl
reads None None (of_unchecked why) = refl
reads None (Some f) (of_unchecked why) = refl
reads (Some r) None (of_unchecked why) = refl
reads (Some r) (Some f) (of_unchecked why) = refl

-- ---- and the reason

no_reason_of_fault : (font : Option (List ℕ)) (n : ℕ) (place : PlaceValue) (rule : Rule)
    → get_member (codes "reason") (with_font font (fault_members n place rule)) ≡ None
no_reason_of_fault None n (at_key key index) rule = refl
no_reason_of_fault None n (at_step name path step) rule = refl
no_reason_of_fault None n (at_waiver name waived) rule = refl
no_reason_of_fault (Some f) n (at_key key index) rule = refl
no_reason_of_fault (Some f) n (at_step name path step) rule = refl
no_reason_of_fault (Some f) n (at_waiver name waived) rule = refl

no_reason : (font : Option (List ℕ)) (what : WhatValue) → get_member (codes "reason") (with_font font (what_members what)) ≡ None
no_reason font (of_line (of_fault l)) = no_reason_of_fault font l.number l.place l.rule
no_reason None (of_line (of_refusal code)) = refl
no_reason (Some f) (of_line (of_refusal code)) = refl
no_reason None (of_unchecked why) = refl
no_reason (Some f) (of_unchecked why) = refl

reason_read : (reason : Option ReasonValue) (font : Option (List ℕ)) (what : WhatValue)
    → get (codes "reason") (whole reason font what) ≡ option_map reason_object reason
reason_read None font what = no_reason font what
reason_read (Some r) font what = get_member-put (codes "reason") (reason_object r) (with_font font (what_members what))

file_of_fault : (file : Option (List ℕ)) (n : ℕ) (place : PlaceValue) (rule : Rule) → (fault_read file n place rule).file ≡ file
file_of_fault file n (at_key key index) rule = refl
file_of_fault file n (at_step name path step) rule = refl
file_of_fault file n (at_waiver name waived) rule = refl

file_of : (file : Option (List ℕ)) (what : WhatValue) → (what_read file what).file ≡ file
file_of file (of_line (of_fault l)) = file_of_fault file l.number l.place l.rule
file_of file (of_line (of_refusal code)) = refl
file_of file (of_unchecked reason) = refl

-- ---- and they report it again

abbrev numbers_in : Items → List ℕ
numbers_in no_items = []
numbers_in (item d ds) = unwrap_or (option_and_then as_u64 (as_number d)) 0 ∷ numbers_in ds

numbers_again : (ns : List ℕ) → numbers_in (items_of (map (λ n. number (unsigned n)) ns)) ≡ ns
numbers_again [] = refl
numbers_again (n ∷ ns) = ap (λ (ms : List ℕ). n ∷ ms) (numbers_again ns)

abbrev pub refusals : List RefusalCode
refusals = E01 ∷ E02 ∷ E03 ∷ E04 ∷ E05 ∷ E06 ∷ E07 ∷ E08 ∷ E09 ∷ E10 ∷ E11 ∷ E12 ∷ E13 ∷ E14 ∷ E15 ∷ []

abbrev pub refusal_among : List RefusalCode → List ℕ → Option RefusalCode
refusal_among [] word = None
refusal_among (code ∷ others) word = if bytes_eq (refusal_code_of code) word then Some code else refusal_among others word

refusal_again : (code : RefusalCode) → refusal_among refusals (refusal_code_of code) ≡ Some code
refusal_again E01 = refl
refusal_again _ = refl

is_small : (code : RefusalCode) → list_all (λ b. nat_lt b 256) (refusal_code_of code) ≡ true
is_small E01 = refl
is_small _ = refl

of_small : (bytes : List ℕ) → list_all (λ b. nat_lt b 256) bytes ≡ true → AreBytes bytes
of_small [] e = tt
of_small (b ∷ bytes) e = let p = and_parts _ _ e in (ltb-true b 256 p.0, of_small bytes p.1)

abbrev fault_again : ℕ → Option PlaceValue → Option Rule → Option WhatValue
fault_again n (Some place) (Some rule) = Some (of_line (of_fault (record { number = n; place = place; rule = rule })))
fault_again n (Some place) None = None
fault_again n None rule = None

abbrev again_at : ℕ → Read → Option WhatValue
again_at units r =
    if units == 4 then fault_again r.count (option_map (λ key. at_key key r.index) (key_of r.key)) (rule_coded r.code)
    else if units == 5 then fault_again r.count (option_map (λ name. at_step name (numbers_in r.path) r.step) (name_of_word r.name)) (rule_coded r.code)
    else if units == 6
    then fault_again r.count (option_and_then (λ name. option_map (at_waiver name) (rule_coded r.waived)) (name_of_word r.name)) (rule_coded r.code)
    else if units == 7 then option_map (λ code. of_line (of_refusal code)) (option_and_then (refusal_among refusals) (name_of_word r.code))
    else option_map of_unchecked (name_of_word r.text)

-- The units have texts of different lengths.
abbrev what_again : Read → Option WhatValue
what_again r = again_at (length r.unit) r

again_fault : (file : Option (List ℕ)) (n : ℕ) (place : PlaceValue) (rule : Rule) → IsPlace place rule → IsPlaceOfBytes place
    → what_again (fault_read file n place rule) ≡ Some (of_line (of_fault (record { number = n; place = place; rule = rule })))
again_fault file n (at_key key index) rule is bytes = rw (key-found key is.0, rule_is_found rule) refl
again_fault file n (at_step name path step) rule is bytes = rw (shown_words name bytes, rule_is_found rule, numbers_again path) refl
again_fault file n (at_waiver name waived) rule is bytes = rw (shown_words name bytes, rule_is_found rule, rule_is_found waived) refl

again : (file : Option (List ℕ)) (what : WhatValue) → IsWhat what → IsWhatOfBytes what → what_again (what_read file what) ≡ Some what
again file (of_line (of_fault l)) is bytes = again_fault file l.number l.place l.rule is.place bytes
again file (of_line (of_refusal code)) is bytes =
    rw (shown_words (refusal_code_of code) (of_small (refusal_code_of code) (is_small code)), refusal_again code) refl
again file (of_unchecked reason) is bytes = rw (shown_words reason bytes) refl

font_again : (f g : Option (List ℕ)) → IfSome f AreBytes → IfSome g AreBytes → option_map shown f ≡ option_map shown g → f ≡ g
font_again None None bytes_f bytes_g same = refl
font_again None (Some g) bytes_f bytes_g same = cc
font_again (Some f) None bytes_f bytes_g same = cc
font_again (Some f) (Some g) bytes_f bytes_g same =
    let words : name_of_word (shown f) ≡ name_of_word (shown g) = ap name_of_word (some_same _ _ same) in
    sym (shown_words f bytes_f) ∙ words ∙ shown_words g bytes_g

abbrev text_in : Option Data → List ℕ
text_in d = unwrap_or (option_and_then as_str d) []

text_again : (a b : Option ReasonValue) → IfSome a (λ r. AreBytes r.text) → IfSome b (λ r. AreBytes r.text)
    → option_map reason_object a ≡ option_map reason_object b → option_map (λ r. r.text) a ≡ option_map (λ r. r.text) b
text_again None None bytes_a bytes_b same = refl
text_again None (Some r) bytes_a bytes_b same = cc
text_again (Some r) None bytes_a bytes_b same = cc
text_again (Some q) (Some r) bytes_q bytes_r same =
    let objects : reason_object q ≡ reason_object r = some_same _ _ same in
    let texts : Some (string (shown q.text)) ≡ Some (string (shown r.text)) =
    sym (get_member-put (codes "text") (string (shown q.text)) q.numbers)
    ∙ ap (get (codes "text")) objects ∙ get_member-put (codes "text") (string (shown r.text)) r.numbers in
    sym (shown_words q.text bytes_q) ∙ ap (λ d. name_of_word (text_in d)) texts ∙ shown_words r.text bytes_r

abbrev telling : Option (List ℕ) → WhatValue → ToldValue
telling font what = record { font = font; what = what; reason = None }

pub one_object : DifferentTellingsHaveDifferentObjects
one_object a b of_a of_b same =
    let read : what_read (option_map shown a.font) a.what ≡ what_read (option_map shown b.font) b.what =
    sym (reads a.reason a.font a.what) ∙ ap read_of same ∙ reads b.reason b.font b.what in
    let whats : Some a.what ≡ Some b.what = sym (again _ a.what of_a.is of_a.what) ∙ ap what_again read ∙ again _ b.what of_b.is of_b.what in
    let files : option_map shown a.font ≡ option_map shown b.font =
    sym (file_of _ a.what) ∙ ap (λ (r : Read). r.file) read ∙ file_of _ b.what in
    let reasons : option_map reason_object a.reason ≡ option_map reason_object b.reason =
    sym (reason_read a.reason a.font a.what) ∙ ap (get (codes "reason")) same ∙ reason_read b.reason b.font b.what in
    record {
      font = font_again a.font b.font of_a.font of_b.font files;
      what = some_same _ _ whats;
      text = text_again a.reason b.reason of_a.reason of_b.reason reasons;
      reason = reasons;
    }

pub one_line : AnObjectTellsOneLine
one_line a b none_a none_b of_a of_b same =
    let alike = one_object a b of_a of_b same in
    let own : a ≡ telling a.font a.what = ap (λ r. record a { reason = r }) none_a in
    let other : b ≡ telling b.font b.what = ap (λ r. record b { reason = r }) none_b in
    own ∙ ap₂ telling alike.font alike.what ∙ sym other
