-- No number of a reason is a float.
use Rattle.std.proofs.Common.{◌≡◌, ℕ, ℤ, pos, negsuc, List, [], ◌∷◌, Ordering, Less, Equal, Greater, nat_cmp, false, refl}
use Rattle.std.proofs.lemmas.Bool.{or_parts}
use Rattle.std.specs.Cmp.Lexicographic.{slice_cmp}
use Rattle.std.specs.Ordering.{match_ordering}
use Rattle.serde_json.specs.Data.{Data, Members, member, no_members, number as of_number, put}
use Rattle.serde_json.specs.Find.{of_integer}
use Rattle.serde_json.specs.Written.{has_float, members_have_float}
use Rattle.t1_font.specs.Fonts.{FontValue}
use Rattle.t1_forms.specs.Members.{field_data, found_members, pair_members, reason_members, with_fields}
use Rattle.t1_reasons.specs.declared.reason.Found.{Found}
use Rattle.t1_reasons.specs.declared.reason.Found.TheVariants.{Absent, One, Other, Several}
use Rattle.t1_reasons.specs.declared.reason.Reason.{Reason}
use Rattle.t1_reason_texts.specs.declared.decimals.Exact.{Exact}
use Rattle.t1_reason_texts.specs.declared.fields.Field.{Field}
use Rattle.t1_reason_texts.specs.declared.fields.Field.TheVariants.{Edges, Found as OfFound, Integer, Point, Stem}
use Rattle.t1_reason_texts.specs.Fields.{NamedField, fields_of}

-- ---- one member more

put_at : (o : Ordering) (k l : List ℕ) (d e : Data) (ms : Members) → has_float d ≡ false → members_have_float (member l e ms) ≡ false
    → members_have_float (put k d ms) ≡ false
    → members_have_float (match_ordering o (member k d (member l e ms)) (member l d ms) (member l e (put k d ms))) ≡ false
put_at Less k l d e ms own all later = rw own all
put_at Equal k l d e ms own all later = rw own (or_parts (has_float e) (members_have_float ms) all).1
put_at Greater k l d e ms own all later = rw (or_parts (has_float e) (members_have_float ms) all).0 later

pub put_none : (k : List ℕ) (d : Data) (ms : Members) → has_float d ≡ false → members_have_float ms ≡ false → members_have_float (put k d ms) ≡ false
put_none k d no_members own all = rw own refl
put_none k d (member l e ms) own all =
    put_at (slice_cmp nat_cmp k l) k l d e ms own all (put_none k d ms own (or_parts (has_float e) (members_have_float ms) all).1)

-- ---- fields

pair_none : (k : List ℕ) (d : Exact) (l : List ℕ) (e : Exact) → members_have_float (pair_members k d l e) ≡ false
unfolding pair_members
pair_none k d l e = put_none l _ (put k _ no_members) refl refl

found_none : (found : Found) → members_have_float (found_members found) ≡ false
found_none Absent = refl
found_none (One number) = refl
found_none (Several count) = refl
found_none Other = refl

integer_none : (z : ℤ) → has_float (of_number (of_integer z)) ≡ false
integer_none (pos n) = refl
integer_none (negsuc n) = refl

field_none : (font : FontValue) (field : Field) → has_float (field_data font field) ≡ false
field_none font (Integer number) = integer_none number
field_none font (Point p) = pair_none _ _ _ _
field_none font (Stem s) = pair_none _ _ _ _
field_none font (Edges e) = pair_none _ _ _ _
field_none font (OfFound found) = found_none found
field_none font _ = refl

fields_none : (font : FontValue) (ms : Members) (fields : List NamedField) → members_have_float ms ≡ false
    → members_have_float (with_fields font ms fields) ≡ false
fields_none font ms [] all = all
fields_none font ms (field ∷ fields) all =
    fields_none font (put field.0 (field_data font field.1) ms) fields (put_none field.0 _ ms (field_none font field.1) all)

pub no_floats : (font : FontValue) (reason : Reason) → members_have_float (reason_members font reason) ≡ false
unfolding reason_members
no_floats font reason = fields_none font no_members (fields_of reason) refl
