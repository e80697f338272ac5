-- One statement more: what it changes of a font's value.
use Rattle.std.specs.Prelude.{Bool, true, false, Option, Some, None, List, [], ◌∷◌, nat_eq, if◌then◌else◌, set, slice_index_or, ◌++◌}
use Rattle.std.specs.List.{list_any}
use Rattle.t1_font.specs.Keys.{same_name, index_of}
use Rattle.t1_font.specs.PrivateText.{has_key}
use Rattle.t1_font.specs.Values.{value_of_token}
use Rattle.t1_font.specs.Fonts.{Stated, FontValue, plain, encoding, code, bad_code, size, subr, glyph, once_more}

-- A key that is there keeps its place and takes the value; a new one goes last.
abbrev pub put_pair : {K V : Type 0} → (K → K → Bool) → List (K × V) → K → V → List (K × V)
put_pair eq [] k v = (k, v) ∷ []
put_pair eq (p ∷ ps) k v = if eq k p.0 then (p.0, v) ∷ ps else p ∷ put_pair eq ps k v

-- A key that was there is there twice from now on.
abbrev pub twice_more : {K : Type 0} → (K → K → Bool) → List K → K → Bool → List K
twice_more eq twice k true = if list_any (eq k) twice then twice else twice ++ k ∷ []
twice_more eq twice k false = twice

abbrev pub put : FontValue → Stated → FontValue
put v (plain k t) = record v {
  plain = set v.plain (index_of k) (value_of_token t);
  key_times = set v.key_times (index_of k) (once_more (slice_index_or v.key_times (index_of k) 0));
}
put v (encoding form) = record v { encoding = form; codes = []; bad_code = false; encoding_times = once_more v.encoding_times }
put v (code n name) = record v { codes = put_pair nat_eq v.codes n name }
put v bad_code = record v { bad_code = true }
put v (size n) = record v { size = Some n }
put v (subr n bytes) = record v {
  subrs = put_pair nat_eq v.subrs n bytes;
  subrs_twice = twice_more nat_eq v.subrs_twice n (has_key nat_eq v.subrs n);
}
put v (glyph name bytes) = record v {
  glyphs = put_pair same_name v.glyphs name bytes;
  glyphs_twice = twice_more same_name v.glyphs_twice name (has_key same_name v.glyphs name);
}

abbrev pub put_one : FontValue → Option Stated → FontValue
put_one v None = v
put_one v (Some e) = put v e
