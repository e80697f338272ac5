-- The members that tell a reason: numbers of charstrings and dictionaries are exact decimals, as strings; counts are numbers.
use Rattle.std.specs.Prelude.{List, [], ◌∷◌, ℕ, codes}
use Rattle.serde_json.specs.Data.{Data, Members, boolean, number as of_number, unsigned, string, object, no_members, put}
use Rattle.serde_json.specs.Find.{of_integer}
use Rattle.t1_char.specs.Commands.{name_of}
use Rattle.t1_font.specs.declared.encoding.Encoding.{Encoding}
use Rattle.t1_font.specs.declared.encoding.Encoding.TheVariants.{Absent as NoEncoding, Standard, Custom, Other as OtherEncoding}
use Rattle.t1_font.specs.Fonts.{FontValue, glyph_name}
use Rattle.t1_forms.specs.Shown.{shown}
use Rattle.t1_reasons.specs.declared.reason.EntryKind.{EntryKind}
use Rattle.t1_reasons.specs.declared.reason.EntryKind.TheVariants.{Number, Numbers}
use Rattle.t1_reasons.specs.declared.reason.FontText.{FontText}
use Rattle.t1_reasons.specs.declared.reason.FontText.TheVariants.{Clear, Private}
use Rattle.t1_reasons.specs.declared.reason.Found.{Found}
use Rattle.t1_reasons.specs.declared.reason.Found.TheVariants.{Absent, One, Other, Several}
use Rattle.t1_reasons.specs.declared.reason.Reason.{Reason}
use Rattle.t1_reason_texts.specs.declared.decimals.Exact.{Exact}
use Rattle.t1_reason_texts.specs.declared.fields.Field.{Field}
use Rattle.t1_reason_texts.specs.declared.fields.Field.TheVariants.{Axis, CodeName, Command, Count, Decimal, Edges, Encoding as OfEncoding, FirstLine, FontBox as OfBox, Found as OfFound, GlyphName, Holds, Integer, Point, Stem, Text, Token, Wanted, Word}
use Rattle.t1_reason_texts.specs.Decimals.{coordinate_of, exact_text, value_of}
use Rattle.t1_reason_texts.specs.Fields.{NamedField, fields_of}
use Rattle.t1_drawing.specs.declared.font_box.FontBox.{FontBox}
use Rattle.t1_reason_texts.specs.DrawingTexts.{axis_word}
use Rattle.t1_reason_texts.specs.FontTexts.{encoded_name}
use Rattle.t1_reason_texts.specs.StepTexts.{token_text}
use Rattle.t1_reason_texts.specs.WordTexts.{first_bytes, first_line, word_at}

-- Two decimals.
unfoldable pub pair_members : List ℕ → Exact → List ℕ → Exact → Members
pair_members key first other second = put other (string (exact_text second)) (put key (string (exact_text first)) no_members)

abbrev pub found_members : Found → Members
found_members Absent = put (codes "kind") (string (codes "absent")) no_members
found_members (One number) =
    put (codes "number") (string (exact_text (value_of number))) (put (codes "kind") (string (codes "number")) no_members)
found_members (Several count) =
    put (codes "count") (of_number (unsigned count)) (put (codes "kind") (string (codes "list")) no_members)
found_members Other = put (codes "kind") (string (codes "other")) no_members

-- The edges of FontBBox.
abbrev pub box_members : FontBox → Members
box_members b =
    put (codes "top") (string (exact_text (value_of b.top)))
    (put (codes "right") (string (exact_text (value_of b.right)))
    (put (codes "bottom") (string (exact_text (value_of b.bottom)))
    (put (codes "left") (string (exact_text (value_of b.left))) no_members)))

abbrev pub kind_word : EntryKind → List ℕ
kind_word Number = codes "number"
kind_word Numbers = codes "list"

abbrev pub form_word : Encoding → List ℕ
form_word NoEncoding = codes "absent"
form_word Standard = codes "standard"
form_word Custom = codes "custom"
form_word OtherEncoding = codes "other"

abbrev pub text_word : FontText → List ℕ
text_word Clear = codes "clear"
text_word Private = codes "private"

abbrev pub field_data : FontValue → Field → Data
field_data font (Decimal number) = string (exact_text number)
field_data font (Count count) = of_number (unsigned count)
field_data font (Integer number) = of_number (of_integer number)
field_data font (Holds holds) = boolean holds
field_data font (Token token) = string (token_text token)
field_data font (Command command) = string (name_of command)
field_data font (OfEncoding encoding) = string (form_word encoding)
field_data font (Wanted kind) = string (kind_word kind)
field_data font (GlyphName glyph) = string (shown (glyph_name font glyph))
field_data font (CodeName code) = string (shown (encoded_name font code))
field_data font (Point p) = object (pair_members (codes "x") (coordinate_of p.x) (codes "y") (coordinate_of p.y))
field_data font (Stem s) = object (pair_members (codes "position") (coordinate_of s.position) (codes "width") (coordinate_of s.width))
field_data font (Edges e) = object (pair_members (codes "lower") (value_of e.lower) (codes "upper") (value_of e.upper))
field_data font (OfFound found) = object (found_members found)
field_data font (Axis direction) = string (axis_word direction)
field_data font (OfBox font_box) = object (box_members font_box)
field_data font (Word text place) = string (shown (first_bytes (word_at font text place)))
field_data font (Text text) = string (text_word text)
field_data font FirstLine = string (shown (first_bytes (first_line font)))

-- The members and then fields, each under its name.
abbrev pub with_fields : FontValue → Members → List NamedField → Members
with_fields font members [] = members
with_fields font members (field ∷ fields) = with_fields font (put field.0 (field_data font field.1) members) fields

unfoldable pub reason_members : FontValue → Reason → Members
reason_members font reason = with_fields font no_members (fields_of reason)
