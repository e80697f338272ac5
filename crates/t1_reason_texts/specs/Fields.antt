-- The fields of a reason with their names, as forms that other programs read write them.
use Rattle.std.specs.Prelude.{ℕ, ◌-◌, ℤ, Option, Some, None, List, [], ◌∷◌, codes}
use Rattle.t1_drawing.specs.declared.touching.UntouchedStem.{UntouchedStem}
use Rattle.t1_reasons.specs.declared.reason.FontText.TheVariants.{Private}
use Rattle.t1_reasons.specs.declared.reason.Reason.{Reason}
use Rattle.t1_reasons.specs.declared.reason.Reason.TheVariants.{Area, Argument, Arguments, Behind, Beyond, Code, Codes, Corners, Count, Depth, Determinant, Ending, Entry, Features, FirstLine, Following, Form, Full, Gap, Glyph, Glyphs, HighByte, Ids, Kind, LastToken, Length, Limit, Miss, Number, Numbers, Open, Othersubr, Outside, Pairs, PrivateUnbegun, Quotient, ReaderWord, Sidebearings, Since, Stem, Stems, Stroke, Subr, SubrEntry, TextWord, Token, TooMany, Triple, Untouched, Width, Zone, Zones}
use Rattle.t1_reason_texts.specs.declared.fields.Field.{Field}
use Rattle.t1_reason_texts.specs.declared.fields.Field.TheVariants.{Axis, CodeName, Command, Count as Counted, Decimal, Edges, Encoding, FirstLine as OneLine, FontBox, Found, GlyphName, Holds, Integer, Point, Stem as OneStem, Text, Token as OneToken, Wanted, Word}
use Rattle.t1_reason_texts.specs.declared.fields.Fields.{Fields}
use Rattle.t1_reason_texts.specs.declared.fields.Fields.TheVariants.{Five, Four, Nothing as NoFields, One, Six, Three, Two}
use Rattle.t1_reason_texts.specs.Decimals.{coordinate_of, in_unit, value_of}
use Rattle.t1_reason_texts.specs.declared.decimals.Unit.TheVariants.{Area as Areas, OnCurve}
use Rattle.t1_outline.specs.Laws.Points.{end_of}
use Rattle.t1_rules.specs.declared.step_rules.flex.Point.{Point as Points}

-- A name and what is under it.
abbrev pub NamedField : Type 0
NamedField = List ℕ × Field

abbrev pub listed : Fields → List NamedField
listed NoFields = []
listed (One a) = (a.0.now, a.1) ∷ []
listed (Two a b) = (a.0.now, a.1) ∷ (b.0.now, b.1) ∷ []
listed (Three a b c) = (a.0.now, a.1) ∷ (b.0.now, b.1) ∷ (c.0.now, c.1) ∷ []
listed (Four a b c d) = (a.0.now, a.1) ∷ (b.0.now, b.1) ∷ (c.0.now, c.1) ∷ (d.0.now, d.1) ∷ []
listed (Five a b c d e) = (a.0.now, a.1) ∷ (b.0.now, b.1) ∷ (c.0.now, c.1) ∷ (d.0.now, d.1) ∷ (e.0.now, e.1) ∷ []
listed (Six a b c d e f) = (a.0.now, a.1) ∷ (b.0.now, b.1) ∷ (c.0.now, c.1) ∷ (d.0.now, d.1) ∷ (e.0.now, e.1) ∷ (f.0.now, f.1) ∷ []

-- A number in units of 1/65536, and one in units of 10^-9.
abbrev pub coordinate_field : ℤ → Field
coordinate_field number = Decimal (coordinate_of number)

abbrev pub value_field : ℤ → Field
value_field number = Decimal (value_of number)

-- Of a reason that speaks of the font's texts, or of FontMatrix. A charstring's entry is what stands two tokens ahead of its word.
unfoldable pub word_fields_of : Reason → List NamedField
word_fields_of (HighByte line byte) = (codes "byte", Counted byte) ∷ (codes "line", Counted line) ∷ []
word_fields_of (ReaderWord place) = (codes "word", Word Private place) ∷ (codes "entry", Word Private (place - 2)) ∷ []
word_fields_of (TextWord text place) = (codes "word", Word text place) ∷ (codes "text", Text text) ∷ []
word_fields_of (Determinant v0 v1 v2 v3) =
    (codes "v0", value_field v0) ∷ (codes "v1", value_field v1) ∷ (codes "v2", value_field v2) ∷ (codes "v3", value_field v3) ∷ []
word_fields_of (PrivateUnbegun named) = (codes "named", Holds named) ∷ []
word_fields_of FirstLine = (codes "line", OneLine) ∷ []
word_fields_of _ = []

-- Of a reason that speaks of the font and its entries, of a charstring as a whole, or of a waiver.
unfoldable pub font_fields_of : Reason → List NamedField
font_fields_of (Limit steps) = (codes "steps", Counted steps) ∷ []
font_fields_of (Entry found) = (codes "found", Found found) ∷ []
font_fields_of (Ids clear private) = (codes "clear", value_field clear) ∷ (codes "private", value_field private) ∷ []
font_fields_of (Features found one two) = (codes "found", Found found) ∷ (codes "one", value_field one) ∷ (codes "two", value_field two) ∷ []
font_fields_of (Glyphs count) = (codes "glyphs", Counted count) ∷ []
font_fields_of (Form encoding) = (codes "form", Encoding encoding) ∷ []
font_fields_of (SubrEntry number twice size) = (codes "number", Counted number) ∷ (codes "twice", Holds twice) ∷ (codes "size", Counted size) ∷ []
font_fields_of (Kind found wanted) = (codes "found", Found found) ∷ (codes "wanted", Wanted wanted) ∷ []
font_fields_of (TooMany count most) = (codes "count", Counted count) ∷ (codes "most", Counted most) ∷ []
font_fields_of (Numbers count) = (codes "count", Counted count) ∷ []
font_fields_of (Glyph glyph) = (codes "name", GlyphName glyph) ∷ []
font_fields_of (Code code) = (codes "code", Counted code) ∷ (codes "name", CodeName code) ∷ []
font_fields_of (Corners first last) = (codes "first", value_field first) ∷ (codes "last", value_field last) ∷ []
font_fields_of (Number number) = (codes "number", value_field number) ∷ []
font_fields_of (LastToken None) = []
font_fields_of (LastToken (Some token)) = (codes "token", OneToken token) ∷ []
font_fields_of (Following before number) = (codes "before", value_field before) ∷ (codes "number", value_field number) ∷ []
font_fields_of (Gap upper lower distance) = (codes "upper", value_field upper) ∷ (codes "lower", value_field lower) ∷ (codes "distance", value_field distance) ∷ []
font_fields_of (Zones own other distance) = (codes "own", Edges own) ∷ (codes "other", Edges other) ∷ (codes "distance", value_field distance) ∷ []
font_fields_of (Zone lower upper scale) = (codes "lower", value_field lower) ∷ (codes "upper", value_field upper) ∷ (codes "scale", value_field scale) ∷ []
font_fields_of (Width width nearest) = (codes "width", value_field width) ∷ (codes "nearest", value_field nearest) ∷ []
font_fields_of reason = word_fields_of reason

-- Of a line or a curve.
abbrev pub stroke_fields : Option Points → Option Points → Option Points → List NamedField
stroke_fields (Some before) (Some start) (Some end) = (codes "before", Point before) ∷ (codes "start", Point start) ∷ (codes "end", Point end) ∷ []
stroke_fields None (Some start) (Some end) = (codes "start", Point start) ∷ (codes "end", Point end) ∷ []
stroke_fields _ start end = []

-- Of a stem that nothing touches.
abbrev pub stem_fields : UntouchedStem → ℕ → Option ℤ → List NamedField
stem_fields stem step None =
    (codes "axis", Axis stem.direction) ∷ (codes "lower", coordinate_field stem.low) ∷ (codes "upper", coordinate_field stem.high)
    ∷ (codes "more", Counted stem.more) ∷ (codes "step", Counted step) ∷ []
stem_fields stem step (Some place) =
    (codes "axis", Axis stem.direction) ∷ (codes "lower", coordinate_field stem.low) ∷ (codes "upper", coordinate_field stem.high)
    ∷ (codes "more", Counted stem.more) ∷ (codes "step", Counted step) ∷ (codes "nearest", coordinate_field place) ∷ []

-- Of one that speaks of the drawing.
unfoldable pub drawing_fields_of : Reason → List NamedField
drawing_fields_of (Outside point font_box) = (codes "point", Point point) ∷ (codes "FontBBox", FontBox font_box) ∷ []
drawing_fields_of (Area twentyfold turns) =
    (codes "area", Decimal (in_unit Areas twentyfold)) ∷ (codes "subpaths", Counted turns.subpaths) ∷ (codes "clockwise", Counted turns.clockwise)
    ∷ (codes "step", Counted turns.first) ∷ []
drawing_fields_of (Stroke line_start start segment) = stroke_fields line_start start (end_of segment)
drawing_fields_of (Beyond direction quarters place start end) =
    (codes "axis", Axis direction) ∷ (codes "quarters", Counted quarters) ∷ (codes "place", Decimal (in_unit OnCurve place))
    ∷ (codes "start", coordinate_field start) ∷ (codes "end", coordinate_field end) ∷ []
drawing_fields_of (Untouched stem step nearest) = stem_fields stem step nearest
drawing_fields_of reason = font_fields_of reason

unfoldable pub fields_of : Reason → List NamedField
fields_of (Count command taken there) = (codes "command", Command command) ∷ (codes "taken", Counted taken) ∷ (codes "there", Counted there) ∷ []
fields_of (Full token there) = (codes "token", OneToken token) ∷ (codes "there", Counted there) ∷ []
fields_of (Length bytes len_iv) = (codes "bytes", Counted bytes) ∷ (codes "lenIV", Integer len_iv) ∷ []
fields_of (Ending subr) = (codes "subr", Counted subr) ∷ []
fields_of (Behind next) = (codes "next", OneToken next) ∷ []
fields_of (Pairs moves points ends) = (codes "moves", Counted moves) ∷ (codes "points", Counted points) ∷ (codes "ends", Holds ends) ∷ []
fields_of (Argument place number) = (codes "place", Counted place) ∷ (codes "number", coordinate_field number) ∷ []
fields_of (Quotient dividend divisor) = (codes "dividend", coordinate_field dividend) ∷ (codes "divisor", coordinate_field divisor) ∷ []
fields_of (Depth calls) = (codes "calls", Counted calls) ∷ []
fields_of (Subr number found) = (codes "number", coordinate_field number) ∷ (codes "found", Holds found) ∷ []
fields_of (Token token) = (codes "token", OneToken token) ∷ []
fields_of (Since None) = []
fields_of (Since (Some step)) = (codes "step", Counted step) ∷ []
fields_of (Open start pen) = (codes "start", Point start) ∷ (codes "pen", Point pen) ∷ []
fields_of (Stems own other) = (codes "own", OneStem own) ∷ (codes "other", OneStem other.stem) ∷ (codes "step", Counted other.step) ∷ []
fields_of (Stem stem) = (codes "stem", OneStem stem) ∷ []
fields_of (Triple one two three) = (codes "one", OneStem one) ∷ (codes "two", OneStem two) ∷ (codes "three", OneStem three) ∷ []
fields_of (Miss named pen) = (codes "named", Point named) ∷ (codes "pen", Point pen) ∷ []
fields_of (Othersubr number count) = (codes "number", coordinate_field number) ∷ (codes "count", coordinate_field count) ∷ []
fields_of (Arguments count there) = (codes "count", coordinate_field count) ∷ (codes "there", Counted there) ∷ []
fields_of (Codes base accent) = (codes "base", coordinate_field base) ∷ (codes "accent", coordinate_field accent) ∷ []
fields_of (Sidebearings told own) = (codes "told", coordinate_field told) ∷ (codes "own", coordinate_field own) ∷ []
fields_of reason = drawing_fields_of reason
