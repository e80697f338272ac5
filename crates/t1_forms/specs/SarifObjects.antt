-- What a document of SARIF says of rules, of lines and of fonts that weren't checked, as objects of JSON: Static Analysis Results
-- Interchange Format 2.1.0, 3.49, 3.27 and 3.58. Members are in the order of their keys.
use Rattle.std.specs.Prelude.{ℕ, ◌/◌, ◌%◌, ◌==◌, ◌||◌, ◌&&◌, Bool, nat_lt, List, [], ◌∷◌, ◌++◌, codes, drop, map, Option, Some, None, if◌then◌else◌, unwrap_or}
use Rattle.std.specs.Fmt.{decimal}
use Rattle.std.specs.List.{flat_map}
use Rattle.std.specs.Option.{option_map_or}
use Rattle.serde_json.specs.Data.{Data, number, unsigned, string, array, object, no_items, item, Members, no_members, member, put}
use Rattle.serde_json.specs.View.{items_of}
use Rattle.t1_rules.specs.Book.{code_of, level_of, rule_coded}
use Rattle.t1_rules.specs.Keys.{key_text_of}
use Rattle.t1_rules.specs.declared.level.Level.{Level}
use Rattle.t1_rules.specs.declared.level.Level.TheVariants.{Must, Should, Tidy}
use Rattle.t1_lines.specs.Lines.{LineValue, PlaceValue, at_key, at_step, at_waiver, of_fault, of_refusal}
use Rattle.t1_forms.specs.Objects.{refusal_code_of}
use Rattle.t1_forms.specs.PageValues.{PageValue, PagesValue, place_among}
use Rattle.t1_forms.specs.Shown.{shown}
use Rattle.t1_reason_texts.specs.Names.{hexadecimal_digit}
use Rattle.t1_forms.specs.Tellings.{ReasonValue}

-- ---- rules

-- The word of SARIF for a level: 3.27.10.
abbrev pub sarif_level : Level → List ℕ
sarif_level Must = codes "error"
sarif_level Should = codes "warning"
sarif_level Tidy = codes "note"

-- Of a page: that of its rule. A refusal's is an error.
abbrev pub level_coded : List ℕ → List ℕ
level_coded code = option_map_or (λ rule. sarif_level (level_of rule)) (rule_coded code) (codes "error")

abbrev pub text_object : List ℕ → Data
text_object text = object (member (codes "text") (string text) no_members)

abbrev pub level_object : List ℕ → Data
level_object level = object (member (codes "level") (string level) no_members)

-- A page as text and as Markdown.
abbrev pub help_object : List ℕ → Data
help_object text = object (member (codes "markdown") (string text) (member (codes "text") (string text) no_members))

-- What is said of each rule and each refusal.
abbrev pub page_members : PageValue → Members
page_members page =
    member (codes "defaultConfiguration") (level_object (level_coded page.code))
    (member (codes "help") (help_object page.text)
    (member (codes "id") (string page.code)
    (member (codes "shortDescription") (text_object page.title) no_members)))

-- Where the page of all rules has an address, each has its own there.
abbrev pub with_help_uri : Option (List ℕ) → List ℕ → Members → Members
with_help_uri None anchor members = members
with_help_uri (Some docs) anchor members = put (codes "helpUri") (string (docs ++ (35 ∷ anchor))) members

abbrev pub page_object : Option (List ℕ) → PageValue → Data
page_object docs page = object (with_help_uri docs page.anchor (page_members page))

-- The version of the program.
abbrev pub version : List ℕ
version = codes "1.0.0"

-- The program, the pages of its rules and its version.
abbrev pub tool_object : PagesValue → Data
tool_object pages =
    object (member (codes "driver") (object
    (member (codes "name") (string (codes "t1check"))
    (member (codes "rules") (array (items_of (map (page_object pages.docs) pages.list)))
    (member (codes "version") (string version) no_members)))) no_members)

-- ---- places

-- A byte of a path in a URI: Uniform Resource Identifiers, RFC 3986, 2.1, 2.3 and 3.3. Written as they are: letters, digits, `-`, `.`, `_`,
-- `~` and `/`; any other is `%NN`.
abbrev pub is_letter_or_digit : ℕ → Bool
is_letter_or_digit byte = nat_lt 47 byte && nat_lt byte 58 || (nat_lt 64 byte && nat_lt byte 91 || nat_lt 96 byte && nat_lt byte 123)

abbrev pub is_plain_in_uri : ℕ → Bool
is_plain_in_uri byte = is_letter_or_digit byte || (byte == 45 || (byte == 46 || (byte == 95 || (byte == 126 || byte == 47))))

abbrev pub uri_byte : ℕ → List ℕ
uri_byte byte = if is_plain_in_uri byte then byte ∷ [] else 37 ∷ hexadecimal_digit (byte / 16) ∷ hexadecimal_digit (byte % 16) ∷ []

-- A font: its path, and line 1, since what shows results needs a line.
abbrev pub physical_location : List ℕ → Data
physical_location font =
    object (member (codes "artifactLocation") (object (member (codes "uri") (string (flat_map uri_byte font)) no_members))
    (member (codes "region") (object (member (codes "startLine") (number (unsigned 1)) no_members)) no_members))

abbrev pub logical_location : List ℕ → List ℕ → Data
logical_location kind name = object (member (codes "kind") (string kind) (member (codes "name") (string name) no_members))

-- The place of a fault, from without: a key and an index; a glyph, the Subrs that are being executed, and the step; or the glyph and the
-- rule of a waiver.
abbrev pub logical_locations : PlaceValue → List Data
logical_locations (at_key key index) = logical_location (codes "key") (key_text_of key) ∷ logical_location (codes "index") (decimal index) ∷ []
logical_locations (at_step name path step) =
    logical_location (codes "glyph") (shown name)
    ∷ (map (λ subr. logical_location (codes "subr") (decimal subr)) path ++ logical_location (codes "step") (decimal step) ∷ [])
logical_locations (at_waiver name waived) = logical_location (codes "waiver") (shown name) ∷ logical_location (codes "rule") (code_of waived) ∷ []

abbrev pub one : Data → Data
one place = array (item place no_items)

abbrev pub font_locations : Option (List ℕ) → Data
font_locations None = array no_items
font_locations (Some font) = one (object (member (codes "physicalLocation") (physical_location font) no_members))

abbrev pub fault_locations : Option (List ℕ) → PlaceValue → Data
fault_locations None place = one (object (member (codes "logicalLocations") (array (items_of (logical_locations place))) no_members))
fault_locations (Some font) place =
    one (object (member (codes "logicalLocations") (array (items_of (logical_locations place)))
    (member (codes "physicalLocation") (physical_location font) no_members)))

-- What a line speaks of, as a list of one place at most.
abbrev pub line_locations : Option (List ℕ) → LineValue → Data
line_locations font (of_fault l) = fault_locations font l.place
line_locations font (of_refusal code) = font_locations font

-- ---- results

abbrev pub line_code : LineValue → List ℕ
line_code (of_fault l) = code_of l.rule
line_code (of_refusal code) = refusal_code_of code

-- Letters and digits are shown as they are.
abbrev pub line_id : LineValue → List ℕ
line_id l = shown (line_code l)

abbrev pub line_level : LineValue → List ℕ
line_level (of_fault l) = sarif_level (level_of l.rule)
line_level (of_refusal code) = codes "error"

-- What is after the first `: ` of a fault's line, which is its number's.
abbrev pub behind_colon : List ℕ → List ℕ
behind_colon [] = []
behind_colon (byte ∷ rest) = if byte == 58 then drop 1 rest else behind_colon rest

-- What is shown of a line: a fault's has no number, which changes where other lines come or go.
abbrev pub line_message : LineValue → List ℕ → List ℕ
line_message (of_fault l) line = shown (behind_colon line)
line_message (of_refusal code) line = shown line

-- And then the reason, where there is one.
abbrev pub and_reason : List ℕ → Option ReasonValue → List ℕ
and_reason message None = message
and_reason message (Some r) = message ++ (codes ": " ++ shown r.text)

-- The unit that a line speaks of, after the font's name.
abbrev pub place_unit : PlaceValue → List ℕ
place_unit (at_key key index) = codes " font " ++ key_text_of key
place_unit (at_step name path step) = codes " glyph " ++ shown name
place_unit (at_waiver name waived) = codes " waiver " ++ (shown name ++ (32 ∷ code_of waived))

abbrev pub line_unit : LineValue → List ℕ
line_unit (of_fault l) = place_unit l.place
line_unit (of_refusal code) = codes " refused"

abbrev pub unit_of : Option (List ℕ) → LineValue → List ℕ
unit_of font l = shown (unwrap_or font []) ++ line_unit l

-- A line is known by its unit, its code, and how many lines of both there were, this one too. This stays where lines of other units or rules
-- come or go.
abbrev pub fingerprint : List ℕ → LineValue → ℕ → List ℕ
fingerprint unit l count = unit ++ (32 ∷ (line_id l ++ (32 ∷ decimal count)))

abbrev pub result_object : List PageValue → Option (List ℕ) → LineValue → List ℕ → Option ReasonValue → List ℕ → Data
result_object pages font l line reason print =
    object (member (codes "level") (string (line_level l))
    (member (codes "locations") (line_locations font l)
    (member (codes "message") (text_object (and_reason (line_message l line) reason))
    (member (codes "partialFingerprints") (object (member (codes "t1check/v1") (string print) no_members))
    (member (codes "ruleId") (string (line_id l))
    (member (codes "ruleIndex") (number (unsigned (place_among pages (line_code l)))) no_members))))))

-- Why a font wasn't checked.
abbrev pub notification_object : Option (List ℕ) → List ℕ → Data
notification_object font line =
    object (member (codes "level") (string (codes "error"))
    (member (codes "locations") (font_locations font)
    (member (codes "message") (text_object (shown line)) no_members)))
