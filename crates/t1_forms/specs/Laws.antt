-- The statements of laws.
use Rattle.std.specs.Prelude.{◌≡◌, ◌<◌, ◌==◌, ◌||◌, ℕ, Bool, false, List, None, Some, IfSome, option_map}
use Rattle.std.specs.List.{AllByRecursion, flat_map, list_any}
use Rattle.t1_lines.specs.Lines.{PlaceValue, at_key, at_step, at_waiver, of_fault, of_refusal}
use Rattle.t1_forms.specs.Commands.{message_byte, property_byte}
use Rattle.t1_forms.specs.NameWords.{name_of_word}
use Rattle.t1_forms.specs.Objects.{object_of, reason_object}
use Rattle.t1_forms.specs.Percents.{decoded}
use Rattle.t1_forms.specs.Shown.{shown}
use Rattle.t1_forms.specs.Tellings.{IsWhat, ToldValue, WhatValue, of_line, of_unchecked}

abbrev pub AreBytes : List ℕ → Type 0
AreBytes name = AllByRecursion (λ byte. byte < 256) name

-- A name of bytes, as it is shown, is a word for it: so no two names are shown alike, and each name has a word.
abbrev pub ShownNamesAreWords : Type 0
ShownNamesAreWords = (name : List ℕ) → AreBytes name → name_of_word (shown name) ≡ Some name

-- The names that are reported are bytes.
abbrev pub IsPlaceOfBytes : PlaceValue → Type 0
IsPlaceOfBytes (at_key key index) = Unit {0}
IsPlaceOfBytes (at_step name path step) = AreBytes name
IsPlaceOfBytes (at_waiver name waived) = AreBytes name

abbrev pub IsWhatOfBytes : WhatValue → Type 0
IsWhatOfBytes (of_line (of_fault l)) = IsPlaceOfBytes l.place
IsWhatOfBytes (of_line (of_refusal code)) = Unit {0}
IsWhatOfBytes (of_unchecked reason) = AreBytes reason

-- A line of a font, or why it wasn't checked, whose names are bytes, and whose reason is.
pub record IsOfBytes (t : ToldValue) : Type 0 where
  pub is : IsWhat t.what
  pub font : IfSome t.font AreBytes
  pub what : IsWhatOfBytes t.what
  pub reason : IfSome t.reason (λ r. AreBytes r.text)

-- The same of the same font, for a reason of the same text and the same object.
pub record AreAlike (a b : ToldValue) : Type 0 where
  pub font : a.font ≡ b.font
  pub what : a.what ≡ b.what
  pub text : option_map (λ r. r.text) a.reason ≡ option_map (λ r. r.text) b.reason
  pub reason : option_map reason_object a.reason ≡ option_map reason_object b.reason

-- What is reported differently has different objects.
abbrev pub DifferentTellingsHaveDifferentObjects : Type 0
DifferentTellingsHaveDifferentObjects =
    (a b : ToldValue) → IsOfBytes a → IsOfBytes b → object_of a ≡ object_of b → AreAlike a b

-- So where no reason is reported, one object is of one thing that is reported.
abbrev pub AnObjectTellsOneLine : Type 0
AnObjectTellsOneLine =
    (a b : ToldValue) → a.reason ≡ None → b.reason ≡ None → IsOfBytes a → IsOfBytes b → object_of a ≡ object_of b → a ≡ b

-- What a command shows, and the value of a property, are read back as they were.
abbrev pub CommandsAreReadBack : Type 0
CommandsAreReadBack =
    (text : List ℕ) → (decoded (flat_map message_byte text) ≡ Some text) × (decoded (flat_map property_byte text) ≡ Some text)

-- A line end would end a command, and `:` and `,` the value of a property too.
abbrev pub ends_message : ℕ → Bool
ends_message byte = byte == 10 || byte == 13

abbrev pub ends_property : ℕ → Bool
ends_property byte = ends_message byte || (byte == 58 || byte == 44)

-- No such byte is in what a command shows, or in such a value.
abbrev pub PartsStayInCommands : Type 0
PartsStayInCommands =
    (text : List ℕ)
    → (list_any ends_message (flat_map message_byte text) ≡ false) × (list_any ends_property (flat_map property_byte text) ≡ false)
