-- What is in a part of a command.
use Rattle.std.proofs.Common.{◌≡◌, ℕ, ◌==◌, false, List, [], ◌∷◌, ◌++◌, Some, inl, inr, refl, arith}
use Rattle.std.proofs.lemmas.Bool.{cases_eq}
use Rattle.std.proofs.lemmas.Bool.Decides.{nat_tests}
use Rattle.std.specs.List.{flat_map, list_any}
use Rattle.t1_forms.specs.Commands.{message_byte, property_byte}
use Rattle.t1_forms.specs.Percents.{decoded, decoded_behind, nothing}
use Rattle.t1_forms.specs.Laws.{CommandsAreReadBack, PartsStayInCommands, ends_message, ends_property}

-- ---- what is read back

-- A byte of a message has a meaning of its own, or is written as it is.
message_cases : (P : ℕ → List ℕ → Type 0) (b : ℕ) → P 37 (message_byte 37) → P 13 (message_byte 13) → P 10 (message_byte 10)
    → ((b == 37) ≡ false → (b == 13) ≡ false → (b == 10) ≡ false → P b (b ∷ [])) → P b (message_byte b)
message_cases P b percent carriage end plain = elim (cases_eq b 37) [
  | inl same ↦ rw same percent
  | inr m ↦ elim (cases_eq b 13) [
    | inl same ↦ rw same carriage
    | inr n ↦ elim (cases_eq b 10) [
      | inl same ↦ rw same end
      | inr o ↦
          let x : (b == 37) ≡ false = grind (arith, nat_tests, m) in
          let y : (b == 13) ≡ false = grind (arith, nat_tests, n) in
          let z : (b == 10) ≡ false = grind (arith, nat_tests, o) in
          rw (x, y, z) (plain x y z)
    ]
  ]
]

message_front : (b : ℕ) (rest text : List ℕ) → decoded_behind nothing rest ≡ Some text
    → decoded_behind nothing (message_byte b ++ rest) ≡ Some (b ∷ text)
unfolding decoded_behind
message_front b rest text h =
    message_cases (λ (c : ℕ) (bytes : List ℕ). decoded_behind nothing (bytes ++ rest) ≡ Some (c ∷ text)) b (rw h refl) (rw h refl) (rw h refl)
    (λ x y z. rw (x, h) refl)

property_front : (b : ℕ) (rest text : List ℕ) → decoded_behind nothing rest ≡ Some text
    → decoded_behind nothing (property_byte b ++ rest) ≡ Some (b ∷ text)
unfolding decoded_behind
property_front b rest text h = elim (cases_eq b 58) [
  | inl same ↦ rw (same, h) refl
  | inr m ↦ elim (cases_eq b 44) [
    | inl same ↦ rw (same, h) refl
    | inr n ↦
        let x : (b == 58) ≡ false = grind (arith, nat_tests, m) in
        let y : (b == 44) ≡ false = grind (arith, nat_tests, n) in
        rw (x, y) (message_front b rest text h)
  ]
]

message_read : (text : List ℕ) → decoded (flat_map message_byte text) ≡ Some text
unfolding decoded_behind
message_read [] = refl
message_read (b ∷ text) = message_front b (flat_map message_byte text) text (message_read text)

property_read : (text : List ℕ) → decoded (flat_map property_byte text) ≡ Some text
unfolding decoded_behind
property_read [] = refl
property_read (b ∷ text) = property_front b (flat_map property_byte text) text (property_read text)

pub read_back : CommandsAreReadBack
read_back text = (message_read text, property_read text)

-- ---- what ends nothing

message_stays : (b : ℕ) (rest : List ℕ) → list_any ends_message rest ≡ false → list_any ends_message (message_byte b ++ rest) ≡ false
message_stays b rest h = message_cases (λ (c : ℕ) (bytes : List ℕ). list_any ends_message (bytes ++ rest) ≡ false) b h h h (λ x y z. rw (y, z) h)

plain_stays : (b : ℕ) (rest : List ℕ) → (b == 58) ≡ false → (b == 44) ≡ false → list_any ends_property rest ≡ false
    → list_any ends_property (message_byte b ++ rest) ≡ false
plain_stays b rest colon comma h =
    message_cases (λ (c : ℕ) (bytes : List ℕ). list_any ends_property (bytes ++ rest) ≡ false) b h h h (λ x y z. rw (y, z, colon, comma) h)

property_stays : (b : ℕ) (rest : List ℕ) → list_any ends_property rest ≡ false → list_any ends_property (property_byte b ++ rest) ≡ false
property_stays b rest h = elim (cases_eq b 58) [
  | inl same ↦ rw same h
  | inr m ↦ elim (cases_eq b 44) [
    | inl same ↦ rw same h
    | inr n ↦
        let x : (b == 58) ≡ false = grind (arith, nat_tests, m) in
        let y : (b == 44) ≡ false = grind (arith, nat_tests, n) in
        rw (x, y) (plain_stays b rest x y h)
  ]
]

messages_stay : (text : List ℕ) → list_any ends_message (flat_map message_byte text) ≡ false
messages_stay [] = refl
messages_stay (b ∷ text) = message_stays b (flat_map message_byte text) (messages_stay text)

properties_stay : (text : List ℕ) → list_any ends_property (flat_map property_byte text) ≡ false
properties_stay [] = refl
properties_stay (b ∷ text) = property_stays b (flat_map property_byte text) (properties_stay text)

pub stay : PartsStayInCommands
stay text = (messages_stay text, properties_stay text)
