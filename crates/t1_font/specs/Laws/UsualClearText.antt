-- A clear text in the usual form (Type 1 Font Format, chapter 2), item by item: how each is written,
-- and what it states.
use Rattle.std.specs.Prelude.{◌≡◌, ◌≤◌, ◌&&◌, ℕ, Bool, true, false, None, Some, List, [], ◌∷◌, ◌++◌, codes, filter, flat_map, ◌-◌}
use Rattle.std.specs.List.{All}
use Rattle.t1_scan.specs.Spelling.{Plain, name, word, meant}
use Rattle.t1_scan.specs.Texts.{lexeme_of}
use Rattle.t1_font.specs.declared.encoding.Encoding.TheVariants.{Standard, Custom}
use Rattle.t1_font.specs.declared.key.Key.{Key}
use Rattle.t1_font.specs.Keys.{clear_key, clear_note, same_name}
use Rattle.t1_font.specs.Tokens.{is_name_kind, is_number_kind}
use Rattle.t1_font.specs.Fonts.{Stated, plain, encoding, code}
use Rattle.t1_font.specs.ClearText.{begins_as_font}
use Rattle.t1_font.specs.Laws.Written.{Piece, token, IsWritten, IsWhole, is_word_of}
use Rattle.t1_font.specs.Bounds.{code_count}

-- What is in a custom encoding: a group of dup, the code n as a number, a name and put; a token that
-- states nothing; the word dup alone. Names are given without their slash.
pub data CodeItem : Type 0 where
  group : ℕ → Plain → List ℕ → CodeItem
  between_groups : Plain → CodeItem
  lone_dup : CodeItem

abbrev pub code_pieces : CodeItem → List Piece
code_pieces (group n number run) =
    token (word (codes "dup")) ∷ token number ∷ token (name run) ∷ token (word (codes "put")) ∷ []
code_pieces (between_groups t) = token t ∷ []
code_pieces lone_dup = token (word (codes "dup")) ∷ []

abbrev pub code_states : CodeItem → List Stated
code_states (group n number run) = code n run ∷ []
code_states (between_groups t) = []
code_states lone_dup = []

-- A token states nothing in a custom encoding: any but the words def, dup and eexec.
pub record PassesInCodes (t : Plain) : Type 0 where
  pub not_def : is_word_of (codes "def") t ≡ false
  pub not_dup : is_word_of (codes "dup") t ≡ false
  pub not_eexec : is_word_of (codes "eexec") t ≡ false

-- A number, a name and put, which a dup before would make a group.
abbrev pub ends_group : List CodeItem → Bool
ends_group (between_groups a ∷ between_groups b ∷ between_groups c ∷ items) =
    is_number_kind (meant a) && (is_name_kind (meant b) && is_word_of (codes "put") c)
ends_group _ = false

-- A group's code is whole, from 0 to 255; a lone dup is before no such three tokens.
abbrev pub AreCodeItems : List CodeItem → Type 0
AreCodeItems [] = Unit {0}
AreCodeItems (group n number run ∷ items) = IsWhole number n × (n ≤ code_count - 1) × AreCodeItems items
AreCodeItems (between_groups t ∷ items) = PassesInCodes t × AreCodeItems items
AreCodeItems (lone_dup ∷ items) = (ends_group items ≡ false) × AreCodeItems items

-- What is in a clear text: a plain key k, by its name, with its value of one token; a noted key likewise;
-- /Encoding StandardEncoding; /Encoding, the number 256, array, what is in the encoding, and def; another name;
-- another token.
pub data ClearItem : Type 0 where
  key : Key → List ℕ → Plain → ClearItem
  noted_key : Key → List ℕ → Plain → ClearItem
  standard : ClearItem
  custom : Plain → List CodeItem → ClearItem
  other_name : List ℕ → ClearItem
  other_token : Plain → ClearItem

abbrev pub clear_pieces : ClearItem → List Piece
clear_pieces (key k run value) = token (name run) ∷ token value ∷ []
clear_pieces (noted_key k run value) = token (name run) ∷ token value ∷ []
clear_pieces standard = token (name (codes "Encoding")) ∷ token (word (codes "StandardEncoding")) ∷ []
clear_pieces (custom count items) =
    token (name (codes "Encoding")) ∷ token count ∷ token (word (codes "array"))
    ∷ (flat_map code_pieces items ++ token (word (codes "def")) ∷ [])
clear_pieces (other_name run) = token (name run) ∷ []
clear_pieces (other_token t) = token t ∷ []

abbrev pub clear_states : ClearItem → List Stated
clear_states (key k run value) = plain k (lexeme_of value) ∷ []
clear_states (noted_key k run value) = plain k (lexeme_of value) ∷ []
clear_states standard = encoding Standard ∷ []
clear_states (custom count items) = encoding Custom ∷ flat_map code_states items
clear_states (other_name run) = []
clear_states (other_token t) = []

-- A name, without its slash, that states nothing in the clear text: no plain key and no noted one, not Encoding, and
-- not WeightVector, which only a multiple master font has.
pub record IsOtherClearName (run : List ℕ) : Type 0 where
  pub no_key : clear_key (47 ∷ run) ≡ None
  pub no_note : clear_note (47 ∷ run) ≡ None
  pub not_encoding : same_name (47 ∷ run) (codes "/Encoding") ≡ false
  pub not_weights : same_name (47 ∷ run) (codes "/WeightVector") ≡ false

-- The name of a noted key has no other meaning.
pub record IsClearNote (k : Key) (run : List ℕ) : Type 0 where
  pub note : clear_note (47 ∷ run) ≡ Some k
  pub no_key : clear_key (47 ∷ run) ≡ None
  pub not_encoding : same_name (47 ∷ run) (codes "/Encoding") ≡ false
  pub not_weights : same_name (47 ∷ run) (codes "/WeightVector") ≡ false

-- A token that states nothing in the clear text: no name, and not the word eexec.
pub record PassesInClear (t : Plain) : Type 0 where
  pub no_name : is_name_kind (meant t) ≡ false
  pub not_eexec : is_word_of (codes "eexec") t ≡ false

-- The name of a key is the one that the key has. The value of a noted key is read once more, as another token.
abbrev pub IsClearItem : ClearItem → Type 0
IsClearItem (key k run value) = clear_key (47 ∷ run) ≡ Some k
IsClearItem (noted_key k run value) = IsClearNote k run × PassesInClear value
IsClearItem standard = Unit {0}
IsClearItem (custom count items) = IsWhole count code_count × AreCodeItems items
IsClearItem (other_name run) = IsOtherClearName run
IsClearItem (other_token t) = PassesInClear t

-- A text begins with %! and is written with these items and then the word eexec, which the rest
-- follows.
pub record IsUsualClear (items : List ClearItem) (s rest : List ℕ) : Type 0 where
  pub begins : begins_as_font s ≡ true
  pub usual : All IsClearItem items
  pub written : IsWritten s (flat_map clear_pieces items ++ token (word (codes "eexec")) ∷ []) rest

-- What all its items state.
abbrev pub all_clear_states : List ClearItem → List Stated
all_clear_states items = flat_map clear_states items

-- The entries of a clear text: its items without those that state nothing.
abbrev pub is_group : CodeItem → Bool
is_group (group n number run) = true
is_group (between_groups t) = false
is_group lone_dup = false

abbrev pub clear_entry : ClearItem → List ClearItem
clear_entry (key k run value) = key k run value ∷ []
clear_entry (noted_key k run value) = noted_key k run value ∷ []
clear_entry standard = standard ∷ []
clear_entry (custom count items) = custom count (filter is_group items) ∷ []
clear_entry (other_name run) = []
clear_entry (other_token t) = []

abbrev pub clear_entries : List ClearItem → List ClearItem
clear_entries items = flat_map clear_entry items
