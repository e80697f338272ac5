-- What is wrong in the row of a text: the first token of each kind of fault.
use Rattle.std.specs.Prelude.{ℕ, Bool, Option, Some, None, List, [], ◌∷◌, ◌++◌, if◌then◌else◌, length}
use Rattle.std.specs.Option.{option_map}
use Rattle.t1_font.specs.Rows.{RowToken, token_in_row}
use Rattle.t1_texts.specs.declared.faults.Placed.{Placed as PlacedToken}
use Rattle.t1_texts.specs.declared.faults.RowFaults.{RowFaults as FaultsOfRow}
use Rattle.t1_texts.specs.Given.{is_unknown}
use Rattle.t1_texts.specs.Readers.{is_unread}
use Rattle.t1_words.specs.Pairs.{is_unpaired}

-- A token, and its place in its row, from 0.
pub record Placed : Type 0 where
  pub token : RowToken
  pub place : ℕ

-- The first token of which a test holds, which knows the tokens before it.
abbrev pub first_from : (List RowToken → RowToken → Bool) → List RowToken → List RowToken → Option Placed
first_from test before [] = None
first_from test before (t ∷ ts) =
    if test before t then Some (record { token = t; place = length before }) else first_from test (before ++ t ∷ []) ts

abbrev pub first_where : (List RowToken → RowToken → Bool) → List RowToken → Option Placed
first_where test row = first_from test [] row

-- A brace or a bracket without a partner.
abbrev pub has_no_partner : List RowToken → RowToken → Bool
has_no_partner before t = is_unpaired t.kind t.text

pub record RowFaults : Type 0 where
  pub unpaired : Option Placed
  pub unknown : Option Placed
  pub unread : Option Placed

abbrev pub faults_in : List RowToken → RowFaults
faults_in row = record {
  unpaired = first_where has_no_partner row;
  unknown = first_where is_unknown row;
  unread = first_where is_unread row;
}

-- What those of the program say.
abbrev pub placed_view : PlacedToken → Placed
placed_view p = record { token = token_in_row p.token; place = p.place }

abbrev pub faults_view : FaultsOfRow → RowFaults
faults_view f = record {
  unpaired = option_map placed_view f.unpaired;
  unknown = option_map placed_view f.unknown;
  unread = option_map placed_view f.unread;
}
