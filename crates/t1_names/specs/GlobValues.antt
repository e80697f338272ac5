-- What a `Glob` is.
use Rattle.std.specs.Prelude.{List, map}
use Rattle.t1_names.specs.Globs.{Glob, Piece}
use Rattle.t1_names.specs.Globs.Piece.{any_char, double_star, itself, set, star}
use Rattle.t1_names.specs.declared.globs.Glob.{Glob as GlobValue}
use Rattle.t1_names.specs.declared.globs.Piece.{Piece as PieceValue}
use Rattle.t1_names.specs.declared.globs.Piece.TheVariants.{AnyChar, DoubleStar, Itself, Set, Star}

-- The piece that a value means.
abbrev pub piece_of : PieceValue → Piece
piece_of (Itself own) = itself own
piece_of AnyChar = any_char
piece_of (Set members) = set members.negated members.members.items
piece_of Star = star
piece_of DoubleStar = double_star

abbrev pub pieces_of : List PieceValue → List Piece
pieces_of pieces = map piece_of pieces

abbrev pub glob_of : GlobValue → Glob
glob_of glob = record { pieces = pieces_of glob.pieces.items; has_slash = glob.has_slash }
