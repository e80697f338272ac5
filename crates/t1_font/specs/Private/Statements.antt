-- What a statement and a turn of the program say.
use Rattle.std.specs.Prelude.{Option, Some, None}
use Rattle.t1_scan.specs.declared.token.Token.{Token}
use Rattle.t1_scan.specs.Texts.{Lexeme}
use Rattle.t1_font.specs.declared.statement.Statement.{Statement}
use Rattle.t1_font.specs.declared.statement.Statement.TheVariants.{Plain, Encoding, Code, BadCode, Size, Subr, Glyph}
use Rattle.t1_font.specs.declared.statement.Turn.{Turn}
use Rattle.t1_font.specs.declared.statement.Turn.TheVariants.{Over, Goes}
use Rattle.t1_font.specs.Fonts.{Stated, plain, encoding, code, bad_code, size, subr, glyph}
use Rattle.t1_font.specs.TextTurns.{TextTurn, over, goes}

abbrev pub lexeme_of : Token → Lexeme
lexeme_of t = record { kind = t.kind; text = t.text.now }

abbrev pub statement_view : Statement → Stated
statement_view (Plain k t) = plain k (lexeme_of t)
statement_view (Encoding form) = encoding form
statement_view (Code n name) = code n name.now
statement_view BadCode = bad_code
statement_view (Size n) = size n
statement_view (Subr n bytes) = subr n bytes.now
statement_view (Glyph name bytes) = glyph name.now bytes.now

abbrev pub view_if_any : Option Statement → Option Stated
view_if_any None = None
view_if_any (Some s) = Some (statement_view s)

abbrev pub turn_view : {M : Type 0} → Turn M → TextTurn M
turn_view (Over left) = over left.now
turn_view (Goes s mode left) = goes (view_if_any s) mode left.now
