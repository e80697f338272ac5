-- The laws of the expansion, one step at a time.
use Rattle.std.proofs.Common.{[], ap, sym}
use Rattle.t1_char.specs.Charstrings.{code_at, tokens_in}
use Rattle.t1_char.specs.Steps.{Run, at_start, steps_of}
use Rattle.t1_char.specs.Laws.Frames.{CallsGoIn, EndsStop, GlyphsBegin, ReturnsGoBack, TokensGoOn}
use Rattle.t1_char.proofs.Rests.{rest_of_one, rest_goes, rest_calls, rest_returns, rest_finishes}

pub glyphs_begin : GlyphsBegin
unfolding steps_of
glyphs_begin font glyph = sym (ap (λ (run : Run). run.steps) (rest_of_one font [] (tokens_in font (code_at font glyph)) at_start))

pub tokens_go_on : TokensGoOn
tokens_go_on font path t ts callers s x is = ap (λ (run : Run). run.steps) (rest_goes font path t ts callers s x is)

pub calls_go_in : CallsGoIn
calls_go_in font path t ts callers s x number code deep is = ap (λ (run : Run). run.steps) (rest_calls font path t ts callers s x number code deep is)

pub returns_go_back : ReturnsGoBack
returns_go_back font path t ts callers s x is = ap (λ (run : Run). run.steps) (rest_returns font path t ts callers s x is)

pub ends_stop : EndsStop
ends_stop font path t ts callers s x is = ap (λ (run : Run). run.steps) (rest_finishes font path t ts callers s x is)
