use Rattle.std.proofs.Common.{◌∷◌, ◌∙◌, arith, sym}
use lib.Utf8.{encode}
use Rattle.std.proofs.lemmas.Str.Pattern.{strip_prefix_char}
use Rattle.t1_names.proofs.WordLemmas.{tails_same}
use Rattle.t1_names.proofs.words.without_front.Goals as goal

pub returns-in_err-rest : goal.returns-in_err-rest
unfolding encode
returns-in_err-rest c = rw c.from_residual.ensures (λ rest is. absurd (c.in_err-rest.ensures.cases (47 ∷ rest) is))

pub returns-in_err-strip_prefix : goal.returns-in_err-strip_prefix
unfolding encode
returns-in_err-strip_prefix c =
    let dot = rw c.in_ok-rest.was at (strip_prefix_char 46 c.args.word.now c.strip_prefix.result c.strip_prefix.ensures.cases (omega arith)) in
    rw c.from_residual-in_err-strip_prefix.ensures
    (λ rest is. absurd (c.in_err-strip_prefix.ensures.cases rest (tails_same 46 46 c.in_ok-rest.rest.now (47 ∷ rest) (sym dot ∙ is))))
