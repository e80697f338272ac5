use Rattle.std.proofs.Common.{Global, String, string_bytes, sym, ◌∙◌}
use Rattle.t1_many.proofs.Letters.{only_by}
use Rattle.t1_many.proofs.choice.is_only.Goals as goal

pub returns : goal.returns
returns c =
    c.is_picked.ensures
    ∙ only_by (λ (word : String Global). string_bytes word) c.args.code.now c.args.words.now (sym c.is_empty.ensures ∙ c.if-is_empty.false)
