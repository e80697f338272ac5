use Rattle.std.proofs.Common.{Global, String, ap, map, not, string_bytes, ◌&&◌, ◌∙◌}
use Rattle.t1_many.proofs.Letters.{picked_by}
use Rattle.t1_many.proofs.choice.is_told.Goals as goal
use Rattle.t1_many.specs.Choice.{is_only}

pub returns : goal.returns
returns c =
    ap (λ b. b && not c.is_picked.result) c.is_only.ensures
    ∙ ap (λ b. is_only (map string_bytes c.args.choice.only.now) c.args.code.now && not b)
    (c.is_picked.ensures ∙ picked_by (λ (word : String Global). string_bytes word) c.args.code.now c.args.choice.except.now)
