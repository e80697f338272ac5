use Rattle.std.proofs.Common.{◌≡◌, arith, ap, encode_utf8_all, get_or, sym, ◌++◌, ◌∙◌}
use Rattle.std.proofs.lemmas.Grind.{common_steps}
use Rattle.t1_options.proofs.Paths.{itself_added}
use Rattle.t1_options.specs.Settings.Paths.{itself}
use Rattle.t1_options.proofs.settings.paths.text_of.Goals as goal

pub loop-c-preserved : goal.loop-c-preserved
loop-c-preserved c =
    let at : get_or c.args.name.now c.loop-c.c-index c.c-item.result ≡ c.c-item.result = grind (arith, common_steps) in
    c.in_ok-add_itself.ensures ∙ ap (λ t. t ++ encode_utf8_all (itself c.c-item.result)) c.loop-c.invariant
    ∙ sym (itself_added c.args.name.now c.loop-c.c-index c.c-item.result c.loop-c-test.true at)
