use Rattle.std.proofs.Common.{◌≡◌, List, [], map, Option, None, Some, option_map, unwrap_or, Bor, refl, ap, ◌∙◌}
use Rattle.clap.proofs.WalkLemmas.{raw_values-rows}
use Rattle.clap.specs.Words.{Text, found_of}
use Rattle.t1_options.proofs.given.values_in.Goals as goal

-- no value is the empty list
or_none : (values : Option (Bor (List (Bor Text)))) (none : Bor (List (Bor Text))) → none.now ≡ []
    → map (λ s. s.now) (unwrap_or values none).now ≡ unwrap_or (option_map (λ s. map (λ v. v.now) s.now) values) []
or_none None none empty = ap (map (λ s. s.now)) empty
or_none (Some values) none empty = refl

pub returns : goal.returns
returns c =
    ap (λ r. map (λ s. s.now) r.now) c.unwrap_or.ensures ∙ or_none c.get_strs.result _ refl
    ∙ ap (λ values. unwrap_or values []) (c.get_strs.ensures ∙ raw_values-rows (found_of c.args.matches.now) c.args.id.now)
