-- Globs of names.
use Rattle.std.proofs.Common.{◌≡◌, ◌<◌, ◌+◌, ◌++◌, ◌∷◌, [], List, ap, append-nil, encode_utf8_all, flat_map, get_or, length, take, ℕ, ◌∙◌}
use Rattle.std.proofs.lemmas.Grind.{flat_map-append}
use Rattle.std.proofs.lemmas.List.{take_more}
use Rattle.std.proofs.lemmas.Str.{encodes-append}
use Rattle.t1_options.specs.Settings.Paths.{itself}

-- one character more of a glob
pub itself_added : (name : List ℕ) (i c : ℕ) → i < length name → get_or name i c ≡ c
    → encode_utf8_all (flat_map itself (take (i + 1) name)) ≡ encode_utf8_all (flat_map itself (take i name)) ++ encode_utf8_all (itself c)
itself_added name i c less is =
    ap (λ t. encode_utf8_all (flat_map itself t)) (take_more name i c less ∙ ap (λ x. take i name ++ x ∷ []) is)
    ∙ ap encode_utf8_all (flat_map-append itself (take i name) (c ∷ []) ∙ ap (λ t. flat_map itself (take i name) ++ t) (append-nil (itself c)))
    ∙ encodes-append (flat_map itself (take i name)) (itself c)
