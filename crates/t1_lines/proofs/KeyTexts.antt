-- The text of a key names it: no two keys have one text.
use Rattle.std.proofs.Common.{◌<◌, ◌≡◌, ℕ, zero, suc, if◌then◌else◌, List, [], ◌∷◌, refl, arith, Option, Some, None}
use Rattle.t1_font.specs.Keys.{same_name}
use Rattle.t1_rules.specs.Keys.{key_count, key_text_of, key_texts}

-- The number of the first key of this text, of those from a number on.
abbrev pub key_among : ℕ → List (List ℕ) → List ℕ → Option ℕ
key_among key [] word = None
key_among key (text ∷ texts) word = if same_name text word then Some key else key_among (suc key) texts word

-- The key of this text.
unfoldable pub key_of : List ℕ → Option ℕ
key_of word = key_among 0 key_texts word

pub key-found : (key : ℕ) → key < key_count → key_of (key_text_of key) ≡ Some key
unfolding key_of
key-found zero within = refl
key-found (suc zero) within = refl
key-found (suc (suc zero)) within = refl
key-found (suc (suc (suc zero))) within = refl
key-found (suc (suc (suc (suc zero)))) within = refl
key-found (suc (suc (suc (suc (suc zero))))) within = refl
key-found (suc (suc (suc (suc (suc (suc zero)))))) within = refl
key-found (suc (suc (suc (suc (suc (suc (suc zero))))))) within = refl
key-found (suc (suc (suc (suc (suc (suc (suc (suc zero)))))))) within = refl
key-found (suc (suc (suc (suc (suc (suc (suc (suc (suc zero))))))))) within = refl
key-found (suc (suc (suc (suc (suc (suc (suc (suc (suc (suc zero)))))))))) within = refl
key-found (suc (suc (suc (suc (suc (suc (suc (suc (suc (suc (suc zero))))))))))) within = refl
key-found (suc (suc (suc (suc (suc (suc (suc (suc (suc (suc (suc (suc zero)))))))))))) within = refl
key-found (suc (suc (suc (suc (suc (suc (suc (suc (suc (suc (suc (suc (suc zero))))))))))))) within = refl
key-found (suc (suc (suc (suc (suc (suc (suc (suc (suc (suc (suc (suc (suc (suc zero)))))))))))))) within = refl
key-found (suc (suc (suc (suc (suc (suc (suc (suc (suc (suc (suc (suc (suc (suc (suc zero))))))))))))))) within = refl
key-found (suc (suc (suc (suc (suc (suc (suc (suc (suc (suc (suc (suc (suc (suc (suc (suc zero)))))))))))))))) within = refl
key-found (suc (suc (suc (suc (suc (suc (suc (suc (suc (suc (suc (suc (suc (suc (suc (suc (suc zero))))))))))))))))) within = refl
key-found (suc (suc (suc (suc (suc (suc (suc (suc (suc (suc (suc (suc (suc (suc (suc (suc (suc (suc zero)))))))))))))))))) within = refl
key-found (suc (suc (suc (suc (suc (suc (suc (suc (suc (suc (suc (suc (suc (suc (suc (suc (suc (suc (suc zero))))))))))))))))))) within = refl
key-found (suc (suc (suc (suc (suc (suc (suc (suc (suc (suc (suc (suc (suc (suc (suc (suc (suc (suc (suc (suc zero)))))))))))))))))))) within = refl
key-found (suc (suc (suc (suc (suc (suc (suc (suc (suc (suc (suc (suc (suc (suc (suc (suc (suc (suc (suc (suc (suc zero))))))))))))))))))))) within = refl
key-found (suc (suc (suc (suc (suc (suc (suc (suc (suc (suc (suc (suc (suc (suc (suc (suc (suc (suc (suc (suc (suc (suc zero)))))))))))))))))))))) within = refl
key-found (suc (suc (suc (suc (suc (suc (suc (suc (suc (suc (suc (suc (suc (suc (suc (suc (suc (suc (suc (suc (suc (suc (suc zero))))))))))))))))))))))) within = refl
key-found (suc (suc (suc (suc (suc (suc (suc (suc (suc (suc (suc (suc (suc (suc (suc (suc (suc (suc (suc (suc (suc (suc (suc (suc zero)))))))))))))))))))))))) within = refl
key-found (suc (suc (suc (suc (suc (suc (suc (suc (suc (suc (suc (suc (suc (suc (suc (suc (suc (suc (suc (suc (suc (suc (suc (suc (suc zero))))))))))))))))))))))))) within = refl
key-found (suc (suc (suc (suc (suc (suc (suc (suc (suc (suc (suc (suc (suc (suc (suc (suc (suc (suc (suc (suc (suc (suc (suc (suc (suc (suc k)))))))))))))))))))))))))) within =
    absurd (omega arith)
