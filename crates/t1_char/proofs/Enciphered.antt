-- What was enciphered after random bytes is read as what follows these.
use Rattle.std.proofs.Common.{◌≡◌, ℕ, ◌≤◌, cond, ◌++◌, List, [], ◌∷◌, length, drop, length-append, ap, sym, ◌∙◌, lit<, le-ltb, arith}
use Rattle.std.proofs.Math.Seq.{drop-append_seam}
use Rattle.t1_seal.specs.Cipher.{charstring_start, decrypted}
use Rattle.t1_seal.specs.Laws.Cipher.{encrypted}
use Rattle.t1_seal.proofs.Deciphering.{deciphers_the_enciphered, length-decrypted}
use Rattle.t1_char.specs.declared.token.CharToken.TheVariants.{Short, End}
use Rattle.t1_char.specs.Tokens.{charstring_tokens, tokens_of}
use Rattle.t1_char.specs.Laws.Written.{WrittenIsRead, EncipheredIsRead}
use Rattle.t1_char.proofs.Spelling.{tokens_read}

pub written_is_read : WrittenIsRead
unfolding charstring_tokens
written_is_read n ts bytes are = tokens_read ts bytes are

pub enciphered_is_read : EncipheredIsRead
unfolding charstring_tokens
enciphered_is_read random ts bytes are =
    let plain : List ℕ = random ++ bytes in
    let code : List ℕ = encrypted charstring_start plain in
    let opens : decrypted charstring_start code ≡ plain = deciphers_the_enciphered charstring_start plain (lit< tt) in
    let count : length code ≡ length plain = sym (length-decrypted charstring_start code) ∙ ap (λ l. length l) opens in
    let long : length random ≤ length code = omega (arith, count, length-append random bytes) in
    ap (λ b. cond b (Short ∷ End ∷ []) (tokens_of (drop (length random) (decrypted charstring_start code)))) (le-ltb (length code) (length random) long)
    ∙ ap (λ l. tokens_of (drop (length random) l)) opens
    ∙ ap tokens_of (drop-append_seam random bytes)
    ∙ tokens_read ts bytes are
