use Rattle.std.proofs.Common.{Some, ap, sym, lit<, drop, ◌∙◌}
use Rattle.t1_seal.specs.Cipher.{charstring_start}
use Rattle.t1_char.specs.Private.Cursors.{deciphered}
use Rattle.t1_char.proofs.Deciphering.{decrypted_is}
use Rattle.t1_char.proofs.cursor.Cursor.behind.Goals as goal

pub returns-clause-bytes : goal.returns-clause-bytes
returns-clause-bytes c =
    let code = c.args.code.now in
    c.discard.ensures.left
    ∙ ap (λ r. drop c.args.random (deciphered (Some r) code)) c.charstring.ensures
    ∙ ap (drop c.args.random) (sym (decrypted_is charstring_start code (lit< tt)))
