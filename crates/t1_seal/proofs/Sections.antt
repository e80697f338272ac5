-- Which bytes are the cipher bytes of a section.
use Rattle.std.proofs.Common.{◌≡◌, ℕ, true, false, List, refl}
use Rattle.t1_seal.specs.Eexec.{section_of, is_hexadecimal, digits_of, bytes_of_digits, opened, private_text_of}

pub hexadecimal_text : (bytes section : List ℕ) → section ≡ section_of bytes → is_hexadecimal section ≡ true
    → opened (bytes_of_digits (digits_of section)) ≡ private_text_of bytes
unfolding private_text_of
hexadecimal_text bytes section is test = rw (← is, test) refl

pub binary_text : (bytes section : List ℕ) → section ≡ section_of bytes → is_hexadecimal section ≡ false → opened section ≡ private_text_of bytes
unfolding private_text_of
binary_text bytes section is test = rw (← is, test) refl
