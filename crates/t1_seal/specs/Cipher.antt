-- The cipher of eexec sections and charstrings. Type 1 Font Format 1.1, chapter 7 (Encryption).
-- There a state r of 16 bits is kept. A cipher byte c has the plain byte c xor (r / 256), and then r is
-- (c + r) * 52845 + 22719 modulo 65536. Here is the sum that this comes to.
use Rattle.std.specs.Prelude.{ℕ, zero, suc, ◌+◌, ◌-◌, ◌*◌, ◌/◌, ◌%◌, ◌^◌, bit_xor, List, length, map, take, slice_index}
use Rattle.std.specs.List.{range_with_len}

abbrev pub multiplier : ℕ
multiplier = 52845

abbrev pub addend : ℕ
addend = 22719

-- The state that an eexec section starts at, and the one of a charstring.
abbrev pub eexec_start : ℕ
eexec_start = 55665

abbrev pub charstring_start : ℕ
charstring_start = 4330

-- f 0 + f 1 + .. + f (n - 1)
abbrev pub sum_below : ℕ → (ℕ → ℕ) → ℕ
sum_below zero f = 0
sum_below (suc n) f = sum_below n f + f n

-- With a the multiplier, b the addend and i the length of front:
-- a ^ i * start, and for each byte c at j below i, c * a ^ (i - j) + b * a ^ (i - 1 - j).
abbrev pub closed_sum : ℕ → ℕ → ℕ → List ℕ → ℕ
closed_sum a b start front =
    a ^ length front * start
    + sum_below (length front)
    (λ j. slice_index front j * a ^ (length front - j) + b * a ^ (length front - 1 - j))

-- The state after the cipher bytes of front.
unfoldable pub state_after : ℕ → List ℕ → ℕ
state_after start front = closed_sum multiplier addend start front % 65536

-- The plain byte of a cipher byte after those of front.
abbrev pub plain_byte : ℕ → List ℕ → ℕ → ℕ
plain_byte start front byte = bit_xor byte (state_after start front / 256)

-- The plain bytes: the one at i is that of the cipher byte at i after the first i.
unfoldable pub decrypted : ℕ → List ℕ → List ℕ
decrypted start cipher =
    map (λ i. plain_byte start (take i cipher) (slice_index cipher i)) (range_with_len 0 (length cipher))
