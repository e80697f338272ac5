-- Numbers that are taken one after another.
use Rattle.std.proofs.Common.{◌≡◌, ℕ, suc, ℤ, ◌+◌, ◌<◌, List, [], ◌∷◌, ◌++◌, length, take, drop, false, cond, ap, subst, sym, ◌∙◌, lt-ltb, length-append, arith}
use Rattle.t1_char.specs.declared.cursor.Ahead.{Ahead}
use Rattle.t1_char.specs.declared.cursor.Cursor.{Cursor}
use Rattle.t1_char.specs.declared.token.CharToken.{CharToken}
use Rattle.t1_char.specs.declared.token.CharToken.TheVariants.{Number}
use Rattle.t1_char.specs.Effects.{goes, effect, state_of}
use Rattle.t1_char.specs.Numbers.{units}
use Rattle.t1_char.specs.Stacks.{most_numbers, put}
use Rattle.t1_char.specs.Tokens.{more_of, token_at, tokens_behind, tokens_of}
use Rattle.t1_char.specs.Private.Cursors.{behind_token, bytes_left, cursor_of, tokens_left}
use Rattle.t1_char.specs.Private.Taking.{IsTaking, PassesNumbers, PassesUpTo}
use Rattle.std.specs.List.{list_any}
use Rattle.t1_char.specs.Lines.{is_far}
use Rattle.t1_char.proofs.NearNumbers.{near_more}
use Rattle.t1_char.proofs.Skipping.{tokens_behind_is}

-- The number of its first byte and what follows it.
number_read : (first : ℕ) (number : ℤ) (ahead between behind : Ahead) → bytes_left (cursor_of ahead) ≡ first ∷ bytes_left (cursor_of between)
    → token_at first (bytes_left (cursor_of between)) ≡ Number number
    → bytes_left (cursor_of behind) ≡ drop (more_of first) (bytes_left (cursor_of between))
    → tokens_left (cursor_of ahead) ≡ Number number ∷ tokens_left (cursor_of behind)
unfolding tokens_behind
number_read first number ahead between behind bytes token left =
    let rest : List ℕ = bytes_left (cursor_of between) in
    ap tokens_of bytes
    ∙ ap (λ t. t ∷ tokens_behind (more_of first) rest) token
    ∙ ap (λ ts. Number number ∷ ts) (tokens_behind_is (more_of first) rest ∙ ap tokens_of (sym left))

pub put_more : (stack : List ℤ) (z : ℤ) → length stack < most_numbers → length (put stack z) ≡ length stack + 1
put_more stack z room = ap (λ b. length (cond b (stack ++ z ∷ []) stack)) (lt-ltb (length stack) most_numbers room) ∙ length-append stack (z ∷ [])

-- A number that was read before another token, and was put where there was room.
pub passed_more : (passed : ℕ) (before ahead behind : Cursor) (old stack new : List ℤ) (token next : CharToken) (number : ℤ)
    → PassesUpTo passed before old token ahead stack → token ≡ Number number → length stack < most_numbers → new ≡ put stack (units number)
    → tokens_left ahead ≡ next ∷ behind_token next (tokens_left behind) → PassesUpTo (passed + 1) before old next behind new
passed_more passed before ahead behind old stack new token next number so_far is room stacked next_is =
    let same : suc passed ≡ passed + 1 = omega arith in
    record {
      between = ahead;
      passes = subst (λ n. PassesNumbers n before ahead old new) same (
        so_far.between,
        (
          stack,
          (
            so_far.passes,
            record {
              number = number;
              token = so_far.token_is ∙ ap (λ t. t ∷ behind_token t (tokens_left ahead)) is;
              plain = λ named depth waiting. ap (λ s. effect (state_of s waiting) goes) stacked;
              room = room;
            },
          ),
        ),
      );
      token_is = next_is;
    }

pub taken_more : (ahead left between behind : Ahead) (old cells more : List ℤ) (len first : ℕ) (number : ℤ) → IsTaking ahead old cells len left
    → bytes_left (cursor_of left) ≡ first ∷ bytes_left (cursor_of between)
    → token_at first (bytes_left (cursor_of between)) ≡ Number number
    → bytes_left (cursor_of behind) ≡ drop (more_of first) (bytes_left (cursor_of between))
    → take (len + 1) more ≡ put (take len cells) (units number) → len < most_numbers → is_far (units number) ≡ false
    → IsTaking ahead old more (len + 1) behind
taken_more ahead left between behind old cells more len first number so_far bytes token rest is room short =
    let room_is : length (take len cells) < most_numbers = omega (arith, so_far.len_is, room) in
    record {
      count = suc so_far.count;
      passes = (
        cursor_of left,
        (
          take len cells,
          (
            so_far.passes,
            record {
              number = number;
              token = number_read first number left between behind bytes token rest;
              plain = λ named depth waiting. ap (λ s. effect (state_of s waiting) goes) is;
              room = room_is;
            },
          ),
        ),
      );
      more = omega (arith, so_far.more);
      len_is = ap (λ s. length s) is ∙ put_more (take len cells) (units number) room_is ∙ ap (λ n. n + 1) so_far.len_is;
      room = omega (arith, room);
      near = λ near. ap (list_any is_far) is ∙ near_more (take len cells) (units number) (so_far.near near) short;
    }
