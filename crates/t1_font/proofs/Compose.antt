-- What holds of what is read next, by what holds of what was read first.
use Rattle.std.proofs.Common.{Bool, true, false, cond, Option, Some, None, Result, Ok, Err, IfOk, IfSome}
use Rattle.t1_font.specs.declared.unread.Unread.{Unread}
use Rattle.t1_font.specs.Readings.{◌>>=◌}
use Rattle.t1_font.specs.Tokens.{◌>?◌}

-- What follows something that was read.
pub bind : {A B : Type 0} (P : A → Type 0) (Q : B → Type 0) (r : Result A Unread) (f : A → Result B Unread) → IfOk r P → ((x : A) → P x → IfOk (f x) Q)
    → IfOk (r >>= f) Q
bind P Q (Ok x) f h k = k x h
bind P Q (Err e) f h k = tt

-- What follows something that was read, whatever it is.
pub next : {A B : Type 0} (Q : B → Type 0) (r : Result A Unread) (f : A → Result B Unread) → ((x : A) → IfOk (f x) Q) → IfOk (r >>= f) Q
next Q (Ok x) f k = k x
next Q (Err e) f k = tt

pub either : {A : Type 0} (Q : A → Type 0) (b : Bool) (x y : Result A Unread) → IfOk x Q → IfOk y Q → IfOk (cond b x y) Q
either Q true x y h k = h
either Q false x y h k = k

pub choose : {A : Type 0} (Q : A → Type 0) (b : Bool) (x y : A) → Q x → Q y → Q (cond b x y)
choose Q true x y h k = h
choose Q false x y h k = k

-- What follows something that was looked at.
pub look : {A B : Type 0} (P : A → Type 0) (Q : B → Type 0) (r : Option A) (f : A → Option B) → IfSome r P → ((x : A) → P x → IfSome (f x) Q)
    → IfSome (r >? f) Q
look P Q (Some x) f h k = k x h
look P Q None f h k = tt

-- What follows something that was looked at, whatever it is.
pub glance : {A B : Type 0} (Q : B → Type 0) (r : Option A) (f : A → Option B) → ((x : A) → IfSome (f x) Q) → IfSome (r >? f) Q
glance Q (Some x) f k = k x
glance Q None f k = tt

pub which : {A : Type 0} (Q : A → Type 0) (b : Bool) (x y : Option A) → IfSome x Q → IfSome y Q → IfSome (cond b x y) Q
which Q true x y h k = h
which Q false x y h k = k

-- A look ahead that finds nothing leaves the other result.
pub found_or : {A : Type 0} (Q : A → Type 0) (r : Option A) (y : A) → IfSome r Q → Q y → Q (elim r [ Some x ↦ x | None ↦ y ])
found_or Q (Some x) y h k = h
found_or Q None y h k = k

pub ok_is : {A : Type 0} (Q : A → Type 0) (x : A) → Q x → IfOk {E = Unread} (Ok x) Q
ok_is Q x h = h
