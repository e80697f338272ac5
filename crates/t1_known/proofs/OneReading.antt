-- A text is read one way.
use Rattle.std.proofs.Common.{◌≡◌, ◌+◌, ℕ, suc, List, [], ◌∷◌, ◌++◌, length, Ok, Err, refl, sym, ap, subst, ◌∙◌}
use Rattle.t1_many.specs.KnownFaults.{RowValue}
use Rattle.t1_many.specs.RowValues.{IsNoRow}
use Rattle.t1_known.proofs.ReadBack.{IsFault, key_twice_stops, never, no_row_stops, reached_never, same_rows, spoken_at}
use Rattle.t1_known.specs.Laws.{ATextIsReadOneWay}
use Rattle.t1_known.specs.Lines.{row_lines, spoken}
use Rattle.t1_known.specs.Reads.{AreLinesOf, HasKeyTwice, HasNoRow, ReachesLine}
use Rattle.t1_known.specs.declared.known.NotKnown.TheVariants.{Memory, NoRow, Twice}

-- Two places of a list: one place, or the one before the other.
data AreSplit (a : List (List ℕ)) (x : List ℕ) (b : List (List ℕ)) (y : List ℕ) : Type 0 where
  same : length a ≡ length b → x ≡ y → AreSplit a x b y
  earlier : (more : List (List ℕ)) → b ≡ a ++ x ∷ more → AreSplit a x b y
  later : (more : List (List ℕ)) → a ≡ b ++ y ∷ more → AreSplit a x b y

split : (a : List (List ℕ)) (x : List ℕ) (as' : List (List ℕ)) (b : List (List ℕ)) (y : List ℕ) (bs : List (List ℕ)) → a ++ x ∷ as' ≡ b ++ y ∷ bs
    → AreSplit a x b y
split [] x as' [] y bs e = let is : x ≡ y = cc in same refl is
split [] x as' (l ∷ b) y bs e = let is : l ≡ x = cc in earlier b (ap (λ (k : List ℕ). k ∷ b) is)
split (k ∷ a) x as' [] y bs e = let is : k ≡ y = cc in later a (ap (λ (l : List ℕ). l ∷ a) is)
split (k ∷ a) x as' (l ∷ b) y bs e =
    let tails : a ++ x ∷ as' ≡ b ++ y ∷ bs = cc in
    let heads : k ≡ l = cc in
    go heads (split a x as' b y bs tails)
  where
    go : k ≡ l → AreSplit a x b y → AreSplit (k ∷ a) x (l ∷ b) y
    go heads (same lengths is) = same (ap (λ n. suc n) lengths) is
    go heads (earlier more is) = earlier more (ap (λ (t : List (List ℕ)). l ∷ t) is ∙ ap (λ (h : List ℕ). h ∷ (a ++ x ∷ more)) (sym heads))
    go heads (later more is) = later more (ap (λ (t : List (List ℕ)). k ∷ t) is ∙ ap (λ (h : List ℕ). h ∷ (b ++ y ∷ more)) heads)

-- two lines at which the reading stops are one
one_stop : (text : List ℕ) (m : ℕ) (x : List ℕ) (n : ℕ) (y : List ℕ) (rows other : List RowValue) → ReachesLine text m x rows → IsFault x rows
    → ReachesLine text n y other → IsFault y other → (m ≡ n) × (x ≡ y)
one_stop text m x n y rows other at_x fault_x at_y fault_y = go (split at_x.front x at_x.behind at_y.front y at_y.behind (sym at_x.split ∙ at_y.split))
  where
    go : AreSplit at_x.front x at_y.front y → (m ≡ n) × (x ≡ y)
    go (same lengths is) = (at_x.number_is ∙ ap (λ k. k + 1) lengths ∙ sym at_y.number_is, is)
    go (earlier more is) = absurd (never (spoken at_x.front) x (spoken more) other rows
        (subst (λ ls. AreLinesOf ls other) (ap spoken is ∙ spoken_at at_x.front x more at_x.speaks) at_y.are) at_x.are fault_x)
    go (later more is) = absurd (never (spoken at_y.front) y (spoken more) rows other
        (subst (λ ls. AreLinesOf ls rows) (ap spoken is ∙ spoken_at at_y.front y more at_y.speaks) at_x.are) at_y.are fault_y)

-- a line that is no row isn't that of a row whose key occurs twice
not_both : (text : List ℕ) (m : ℕ) (x : List ℕ) (n : ℕ) (y : List ℕ) → HasNoRow text m x → HasKeyTwice text n y → ⊥
not_both text m x n y none twice =
    let one = one_stop text m x n y none.rows twice.rows none.reaches (no_row_stops text m x none) twice.reaches (key_twice_stops text n y twice) in
    let is : IsNoRow y = subst IsNoRow one.1 none.none in
    is twice.row twice.is.0 twice.is.1

pub one_reading : ATextIsReadOneWay
one_reading text (Ok a) (Ok b) is_a is_b = same_rows (row_lines text) a b is_a.each is_b.each
one_reading text (Ok a) (Err (NoRow line)) is_a is_b =
    reached_never text line.number line.text.now a is_b.rows is_a is_b.reaches (no_row_stops text line.number line.text.now is_b)
one_reading text (Ok a) (Err (Twice line)) is_a is_b =
    reached_never text line.number line.text.now a is_b.rows is_a is_b.reaches (key_twice_stops text line.number line.text.now is_b)
one_reading text (Ok a) (Err Memory) is_a is_b = tt
one_reading text (Err (NoRow line)) (Ok b) is_a is_b =
    reached_never text line.number line.text.now b is_a.rows is_b is_a.reaches (no_row_stops text line.number line.text.now is_a)
one_reading text (Err (NoRow line)) (Err (NoRow other)) is_a is_b =
    one_stop text line.number line.text.now other.number other.text.now is_a.rows is_b.rows is_a.reaches
    (no_row_stops text line.number line.text.now is_a) is_b.reaches (no_row_stops text other.number other.text.now is_b)
one_reading text (Err (NoRow line)) (Err (Twice other)) is_a is_b = not_both text line.number line.text.now other.number other.text.now is_a is_b
one_reading text (Err (NoRow line)) (Err Memory) is_a is_b = tt
one_reading text (Err (Twice line)) (Ok b) is_a is_b =
    reached_never text line.number line.text.now b is_a.rows is_b is_a.reaches (key_twice_stops text line.number line.text.now is_a)
one_reading text (Err (Twice line)) (Err (NoRow other)) is_a is_b = not_both text other.number other.text.now line.number line.text.now is_b is_a
one_reading text (Err (Twice line)) (Err (Twice other)) is_a is_b =
    one_stop text line.number line.text.now other.number other.text.now is_a.rows is_b.rows is_a.reaches
    (key_twice_stops text line.number line.text.now is_a) is_b.reaches (key_twice_stops text other.number other.text.now is_b)
one_reading text (Err (Twice line)) (Err Memory) is_a is_b = tt
one_reading text (Err Memory) b is_a is_b = tt
