-- Sets of two groups of rules, joined; and what all watchers keep and say at a number.
use Rattle.std.proofs.Common.{◌≡◌, ℕ, ℤ, ◌<◌, ◌==◌, ◌||◌, Bool, true, false, List, [], ◌∷◌, ◌++◌, length, refl, sym, ◌∙◌, arith}
use Rattle.std.proofs.Math.Bool.{and-false}
use Rattle.std.proofs.lemmas.List.Folds.{list_any-append}
use Rattle.t1_char.specs.Editions.{has_later_rules}
use Rattle.t1_char.specs.Steps.{StepView}
use Rattle.t1_char.specs.declared.edition.Edition.{Edition}
use Rattle.t1_char.specs.declared.token.CharToken.TheVariants.{Number}
use Rattle.t1_rules.specs.declared.watches.Watches.{Watches}
use Rattle.t1_rules.specs.StepRules.{StepRule, argument_rules, breaks, call_rules, flex_rules, othersubr_rules, path_rules, seac_rules, stem_rules, step_rules}
use Rattle.t1_rules.specs.StepRules.Stems.{is_replaced, is_replaced_and_popped}
use Rattle.t1_rules.specs.Private.Standing.{WatchesStandFor}
use Rattle.t1_rules.specs.Watches.{IsCalm}
use Rattle.t1_rules.proofs.Lemmas.Counters.{quiet_untold, stays_untold}
use Rattle.t1_rules.proofs.Lemmas.Flex.{flex_stays}
use Rattle.t1_rules.proofs.Lemmas.Later.{none_later}
use Rattle.t1_rules.proofs.Lemmas.Paths.{stays}
use Rattle.t1_rules.proofs.Lemmas.Seac.{outline_stays}
use Rattle.t1_rules.proofs.Lemmas.Stems.{stays_for_stems}
use Rattle.t1_rules.proofs.Lemmas.Tokens.{no_command}
use Rattle.t1_rules.proofs.Lemmas.Triples.{stays_for_triples}

pub joined : (one other : List StepRule) (n : ℕ) (before : List StepView) (t : StepView) (both left right : Bool)
    → both ≡ (left || right) → left ≡ breaks one n before t → right ≡ breaks other n before t
    → both ≡ breaks (one ++ other) n before t
joined one other n before t both left right is by_left by_right =
    is ∙ rw (by_left, by_right) (sym (list_any-append _ one other))

-- Seven sets and one more: the last can be joined to all of them.
pub last_joined : (a b c d e f g last : Bool) → ((a || (b || (c || (d || (e || (f || g)))))) || last) ≡ (a || (b || (c || (d || (e || (f || (g || last)))))))
last_joined true b c d e f g last = refl
last_joined false true c d e f g last = refl
last_joined false false true d e f g last = refl
last_joined false false false true e f g last = refl
last_joined false false false false true f g last = refl
last_joined false false false false false true g last = refl
last_joined false false false false false false g last = refl

-- A watcher of counter control that keeps nothing tells that the edition hasn't the rules after number 70.
pub is_off : (edition : Edition) (w : Watches) (before : List StepView) → WatchesStandFor edition w before → w.counters.is_on ≡ false
    → has_later_rules edition ≡ false
unfolding WatchesStandFor
is_off edition w before st none = sym st.1.1.1.1.1.is_on ∙ none

-- What is kept stays after a number, where the last steps leave it so.
pub stays_at_number : (edition : Edition) (w : Watches) (before : List StepView) (t : StepView) (z : ℤ) → t.token ≡ Number z → IsCalm w
    → WatchesStandFor edition w before → WatchesStandFor edition w (before ++ t ∷ [])
unfolding WatchesStandFor
stays_at_number edition w before t z is calm st = (
  stays w.paths before t (rw is (record {
    clears = refl;
    sets_width = refl;
    moves = refl;
    draws = refl;
    closes = refl;
    finishes = refl;
    ends =
        refl;
    othersubr = refl;
  })) st.0,
  (
    stays_for_stems edition w.stems w.stems before t (rw is (record { stem = refl; line = refl; othersubr = refl })) st.1.0
        refl refl refl refl refl (rw is calm.replaced) (rw is calm.hints_popped),
    (
      flex_stays w.flex w.flex before t (rw is (no_command (Number z) refl)) st.1.1.0 refl refl refl refl calm.ended calm.popped calm.popped_twice,
      (
        outline_stays w.seac before t (rw is (no_command (Number z) refl)) st.1.1.1.0,
        (
          stays_for_triples edition w.triples before t (rw is refl) st.1.1.1.1.0,
          stays_untold edition w.counters before t (quiet_untold t (rw is refl) (rw is refl)) st.1.1.1.1.1,
        ),
      ),
    ),
  ),
)

-- Nor is a rule broken, where the stack isn't full.
pub no_fault_at_number : (edition : Edition) (n : ℕ) (before : List StepView) (t : StepView) (z : ℤ) → t.token ≡ Number z → length t.stack < 24
    → is_replaced before ≡ false → is_replaced_and_popped before ≡ false → breaks (step_rules edition) n before t ≡ false
unfolding step_rules argument_rules call_rules path_rules stem_rules flex_rules othersubr_rules seac_rules
no_fault_at_number edition n before t z is few replaced popped =
    let room : (length t.stack == 24) ≡ false = grind (arith, few) in
    rw (is, room, replaced, popped) (none_later edition before t (rw is refl) (rw is refl) (rw is (and-false (has_later_rules edition))) n)
