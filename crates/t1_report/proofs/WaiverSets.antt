-- Waivers in the program's set: what a look-up and an insertion are to the waivers that it has.
use Rattle.std.proofs.Common.{◌≡◌, ℕ, ◌&&◌, ◌||◌, nat_eq, Bool, true, false, cond, Option, None, Some, List, [], ◌∷◌, ◌++◌, option_map, refl, sym, ap}
use Rattle.std.specs.Borrow.{Bor}
use Rattle.std.specs.List.{list_any}
use Rattle.std.proofs.lemmas.List.{map-append}
use Rattle.indexmap.specs.IndexSet.{insert_key}
use Rattle.t1_char.specs.declared.edition.Edition.{Edition}
use Rattle.t1_font.specs.Keys.{same_name}
use Rattle.t1_rules.specs.declared.rule.Rule.{Rule}
use Rattle.t1_rules.specs.Book.{number_of}
use Rattle.t1_report.specs.WaiverViews.{waiver_view, waivers_now}
use Rattle.t1_report.specs.Waivers.{Waiver, is_waived, text_read, waiver_of, with_waiver}

abbrev pub same_pair : Bor (List ℕ) × Rule → Bor (List ℕ) × Rule → Bool
same_pair a b = same_name a.0.now b.0.now && nat_eq (number_of a.1) (number_of b.1)

pub any_waiver : (keys : List (Bor (List ℕ) × Rule)) (k : Bor (List ℕ) × Rule) → list_any (same_pair k) keys ≡ is_waived
    (waivers_now keys) k.0.now (number_of k.1)
any_waiver [] k = refl
any_waiver (w ∷ keys) k = ap (λ (x : Bool). same_pair k w || x) (any_waiver keys k)

pub waiver_more : (keys : List (Bor (List ℕ) × Rule)) (k : Bor (List ℕ) × Rule) → with_waiver (waivers_now keys) (waiver_view k)
    ≡ waivers_now (insert_key same_pair keys k)
waiver_more keys k =
    rw (sym (any_waiver keys k))
    (elim (list_any (same_pair k) keys) as (λ b. cond b (waivers_now keys) (waivers_now keys ++ waiver_view k ∷ []) ≡ waivers_now
    (cond b keys (keys ++ k ∷ []))) [
      | true ↦ refl
      | false ↦ sym (map-append waiver_view keys (k ∷ []))
    ])

-- A line that is a waiver.
pub text_is : (edition : Edition) (waivers : List Waiver) (text : List ℕ) (w : Waiver) → waiver_of edition text ≡ Some w → text_read edition waivers text ≡ Some (with_waiver waivers w)
text_is edition waivers [] w is = let no : None ≡ Some w = is in cc
text_is edition waivers (b ∷ text) w is = ap (λ (o : Option Waiver). option_map (with_waiver waivers) o) is
