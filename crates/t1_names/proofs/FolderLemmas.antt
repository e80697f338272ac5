-- Folders listed one after another.
use Rattle.std.proofs.Common.{◌≡◌, ℕ, ◌+◌, ◌-◌, ◌<◌, Bool, IsTrue, false, drop, take, ◌∙◌, List, [], ◌∷◌, ◌++◌, Result, Ok, Err, String, Global, IsPermutation, arith, get_or, length, map, string_bytes, sym, ap, subst, append_assoc, append-nil, ◌^◌}
use Rattle.std.proofs.lemmas.Bool.Decides.{same_from_decides}
use Rattle.std.proofs.lemmas.Grind.{common_steps}
use Rattle.std.proofs.lemmas.Slice.Eq.{bytes_eq-Decides}
use Rattle.std.specs.Char.{to_ascii_lowercase}
use Rattle.std.specs.Cmp.Lexicographic.{slice_cmp}
use Rattle.std.specs.List.Sorted.{IsSorted}
use Rattle.std.specs.Ordering.{is_lt, nat_cmp}
use Rattle.std.specs.Result.{IfOk}
use Rattle.std.specs.String.{string_cmp}
use Rattle.std.proofs.lemmas.List.{get_or-map, length-map, map-append}
use Rattle.std.proofs.lemmas.List.Sorted.{IsPermutation-map}
use Rattle.t1_names.specs.Folders.{AreBelow, AreInOrder, IsBelow, ends_so, folders_in, fonts_in, unsearched_at}
use Rattle.t1_names.specs.Folders.AreBelow.{listed}
use Rattle.t1_names.specs.declared.folders.Below.{Below}
use Rattle.t1_names.specs.declared.folders.Listing.{Listing}

pub ends_are_same : (r : Bool) (name end : List ℕ) (start : ℕ) → start ≡ length name - length end → end ≡ map to_ascii_lowercase end
    → (IsTrue r → map to_ascii_lowercase (take (length name - start) (drop start name)) ≡ map to_ascii_lowercase end)
    × (map to_ascii_lowercase (take (length name - start) (drop start name)) ≡ map to_ascii_lowercase end → IsTrue r)
    → r ≡ ends_so name end
ends_are_same r name end start start_is lower test =
    let cut : take (length name - start) (drop start name) ≡ drop (length name - length end) name = grind (arith, common_steps) in
    same_from_decides r (ends_so name end)
    (λ yes. ap (map to_ascii_lowercase) (sym cut) ∙ test.0 yes ∙ sym lower, λ same. test.1 (ap (map to_ascii_lowercase) cut ∙ same ∙ lower))
    (bytes_eq-Decides (map to_ascii_lowercase (drop (length name - length end) name)) end)

sorted_bytes : (names : List (String Global)) → IsSorted string_cmp names → IsSorted (slice_cmp nat_cmp) (map string_bytes names)
sorted_bytes [] ascend k d low high = absurd (omega arith)
sorted_bytes (first ∷ names) ascend k d low high =
    let high : k + 1 < length (first ∷ names) = omega (arith, length-map (first ∷ names) string_bytes) in
    subst (λ a. is_lt (slice_cmp nat_cmp a (get_or (map string_bytes (first ∷ names)) k d)) ≡ false)
    (sym (get_or-map string_bytes (first ∷ names) (k + 1) first d high))
    (subst (λ b. is_lt (slice_cmp nat_cmp (string_bytes (get_or (first ∷ names) (k + 1) first)) b) ≡ false)
    (sym (get_or-map string_bytes (first ∷ names) k first d (omega arith)))
    (ascend k first low high))

pub in_order : (names sorted : List (String Global)) → IsPermutation names sorted → IsSorted string_cmp sorted
    → AreInOrder (map string_bytes names) (map string_bytes sorted)
in_order names sorted same ascend = record { same = IsPermutation-map string_bytes names sorted same; ascend = sorted_bytes sorted ascend }

-- What is found of the folders that are left is all there is, after what was found so far.
abbrev pub GoesOn : {F E : Type 0} → (F → F → List ℕ → Result Listing E → Type 0) → F → List ℕ → F → ℕ → List (List ℕ) → List (List ℕ)
    → List (List ℕ) → Type 0
GoesOn {F} Lists start path files n pending fonts missed =
    (new : F) → (more lost : List (List ℕ)) → AreBelow Lists files new n pending more lost
    → AreBelow Lists start new 0 (path ∷ []) (fonts ++ more) (missed ++ lost)

module _ {F E : Type 0} (Lists : F → F → List ℕ → Result Listing E → Type 0) (start : F) (path : List ℕ) where
  pub after_listed :
      (files files' : F) (n : ℕ) (less : n < 2 ^ 64 - 1) (pending fonts missed popped pending' fonts' missed' : List (List ℕ)) (folder : List ℕ)
      (listing : Listing) → GoesOn Lists start path files n pending fonts missed → pending ≡ popped ++ folder ∷ [] → Lists files files' folder (Ok listing)
      → pending' ≡ popped ++ folders_in folder listing.entries.items → fonts' ≡ fonts ++ fonts_in folder listing.entries.items
      → missed' ≡ missed ++ unsearched_at folder listing.whole → GoesOn Lists start path files' (n + 1) pending' fonts' missed'
  after_listed files files' n less pending fonts missed popped pending' fonts' missed' folder listing before split lists pending_is fonts_are missed_are
      new more lost below =
      subst (λ fs. AreBelow Lists start new 0 (path ∷ []) (fs ++ more) (missed' ++ lost)) (sym fonts_are)
      (subst (λ ms. AreBelow Lists start new 0 (path ∷ []) ((fonts ++ fonts_in folder listing.entries.items) ++ more) (ms ++ lost)) (sym missed_are)
      (subst (λ fs. AreBelow Lists start new 0 (path ∷ []) fs ((missed ++ unsearched_at folder listing.whole) ++ lost)) (sym (append_assoc fonts (fonts_in folder listing.entries.items) more))
      (subst (λ ms. AreBelow Lists start new 0 (path ∷ []) (fonts ++ (fonts_in folder listing.entries.items ++ more)) ms) (sym (append_assoc missed (unsearched_at folder listing.whole) lost))
      (before new (fonts_in folder listing.entries.items ++ more) (unsearched_at folder listing.whole ++ lost)
      (subst (λ ps. AreBelow Lists files new n ps (fonts_in folder listing.entries.items ++ more) (unsearched_at folder listing.whole ++ lost)) (sym split)
      (listed files files' new n less popped folder listing more lost lists (subst (λ ps. AreBelow Lists files' new (n + 1) ps more lost) pending_is below)))))))

  pub no_more : (new : F) (fonts missed : List (List ℕ)) → AreBelow Lists start new 0 (path ∷ []) (fonts ++ []) (missed ++ [])
      → AreBelow Lists start new 0 (path ∷ []) fonts missed
  no_more new fonts missed are =
      subst (λ fs. AreBelow Lists start new 0 (path ∷ []) fs missed) (append-nil fonts)
      (subst (λ ms. AreBelow Lists start new 0 (path ∷ []) (fonts ++ []) ms) (append-nil missed) are)

  pub more_missed : (new : F) (fonts : List (List ℕ)) (missed rest missed' : List (String Global)) → missed' ≡ missed ++ rest
      → AreBelow Lists start new 0 (path ∷ []) (fonts ++ []) (map string_bytes missed ++ map string_bytes rest)
      → AreBelow Lists start new 0 (path ∷ []) fonts (map string_bytes missed')
  more_missed new fonts missed rest missed' is are =
      let all : map string_bytes missed' ≡ map string_bytes missed ++ map string_bytes rest = ap (map string_bytes) is ∙ map-append string_bytes missed rest in
      subst (λ fs. AreBelow Lists start new 0 (path ∷ []) fs (map string_bytes missed')) (append-nil fonts)
      (subst (λ ms. AreBelow Lists start new 0 (path ∷ []) (fonts ++ []) ms) (sym all) are)

  pub in_order_below : {X : Type 0} (new : F) (r : Result Below X) (fonts missed : List (List ℕ))
      → IfOk r (λ below. AreInOrder fonts (map string_bytes below.fonts.items)) → IfOk r (λ below. AreInOrder missed (map string_bytes below.unsearched.items))
      → AreBelow Lists start new 0 (path ∷ []) fonts missed
      → IfOk r (λ below. IsBelow Lists start new path (map string_bytes below.fonts.items) (map string_bytes below.unsearched.items))
  in_order_below new (Ok below) fonts missed fonts_sorted missed_sorted are = record {
    found = fonts;
    missed = missed;
    are = are;
    fonts_sorted = fonts_sorted;
    unsearched_sorted = missed_sorted;
  }
  in_order_below new (Err e) fonts missed fonts_sorted missed_sorted are = tt
