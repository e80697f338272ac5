-- What is below folders is one thing.
use Rattle.std.proofs.Common.{◌≡◌, ℕ, ◌+◌, ◌-◌, ◌<◌, ◌^◌, List, [], ◌∷◌, ◌++◌, arith, length, length-append, refl, sym, ap, subst, ◌∙◌}
use Rattle.t1_names.specs.Folders.{AreBelow, folders_in, fonts_in, unsearched_at}
use Rattle.t1_names.specs.Folders.AreBelow.{listed, none, too_many}
use Rattle.t1_names.specs.Laws.{OneSearch, as_listed, lists_by}
use Rattle.t1_names.specs.declared.folders.Listing.{Listing}

no_empty_end : {A : Type 0} (xs : List A) (x : A) → xs ++ x ∷ [] ≡ [] → ⊥
no_empty_end xs x is = absurd (omega (arith, ap length is, length-append xs (x ∷ [])))

pub same_ends : {A : Type 0} (xs ys : List A) (x y : A) → xs ++ x ∷ [] ≡ ys ++ y ∷ [] → (xs ≡ ys) × (x ≡ y)
same_ends [] [] x y is = (refl, cc)
same_ends [] (b ∷ ys) x y is = absurd (omega (arith, ap length is, length-append ys (y ∷ [])))
same_ends (a ∷ xs) [] x y is = absurd (omega (arith, ap length is, length-append xs (x ∷ [])))
same_ends (a ∷ xs) (b ∷ ys) x y is =
    let rest : xs ++ x ∷ [] ≡ ys ++ y ∷ [] = cc in
    let first : a ≡ b = cc in
    let same : (xs ≡ ys) × (x ≡ y) = same_ends xs ys x y rest in
    let fronts : xs ≡ ys = same.0 in (cc, same.1)

same_listing : (one other : Listing) → as_listed one ≡ as_listed other → one ≡ other
same_listing one other is = cc

module _ (listing_of : List ℕ → Listing) where
  abbrev Below : Unit {0} → Unit {0} → ℕ → List (List ℕ) → List (List ℕ) → List (List ℕ) → Type 0
  Below = AreBelow (lists_by listing_of)

  -- how a search goes on
  data Search (n : ℕ) (folders fonts missed : List (List ℕ)) : Type 0 where
    over : folders ≡ [] → fonts ≡ [] → missed ≡ [] → Search n folders fonts missed
    went :
        n < 2 ^ 64 - 1 → (before : List (List ℕ)) → (folder : List ℕ) → (more lost : List (List ℕ)) → folders ≡ before ++ folder ∷ []
        → fonts ≡ fonts_in folder (listing_of folder).entries.items ++ more → missed ≡ unsearched_at folder (listing_of folder).whole ++ lost
        → (old new : Unit {0}) → Below old new (n + 1) (before ++ folders_in folder (listing_of folder).entries.items) more lost
        → Search n folders fonts missed
    stopped : n ≡ 2 ^ 64 - 1 → fonts ≡ [] → missed ≡ folders → Search n folders fonts missed

  search_of : (old new : Unit {0}) (n : ℕ) (folders fonts missed : List (List ℕ)) → Below old new n folders fonts missed → Search n folders fonts missed
  search_of _ _ _ _ _ _ (none files n) = over refl refl refl
  search_of _ _ _ _ _ _ (listed old between new n less before folder listing more lost lists rest) =
      let same : listing ≡ listing_of folder = same_listing listing (listing_of folder) lists in
      went less before folder more lost refl (ap (λ (l : Listing). fonts_in folder l.entries.items ++ more) same)
      (ap (λ (l : Listing). unsearched_at folder l.whole ++ lost) same) between new
      (subst (λ (l : Listing). Below between new (n + 1) (before ++ folders_in folder l.entries.items) more lost) same rest)
  search_of _ _ _ _ _ _ (too_many files folders) = stopped refl refl refl

  same_search : (old new : Unit {0}) (n : ℕ) (folders fonts missed fonts' missed' : List (List ℕ)) → Below old new n folders fonts missed
      → Search n folders fonts' missed' → (fonts ≡ fonts') × (missed ≡ missed')
  same_search _ _ _ _ _ _ fonts' missed' (none files n) (over no_folder no_font no_miss) = (sym no_font, sym no_miss)
  same_search _ _ _ _ _ _ fonts' missed' (none files n) (went less before folder more lost is fonts_are missed_are old' new' rest) = absurd (no_empty_end before folder (sym is))
  same_search _ _ _ _ _ _ fonts' missed' (none files n) (stopped end no_font no_miss) = (sym no_font, sym no_miss)
  same_search _ _ _ _ _ _ fonts' missed' (listed old between new n less before folder listing more lost lists rest) (over no_folder no_font no_miss) =
      absurd (no_empty_end before folder no_folder)
  same_search _ _ _ _ _ _ fonts' missed' (listed old between new n less before folder listing more lost lists rest) (went less' before' folder' more' lost' is fonts_are missed_are old' new' rest') =
      let same : listing ≡ listing_of folder = same_listing listing (listing_of folder) lists in
      let ends : (before ≡ before') × (folder ≡ folder') = same_ends before before' folder folder' is in
      let pending : before' ++ folders_in folder' (listing_of folder').entries.items ≡ before ++ folders_in folder listing.entries.items =
      ap (λ f. before' ++ folders_in f (listing_of f).entries.items) (sym ends.1) ∙ ap (λ b. b ++ folders_in folder (listing_of folder).entries.items) (sym ends.0)
      ∙ ap (λ (l : Listing). before ++ folders_in folder l.entries.items) (sym same) in
      let next : (more ≡ more') × (lost ≡ lost') =
      same_search between new (n + 1) (before ++ folders_in folder listing.entries.items) more lost more' lost' rest
      (search_of old' new' (n + 1) (before ++ folders_in folder listing.entries.items) more' lost'
      (subst (λ fs. Below old' new' (n + 1) fs more' lost') pending rest')) in (
        ap (λ (l : Listing). fonts_in folder l.entries.items ++ more) same ∙ ap (λ f. fonts_in f (listing_of f).entries.items ++ more) ends.1
            ∙ ap (λ m. fonts_in folder' (listing_of folder').entries.items ++ m) next.0 ∙ sym fonts_are,
        ap (λ (l : Listing). unsearched_at folder l.whole ++ lost) same ∙ ap (λ f. unsearched_at f (listing_of f).whole ++ lost) ends.1
            ∙ ap (λ m. unsearched_at folder' (listing_of folder').whole ++ m) next.1 ∙ sym missed_are,
      )
  same_search _ _ _ _ _ _ fonts' missed' (listed old between new n less before folder listing more lost lists rest) (stopped end no_font no_miss) = absurd (omega arith)
  same_search _ _ _ _ _ _ fonts' missed' (too_many files folders) (over no_folder no_font no_miss) = (sym no_font, no_folder ∙ sym no_miss)
  same_search _ _ _ _ _ _ fonts' missed' (too_many files folders) (went less before folder more lost is fonts_are missed_are old' new' rest) = absurd (omega arith)
  same_search _ _ _ _ _ _ fonts' missed' (too_many files folders) (stopped end no_font no_miss) = (sym no_font, sym no_miss)

pub one_search : OneSearch
one_search listing_of old new old' new' n folders fonts missed fonts' missed' one other =
    same_search listing_of old new n folders fonts missed fonts' missed' one (search_of listing_of old' new' n folders fonts' missed' other)
