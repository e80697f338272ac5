-- Words make one list.
use Rattle.std.proofs.Common.{◌≡◌, ℕ, Bool, List, [], ◌∷◌, ◌++◌, arith, length, length-append, refl, sym, ap, subst, ◌∙◌}
use Rattle.std.proofs.lemmas.Bool.{true≢false}
use Rattle.t1_names.proofs.FolderLaws.{one_search, same_ends}
use Rattle.t1_names.proofs.SortedLaws.{one_order}
use Rattle.t1_names.proofs.WordLaws.{one_trim}
use Rattle.t1_names.specs.Folders.{AreInOrder, IsBelow}
use Rattle.t1_names.specs.Laws.{OneList, leads_by, lists_by}
use Rattle.t1_names.specs.Named.{EachStandsFor, Found, StandsFor, all_fonts, all_unsearched, alone, included}
use Rattle.t1_names.specs.Named.EachStandsFor.{none, one_more}
use Rattle.t1_names.specs.Named.StandsFor.{a_folder, a_font, itself}
use Rattle.t1_names.specs.Once.{each_once}
use Rattle.t1_names.specs.Words.{file_name}
use Rattle.t1_names.specs.declared.folders.Listing.{Listing}

abbrev found_with : List (List ℕ) → List (List ℕ) → Found
found_with fonts unsearched = record { fonts = fonts; unsearched = unsearched }

module _ (is_folder : List ℕ → Bool) (listing_of : List ℕ → Listing) where
  abbrev Stands : Unit {0} → Unit {0} → List ℕ → Found → Type 0
  Stands = StandsFor (leads_by is_folder) (lists_by listing_of)

  abbrev EachStands : Unit {0} → Unit {0} → List (List ℕ) → List Found → Type 0
  EachStands = EachStandsFor (leads_by is_folder) (lists_by listing_of)

  abbrev Below : Unit {0} → Unit {0} → List ℕ → Found → Type 0
  Below old new folder found = IsBelow (lists_by listing_of) old new folder found.fonts found.unsearched

  same_below : (old new old' new' : Unit {0}) (folder : List ℕ) (one other : Found) → Below old new folder one → Below old' new' folder other → one ≡ other
  same_below old new old' new' folder one other below below' =
      let same : (below.found ≡ below'.found) × (below.missed ≡ below'.missed) =
      one_search listing_of old new old' new' 0 (folder ∷ []) below.found below.missed below'.found below'.missed below.are below'.are in
      let fonts : one.fonts ≡ other.fonts =
      one_order below'.found one.fonts other.fonts (subst (λ f. AreInOrder f one.fonts) same.0 below.fonts_sorted) below'.fonts_sorted in
      let unsearched : one.unsearched ≡ other.unsearched =
      one_order below'.missed one.unsearched other.unsearched (subst (λ m. AreInOrder m one.unsearched) same.1 below.unsearched_sorted) below'.unsearched_sorted in
      ap (λ f. found_with f one.unsearched) fonts ∙ ap (found_with other.fonts) unsearched

  same_found : (old new old' new' : Unit {0}) (word : List ℕ) (one other : Found) → Stands old new word one → Stands old' new' word other → one ≡ other
  same_found old new old' new' word one other (itself ends same is) (itself ends' same' is') = is ∙ sym is'
  same_found old new old' new' word one other (itself ends same is) (a_font trimmed plain after trims leads is') = absurd (true≢false (sym ends ∙ plain))
  same_found old new old' new' word one other (itself ends same is) (a_folder trimmed plain after asked trims leads below) =
      absurd (true≢false (sym ends ∙ plain))
  same_found old new old' new' word one other (a_font trimmed plain after trims leads is) (itself ends same is') = absurd (true≢false (sym ends ∙ plain))
  same_found old new old' new' word one other (a_font trimmed plain after trims leads is) (a_font trimmed' plain' after' trims' leads' is') =
      is ∙ ap (λ t. alone (file_name t)) (one_trim is_folder old after old' after' word trimmed trimmed' trims trims') ∙ sym is'
  same_found old new old' new' word one other (a_font trimmed plain after trims leads is) (a_folder trimmed' plain' after' asked' trims' leads' below) =
      absurd (true≢false (sym leads' ∙ ap is_folder (one_trim is_folder old' after' old after word trimmed' trimmed trims' trims) ∙ leads))
  same_found old new old' new' word one other (a_folder trimmed plain after asked trims leads below) (itself ends same is') =
      absurd (true≢false (sym ends ∙ plain))
  same_found old new old' new' word one other (a_folder trimmed plain after asked trims leads below) (a_font trimmed' plain' after' trims' leads' is') =
      absurd (true≢false (sym leads ∙ ap is_folder (one_trim is_folder old after old' after' word trimmed trimmed' trims trims') ∙ leads'))
  same_found old new old' new' word one other (a_folder trimmed plain after asked trims leads below)
      (a_folder trimmed' plain' after' asked' trims' leads' below') =
      same_below asked new asked' new' trimmed' one other
      (subst (λ t. Below asked new t one) (one_trim is_folder old after old' after' word trimmed trimmed' trims trims') below) below'

  -- how what words name ends
  data Last (words : List (List ℕ)) (founds : List Found) : Type 0 where
    no_word : words ≡ [] → founds ≡ [] → Last words founds
    last :
        (before : List (List ℕ)) → (word : List ℕ) → (found_before : List Found) → (found : Found) → words ≡ before ++ word ∷ []
        → founds ≡ found_before ++ found ∷ [] → (old between new : Unit {0}) → EachStands old between before found_before
        → Stands between new word found → Last words founds

  last_of : (old new : Unit {0}) (words : List (List ℕ)) (founds : List Found) → EachStands old new words founds → Last words founds
  last_of _ _ _ _ (none files) = no_word refl refl
  last_of _ _ _ _ (one_more old between new words founds word found each stands) =
      last words word founds found refl refl old between new each stands

  no_empty_end : (words : List (List ℕ)) (word : List ℕ) → words ++ word ∷ [] ≡ [] → ⊥
  no_empty_end words word is = absurd (omega (arith, ap length is, length-append words (word ∷ [])))

  same_founds : (old new : Unit {0}) (words : List (List ℕ)) (founds founds' : List Found) → EachStands old new words founds → Last words founds'
      → founds ≡ founds'
  same_founds _ _ _ _ founds' (none files) (no_word words_are founds_are) = sym founds_are
  same_founds _ _ _ _ founds' (none files) (last before word found_before found words_are founds_are old between new each stands) =
      absurd (no_empty_end before word (sym words_are))
  same_founds _ _ _ _ founds' (one_more old between new words founds word found each stands) (no_word words_are founds_are) =
      absurd (no_empty_end words word words_are)
  same_founds _ _ _ _ founds' (one_more old between new words founds word found each stands)
      (last before word' found_before found' words_are founds_are old' between' new' each' stands') =
      let ends : (words ≡ before) × (word ≡ word') = same_ends words before word word' words_are in
      let rest : founds ≡ found_before =
      same_founds old between words founds found_before each
      (last_of old' between' words found_before (subst (λ ws. EachStands old' between' ws found_before) (sym ends.0) each')) in
      let one : found ≡ found' =
      same_found between new between' new' word found found' stands (subst (λ w. Stands between' new' w found') (sym ends.1) stands') in
      ap (λ fs. fs ++ found ∷ []) rest ∙ ap (λ f. found_before ++ f ∷ []) one ∙ sym founds_are

pub one_list : OneList
one_list is_folder listing_of old new old' new' words globs names unsearched names' unsearched' list list' =
    let founds : list.founds ≡ list'.founds =
    same_founds is_folder listing_of old new words list.founds list'.founds list.stand
    (last_of is_folder listing_of old' new' words list'.founds list'.stand) in (
      list.names_are ∙ ap (λ f. each_once (included globs (all_fonts f))) founds ∙ sym list'.names_are,
      list.unsearched_are ∙ ap (λ f. each_once (all_unsearched f)) founds ∙ sym list'.unsearched_are,
    )
