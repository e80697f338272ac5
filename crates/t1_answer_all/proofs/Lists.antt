-- The fonts that options name, by what each step gives.
use Rattle.std.proofs.Common.{◌≡◌, ◌≢◌, ◌+◌, ◌<◌, ℕ, ◌==◌, true, false, List, [], ◌∷◌, ◌++◌, Global, String, ap, arith, get_or, length, map, string_bytes, subst, sym, take, ◌∙◌, refl}
use Rattle.std.proofs.lemmas.List.{map-append}
use Rattle.std.specs.List.{AllZip}
use Rattle.t1_answer_all.specs.Listing.{AreNamedBy, IsGlobOf}
use Rattle.t1_names.specs.Questions.{Questions}
use Rattle.t1_options.specs.Settings.Finding.{system_by}
use Rattle.t1_answer_all.specs.Private.Words.{AreWordsOf}
use Rattle.t1_answer_all.specs.Words.{AreRead, undecoded_of, words_of}
use Rattle.t1_names.specs.declared.lists.Words.{Words}
use Rattle.t1_names.proofs.NamedLemmas.{names_next, zip-push}
use Rattle.t1_names.specs.GlobValues.{glob_of}
use Rattle.t1_names.specs.Globs.{Glob}
use Rattle.t1_names.specs.Named.{AreNamed}
use Rattle.t1_names.specs.declared.globs.Glob.{Glob as GlobValue}
use Rattle.t1_options.specs.declared.asked.Options.{Options}

-- one glob more
pub glob_added : (texts : List (String Global)) (i : ℕ) (text : String Global) → i < length texts → text ≡ get_or texts i text
    → (old new : List GlobValue) (glob : GlobValue) → new ≡ old ++ glob ∷ [] → AllZip IsGlobOf (map string_bytes (take i texts)) (map glob_of old)
    → (name : List ℕ) → name ≡ string_bytes text → IsGlobOf name (glob_of glob)
    → AllZip IsGlobOf (map string_bytes (take (i + 1) texts)) (map glob_of new)
glob_added texts i text less is old new glob new_is all name name_is read =
    subst (λ (ts : List (List ℕ)). AllZip IsGlobOf ts (map glob_of new)) (sym (names_next string_bytes texts i text less is))
    (subst (λ (gs : List Glob). AllZip IsGlobOf (map string_bytes (take i texts) ++ string_bytes text ∷ []) gs)
    (sym (ap (map glob_of) new_is ∙ map-append glob_of old (glob ∷ [])))
    (zip-push IsGlobOf (map string_bytes (take i texts)) (map glob_of old) (string_bytes text) (glob_of glob) all
    (subst (λ (n : List ℕ). IsGlobOf n (glob_of glob)) name_is read)))

-- a list without a name, and one with a name
pub empty_names : (names : List (String Global)) (len : ℕ) → len ≡ length names → (len == 0) ≡ true → map string_bytes names ≡ []
empty_names [] len is empty = refl
empty_names (name ∷ names) len is empty = absurd (grind (arith, is, empty))

pub some_names : (names : List (String Global)) (len : ℕ) → len ≡ length names → (len == 0) ≡ false → map string_bytes names ≢ []
some_names [] len is some none = absurd (grind (arith, is, some))
some_names (name ∷ names) len is some none = cc

-- the whole list
pub named_by : {F : Type 0} (asks : Questions F) (old between new : F) (options : Options) (paths files excluded : List (List ℕ)) → paths ≡ map string_bytes options.paths.items
    → files ≡ map string_bytes options.files_from.items → excluded ≡ map string_bytes options.exclude.items
    → (words : Words) → AreWordsOf (system_by asks old between) paths files words
    → (globs : List GlobValue) → AllZip IsGlobOf excluded (map glob_of globs)
    → (looked : List (List ℕ)) → looked ≡ map string_bytes words.words.items → (left : List GlobValue) → left ≡ globs
    → (names unsearched : List (List ℕ)) → AreNamed asks.Leads asks.Lists between new looked (map glob_of left) names unsearched
    → AreNamedBy (system_by asks old new) options (record { names = names; unsearched = unsearched; undecoded = words.undecoded })
named_by asks old between new options paths files excluded paths_are files_are excluded_are words are globs globs_are looked looked_is left left_is names unsearched
    named = record {
      texts = are.texts;
      between = between;
      read = subst (λ (fs : List (List ℕ)). AreRead asks.ReadsList old between fs are.texts) files_are are.read;
      globs = map glob_of globs;
      globs_are = subst (λ (es : List (List ℕ)). AllZip IsGlobOf es (map glob_of globs)) excluded_are globs_are;
      named =
          subst (λ (ws : List (List ℕ)). AreNamed asks.Leads asks.Lists between new ws (map glob_of globs) names unsearched)
          (looked_is ∙ are.words_are ∙ ap (λ ps. words_of ps are.texts) paths_are)
          (subst (λ (gs : List GlobValue). AreNamed asks.Leads asks.Lists between new looked (map glob_of gs) names unsearched) left_is named);
      undecoded_is = are.undecoded_is ∙ ap (λ ps. undecoded_of ps are.texts) paths_are;
    }
