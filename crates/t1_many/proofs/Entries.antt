-- Fonts one after another.
use Rattle.std.proofs.Common.{◌≡◌, ℕ, ◌+◌, ◌<◌, List, [], ◌∷◌, ◌++◌, length, map, take, get_or, Option, None, Some, refl, sym, ap, subst, ◌∙◌, add-one}
use Rattle.std.proofs.lemmas.List.{map-append}
use Rattle.std.proofs.Math.Seq.{take-suc}
use Rattle.t1_char.specs.declared.edition.Edition.{Edition}
use Rattle.t1_many.specs.Calls.{Calls}
use Rattle.t1_many.specs.Ends.{AreChecked, AreEntries, AreTaken, Ends}
use Rattle.t1_many.specs.Ends.Ends.{all, stopped}
use Rattle.t1_many.specs.Files.{ChecksIn, files_by}
use Rattle.t1_many.specs.Outcomes.{Entry, Outcome}
use Rattle.t1_many.specs.Private.Checking.{TakesOne}
use Rattle.t1_many.specs.Recipients.{recipient_by}
use Rattle.t1_many.specs.declared.font_files.WaiverFiles.{WaiverFiles}
use Rattle.t1_many.specs.declared.policy.Lost.{Lost}

-- the names up to one, and that one
pub names_next : {A : Type 0} (f : A → List ℕ) (xs : List A) (i : ℕ) (x : A) → i < length xs → x ≡ get_or xs i x
    → map f (take (i + 1) xs) ≡ map f (take i xs) ++ f x ∷ []
names_next f xs i x less is =
    ap (map f) (ap (λ n. take n xs) (add-one i) ∙ take-suc xs i x less ∙ ap (λ y. take i xs ++ y ∷ []) (sym is))
    ∙ map-append f (take i xs) (x ∷ [])

module _ {R : Type 0} (takes : R → R → Entry → Option Lost → Type 0) where
  taken-push : (a b c : R) (entries : List Entry) (entry : Entry) → AreTaken takes a b entries → takes b c entry None
      → AreTaken takes a c (entries ++ entry ∷ [])
  taken-push a b c [] entry same took = (c, subst (λ s. takes s c entry None) same took, refl)
  taken-push a b c (first ∷ entries) entry (next, took_one, rest) took = (next, took_one, taken-push next b c entries entry rest took)

  module _ {F : Type 0} (calls : Calls F) (beside : WaiverFiles) (edition : Edition) where
    checked-push : (a b c : F) (entries : List Entry) (name : List ℕ) (outcome : Outcome) → AreChecked (files_by calls beside a b) edition entries
        → ChecksIn (files_by calls beside b c) edition name outcome
        → AreChecked (files_by calls beside a c) edition (entries ++ record { name = name; outcome = outcome } ∷ [])
    checked-push a b c [] name outcome same is = (c, subst (λ (s : F). ChecksIn (files_by calls beside s c) edition name outcome) same is, refl)
    checked-push a b c (first ∷ entries) name outcome (next, one, rest) is = (next, one, checked-push next b c entries name outcome rest is)

    -- The fonts of these names so far, by the files at first and now.
    pub record HaveGone (names : List (List ℕ)) (files files' : F) (old new : R) : Type 0 where
      pub entries : List Entry
      pub are : AreEntries (files_by calls beside files files') edition names entries
      pub taken : AreTaken takes old new entries

    pub none_gone : (files : F) (recipient : R) → HaveGone [] files files recipient recipient
    none_gone files recipient = record { entries = []; are = record { names_are = refl; checked = refl }; taken = refl }

    and_one : (names : List (List ℕ)) (files between files' : F) (entries : List Entry) (name : List ℕ) (outcome : Outcome)
        → AreEntries (files_by calls beside files between) edition names entries
        → ChecksIn (files_by calls beside between files') edition name outcome
        → AreEntries (files_by calls beside files files') edition (names ++ name ∷ []) (entries ++ record { name = name; outcome = outcome } ∷ [])
    and_one names files between files' entries name outcome are is = record {
      names_are = map-append (λ (e : Entry). e.name) entries (record { name = name; outcome = outcome } ∷ [])
          ∙ ap (λ ns. ns ++ name ∷ []) are.names_are;
      checked = checked-push files between files' entries name outcome are.checked is;
    }

    module _ (names : List (List ℕ)) (name : List ℕ) (files between files' : F) (a b c : R) (gone : HaveGone names files between a b) where
      pub one_gone : TakesOne (recipient_by takes b c) (files_by calls beside between files') edition name None
          → HaveGone (names ++ name ∷ []) files files' a c
      one_gone (outcome, is, took) = record {
        entries = gone.entries ++ record { name = name; outcome = outcome } ∷ [];
        are = and_one names files between files' gone.entries name outcome gone.are is;
        taken = taken-push a b c gone.entries _ gone.taken took;
      }

      -- a font at which it stopped
      pub one_lost : (lost : Lost) (all_names : List (List ℕ)) (count : ℕ) → take count all_names ≡ names ++ name ∷ []
          → TakesOne (recipient_by takes b c) (files_by calls beside between files') edition name (Some lost)
          → (end : Option Lost) → end ≡ Some lost → Ends (recipient_by takes a c) (files_by calls beside files files') edition all_names end
      one_lost lost all_names count front (outcome, is, took) end end_is =
          stopped count gone.entries (record { name = name; outcome = outcome })
          (subst (λ ns. AreEntries (files_by calls beside files files') edition ns (gone.entries ++ record { name = name; outcome = outcome } ∷ []))
          (sym front) (and_one names files between files' gone.entries name outcome gone.are is)) b gone.taken lost took end_is

    pub all_gone : (names : List (List ℕ)) (files files' : F) (a b : R) → HaveGone names files files' a b
        → Ends (recipient_by takes a b) (files_by calls beside files files') edition names None
    all_gone names files files' a b gone = all gone.entries gone.are gone.taken refl
