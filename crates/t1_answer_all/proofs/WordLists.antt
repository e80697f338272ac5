-- The words of lists, one after another.
use Rattle.std.proofs.Common.{◌≡◌, ◌+◌, ◌-◌, ◌^◌, ◌<◌, ℕ, List, [], ◌∷◌, ◌++◌, Global, String, Vec, Ok, arith, ap, append-nil, drop, get_or, length, map, min, string_bytes, subst, sym, take, ◌∙◌}
use Rattle.std.proofs.lemmas.Grind.{flat_map-append}
use Rattle.std.proofs.lemmas.List.{append_assoc, map-append, take-append-drop}
use Rattle.std.proofs.lemmas.List.Sums.{sum_by_push}
use Rattle.std.specs.List.{flat_map, sum_by}
use Rattle.t1_answer_all.proofs.Told.{told_weaker}
use Rattle.t1_answer_all.specs.Usage.{IsToldSo}
use Rattle.t1_answer_all.specs.Private.Words.{AddsList, AreWordsOf, IsNoText}
use Rattle.t1_answer_all.specs.Words.{AreRead, CannotReadOne, given_words, undecoded_in}
use Rattle.t1_answer_all.specs.Words.AreRead.{one_more}
use Rattle.t1_names.specs.declared.lists.Words.{Words}
use Rattle.t1_names.proofs.NamedLemmas.{names_next}
use Rattle.t1_names.specs.Lists.{unreadable_in, words_in}
use Rattle.t1_names.specs.Questions.{Questions}
use Rattle.t1_options.specs.Settings.Finding.{system_by}
use Rattle.t1_run.specs.declared.usage.UsageError.{UsageError}

module _ {F : Type 0} (asks : Questions F) (old between new : F) where
  -- one list more
  read_more : (paths lists : List (List ℕ)) (list text : List ℕ) (words words' : Words) → AreWordsOf (system_by asks old between) paths lists words
      → asks.ReadsList between new list (Ok text) → AddsList text words words' → AreWordsOf (system_by asks old new) paths (lists ++ list ∷ []) words'
  read_more paths lists list text words words' are reads adds =
      let all : flat_map words_in (are.texts ++ text ∷ []) ≡ flat_map words_in are.texts ++ words_in text =
      flat_map-append words_in are.texts (text ∷ []) ∙ ap (λ ws. flat_map words_in are.texts ++ ws) (append-nil (words_in text)) in
      let count : sum_by unreadable_in (are.texts ++ text ∷ []) ≡ sum_by unreadable_in are.texts + unreadable_in text =
      sum_by_push unreadable_in are.texts text in
      record {
        texts = are.texts ++ text ∷ [];
        read = one_more old between new lists are.texts list text are.read reads;
        words_are =
            adds.words_are ∙ ap (λ ws. ws ++ words_in text) are.words_are
            ∙ append_assoc (given_words paths) (flat_map words_in are.texts) (words_in text)
            ∙ ap (λ ws. given_words paths ++ ws) (sym all);
        undecoded_is =
            adds.undecoded_is ∙ ap (λ n. min (n + unreadable_in text) (2 ^ 64 - 1)) are.undecoded_is
            ∙ saturated (undecoded_in paths) (sum_by unreadable_in are.texts) (unreadable_in text)
            ∙ ap (λ n. min (undecoded_in paths + n) (2 ^ 64 - 1)) (sym count);
      }
    where
      saturated : (a b c : ℕ) → min (min (a + b) (2 ^ 64 - 1) + c) (2 ^ 64 - 1) ≡ min (a + (b + c)) (2 ^ 64 - 1)
      saturated a b c = omega arith

  -- the list that comes next is read, and its words are added
  pub list_added : (paths : List (List ℕ)) (lists : List (String Global)) (i : ℕ) (list : String Global) → i < length lists
      → list ≡ get_or lists i list → (name : List ℕ) → name ≡ string_bytes list → (bytes : Vec ℕ Global) (text : List ℕ) → text ≡ bytes.items
      → (words words' : Words) → AreWordsOf (system_by asks old between) paths (map string_bytes (take i lists)) words
      → asks.ReadsList between new name (Ok bytes.items) → AddsList text words words'
      → AreWordsOf (system_by asks old new) paths (map string_bytes (take (i + 1) lists)) words'
  list_added paths lists i list less is name name_is bytes text text_is words words' are reads adds =
      subst (λ (ls : List (List ℕ)). AreWordsOf (system_by asks old new) paths ls words') (sym (names_next string_bytes lists i list less is))
      (read_more paths (map string_bytes (take i lists)) (string_bytes list) text words words' are
      (subst (λ (n : List ℕ). asks.ReadsList between new n (Ok text)) name_is
      (subst (λ (t : List ℕ). asks.ReadsList between new name (Ok t)) (sym text_is) reads)) adds)

  -- it can't be read
  split_at : (lists : List (String Global)) (i : ℕ) (list : String Global) → i < length lists → list ≡ get_or lists i list
      → map string_bytes lists ≡ map string_bytes (take i lists) ++ string_bytes list ∷ map string_bytes (drop (i + 1) lists)
  split_at lists i list less is =
      ap (map string_bytes) (sym (take-append-drop (i + 1) lists)) ∙ map-append string_bytes (take (i + 1) lists) (drop (i + 1) lists)
      ∙ ap (λ ws. ws ++ map string_bytes (drop (i + 1) lists)) (names_next string_bytes lists i list less is)
      ∙ append_assoc (map string_bytes (take i lists)) (string_bytes list ∷ []) (map string_bytes (drop (i + 1) lists))

  pub list_unread : (lists : List (String Global)) (i : ℕ) (list : String Global) → i < length lists → list ≡ get_or lists i list
      → (name : List ℕ) → name ≡ string_bytes list → (texts : List (List ℕ))
      → AreRead asks.ReadsList old between (map string_bytes (take i lists)) texts → (error : UsageError)
      → IsToldSo (IsNoText (system_by asks between new) name) error
      → IsToldSo (CannotReadOne (system_by asks old new) (map string_bytes lists)) error
  list_unread lists i list less is name name_is texts read error told =
      told_weaker (IsNoText (system_by asks between new) name) (CannotReadOne (system_by asks old new) (map string_bytes lists)) error
      (λ text none. record {
        before = map string_bytes (take i lists);
        list = name;
        after = map string_bytes (drop (i + 1) lists);
        split = split_at lists i list less is ∙ ap (λ n. map string_bytes (take i lists) ++ n ∷ map string_bytes (drop (i + 1) lists)) (sym name_is);
        texts = texts;
        between = between;
        read = read;
        cause = none.0;
        unread = none.1;
        told_is = none.2;
      }) told
