-- A value that a parse has for an argument passed that argument's parser.
use Rattle.std.proofs.Common.{◌≡◌, ℕ, ◌<◌, Bool, true, false, List, [], ◌∷◌, Option, None, Some, length, option_map, subst, sym, ap, ◌∙◌, refl, inl, inr, arith}
use Rattle.std.specs.Prelude.{slice_get, option_and_then}
use Rattle.std.specs.Borrow.{Bor}
use Rattle.std.specs.List.{All, slice_index_or}
use Rattle.std.specs.Str.{bytes_eq}
use Rattle.std.proofs.lemmas.Slice.Eq.{bytes_eq-Decides}
use Rattle.std.proofs.lemmas.List.Elements.{All-get_or}
use Rattle.clap.proofs.CallerLemmas.{entry_by_id, same_rules_by_id}
use Rattle.clap.specs.Built.{IsAuto, SameRules}
use Rattle.clap.specs.Facts.{Entry, EntryPasses, PassesArg, ValuesPass, parser_of_value}
use Rattle.clap.specs.Words.{Accepts, IsParsedFrom, IsPlain, args_of, first_value, found_of, groups_of, matched_of, parser_of}
use Rattle.clap.specs.declared.builder.arg.Arg.{Arg}
use Rattle.clap.specs.declared.builder.command.Command.{Command}
use Rattle.clap.specs.declared.builder.command.Command.TheViews.{out-Command}
use Rattle.clap.specs.declared.builder.value_parser.ValueParser.{ValueParser}
use Rattle.clap.specs.declared.parser.matches.ArgMatches.{ArgMatches}
use Rattle.clap.specs.declared.parser.matches.Found.{Found}
use Rattle.clap.specs.declared.parser.matches.MatchedArg.{MatchedArg}

-- the first of the texts that all pass
first_passes : (P : List ℕ → Type 0) (texts : List (Bor (List ℕ))) (text : List ℕ) → All (λ v. P v.now) texts
    → option_map (λ s. s.now) (slice_get texts 0) ≡ Some text → P text
first_passes P [] text all first = cc
first_passes P (v ∷ vs) text all first =
    let same : v.now ≡ text = cc in
    subst P same (All-get_or (λ (v : Bor (List ℕ)). P v.now) (v ∷ vs) 0 v (omega arith) all)

-- an argument with the same parser
accepted : (a x : Arg) (parser : ValueParser) (text : List ℕ) → SameRules a x → a.value_parser ≡ Some parser → Accepts x.ignore_case (parser_of x) text
    → Accepts a.ignore_case parser text
accepted a x parser text same is_parser passed =
    let by_parser : Accepts x.ignore_case parser text = subst (λ (q : ValueParser). Accepts x.ignore_case q text)
    (ap parser_of_value (same.parser parser is_parser)) passed in
    subst (λ (b : Bool). Accepts b parser text) same.ignore_case by_parser

-- what passed the argument with this id passed the caller's
passed_by : (old : Command) (m : ArgMatches) (p : IsParsedFrom old m) (k : ℕ) (d : Arg) → k < length (args_of old)
    → ((j : ℕ) (e : Arg) → j < length (args_of old)
    → bytes_eq (slice_index_or (args_of old) j e).id.now (slice_index_or (args_of old) k d).id.now ≡ true → j ≡ k)
    → (IsAuto (slice_index_or (args_of old) k d) → ⊥)
    → (parser : ValueParser) → (slice_index_or (args_of old) k d).value_parser ≡ Some parser
    → (text id : List ℕ) → id ≡ (slice_index_or (args_of old) k d).id.now → PassesArg p.built id text
    → Accepts (slice_index_or (args_of old) k d).ignore_case parser text
passed_by old m p k d lt unique own parser is_parser text id key (j, x, high, at, (same, passed)) =
    let rules = same_rules_by_id old m p k d lt unique own j x high at (subst (λ (t : List ℕ). bytes_eq x.id.now t ≡ true) key same) in
    accepted (slice_index_or (args_of old) k d) x parser text rules is_parser passed

abbrev first_text : MatchedArg → Option (List ℕ)
first_text a = option_map (λ s. s.now) (slice_get a.vals.items 0)

some_entry : (o : Option MatchedArg) (text : List ℕ) → option_and_then first_text o ≡ Some text → (x : MatchedArg) × (o ≡ Some x) × (first_text x ≡ Some text)
some_entry None text e = cc
some_entry (Some x) text e = (x, refl, e)

-- the first value of an entry that is no group's passed an argument with its id
entry_passes : (c : Command) (id text : List ℕ) → (id ≡ [] → ⊥) → groups_of c ≡ [] → (entry : Entry) → EntryPasses c entry → entry.0.now ≡ id
    → first_text entry.1 ≡ Some text → PassesArg c id text
entry_passes c id text named groups entry passes key first = elim passes.0 [
  | inl group ↦ elim (passes.3 group) [
    | inl empty ↦ absurd (named (sym key ∙ empty))
    | inr has ↦
        let bad : 0 < 0 = rw groups at has in
        absurd (omega arith)
  ]
  | inr all ↦ subst (λ (t : List ℕ). PassesArg c t text) key (first_passes (PassesArg c entry.0.now) entry.1.vals.items text all first)
]

-- the first value of an id that is no group's passed an argument with that id
passes_at : (c : Command) (f : Found) (id text : List ℕ) → ValuesPass c f → (id ≡ [] → ⊥) → groups_of c ≡ [] → first_value f id ≡ Some text
    → PassesArg c id text
passes_at c f id text values named groups first =
    let w = some_entry (matched_of f id) text first in
    let got = entry_by_id (EntryPasses c) f.entries.items id w.0 values w.1 in
    entry_passes c id text named groups got.0 got.3 ((bytes_eq-Decides got.0.0.now id).0 got.2) (ap first_text got.1 ∙ w.2)

-- where nothing excludes anything, the first value of an argument of the caller's, which alone has its id, passed its
-- parser
pub first_value-passes : (old : Command) (m : ArgMatches) (p : IsParsedFrom old m) → IsPlain old → (out-Command old).has_globals ≡ false
    → (k : ℕ) (d : Arg) → k < length (args_of old)
    → ((j : ℕ) (e : Arg) → j < length (args_of old)
    → bytes_eq (slice_index_or (args_of old) j e).id.now (slice_index_or (args_of old) k d).id.now ≡ true → j ≡ k)
    → ((slice_index_or (args_of old) k d).id.now ≡ [] → ⊥)
    → (IsAuto (slice_index_or (args_of old) k d) → ⊥)
    → (parser : ValueParser) → (slice_index_or (args_of old) k d).value_parser ≡ Some parser
    → (text : List ℕ) → first_value (found_of m) (slice_index_or (args_of old) k d).id.now ≡ Some text
    → Accepts (slice_index_or (args_of old) k d).ignore_case parser text
first_value-passes old m p plain globals k d lt unique named own parser is_parser text first =
    let parsed = p.parsed (p.from.globals ∙ globals) in
    passed_by old m p k d lt unique own parser is_parser text (slice_index_or (args_of old) k d).id.now refl
    (passes_at p.built (found_of m) (slice_index_or (args_of old) k d).id.now text parsed.values named (p.from.plain plain).1 first)
