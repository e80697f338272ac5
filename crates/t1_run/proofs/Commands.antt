-- A command of a program without subcommands, argument by argument, as clap's rules see it.
use Rattle.std.proofs.Common.{◌≡◌, ◌≤◌, ℕ, zero, suc, not, false, true, List, [], ◌∷◌, Option, None, Some, is_some, map, codes, inl, inr, ap, sym, subst, refl, lit≤, arith, ◌∙◌}
use Rattle.std.specs.List.{All, Any, list_all, slice_index_or}
use Rattle.std.specs.Str.{bytes_eq}
use Rattle.std.proofs.lemmas.Slice.Eq.{bytes_eq-Decides}
use Rattle.clap.specs.Built.{HasDistinctIds, IsAuto}
use Rattle.clap.proofs.CallerLemmas.{required_has_value}
use Rattle.clap.proofs.SimpleLemmas.{is_nil, is_false}
use Rattle.clap.proofs.TakesLemmas.{each_rule}
use Rattle.clap.proofs.WalkLemmas.{both, first_value-rows}
use Rattle.clap.specs.Words.{App, IsParsedFrom, IsPlainArg, IsUnsignedIn, Row, Rule, Text, app_of, args_of, first_of, first_value, found_of, groups_of, rows_of, rule_of}
use Rattle.clap.specs.Facts.{unwrap_or_range}
use Rattle.clap.specs.declared.builder.action.ArgAction.TheVariants.{Set}
use Rattle.clap.specs.declared.builder.arg.Arg.{Arg}
use Rattle.clap.specs.declared.builder.command.Command.{Command}
use Rattle.clap.specs.declared.builder.command.Command.TheViews.{out-Command}
use Rattle.clap.specs.declared.builder.range.ValueRange.{ValueRange}
use Rattle.clap.specs.declared.builder.value_parser.ValueParser.TheVariants as parser
use Rattle.clap.specs.declared.parser.matches.ArgMatches.{ArgMatches}
use Rattle.t1_run.specs.Words.{IsNumberArgument, IsParsedBy, IsPlainApp, IsRequiredArgument, IsTextOfNumber, are_distinct, is_own}
use Rattle.t1_run.proofs.Values.{first_value-passes}

-- What a program's rules say of its command: the arguments exclude nothing, and each has an id of its own.
pub record IsOurs (app : App) (c : Command) : Type 0 where
  pub rules : map rule_of (args_of c) ≡ app.top.rules
  pub own : list_all is_own (map rule_of (args_of c)) ≡ true
  pub distinct : are_distinct (map rule_of (args_of c)) ≡ true
  pub groups : groups_of c ≡ []
  pub globals : (out-Command c).has_globals ≡ false
  pub negates : (out-Command c).subcommand_negates_reqs ≡ false

-- a command with the program's rules is as they say
pub ours : (app : App) → IsPlainApp app → (c : Command) → app_of c ≡ app → IsOurs app c
ours app mine c e =
    let rules : map rule_of (args_of c) ≡ app.top.rules = ap (λ (a : App). a.top.rules) e in
    let fields = both _ _ (ap (λ (a : App). a.top.is_plain) e ∙ mine.plain) in
    record {
      rules = rules;
      own = ap (list_all is_own) rules ∙ mine.own;
      distinct = ap are_distinct rules ∙ mine.distinct;
      groups = is_nil (groups_of c) fields.0;
      globals = is_false (out-Command c).has_globals (both _ _ (both _ _ fields.1).1).0;
      negates = ap (λ (a : App). a.top.subcommand_negates_reqs) e ∙ mine.negates;
    }

-- texts that the test distinguishes are not equal
differ : (x y : Text) → not (bytes_eq x y) ≡ true → x ≡ y → ⊥
differ x y e same =
    let equal : bytes_eq x y ≡ true = (bytes_eq-Decides x y).1 same in
    let unequal : bytes_eq x y ≡ false = is_false _ e in
    cc

-- An argument that excludes nothing, and whose id is neither empty nor that of an argument of clap's own.
record IsOwn (a : Arg) : Type 0 where
  pub plain : IsPlainArg a
  pub named : a.id.now ≡ [] → ⊥
  pub not_auto : IsAuto a → ⊥
  pub undelimited : a.val_delim ≡ None

-- what isn't something is nothing
is_none : {X : Type 0} (o : Option X) → not (is_some o) ≡ true → o ≡ None
is_none None e = refl
is_none (Some x) e = cc

-- an argument whose rule passes the test is one
own_arg : (a : Arg) → is_own (rule_of a) ≡ true → IsOwn a
own_arg a e =
    let simple = both _ _ e in
    let free = both _ _ simple.1 in
    let named = both _ _ free.1 in
    let auto = both _ _ named.1 in
    let groups = both _ _ (both _ _ simple.0).1 in
    let alone = both _ _ free.0 in
    record {
      plain = (
        is_false a.exclusive alone.0,
        is_nil a.conflicts.items (both _ _ alone.1).0,
        is_nil a.overrides.items (both _ _ simple.0).0,
        is_nil
            a.groups.items (both _ _ groups.1).0,
      );
      named = differ a.id.now [] named.0;
      undelimited = is_none a.val_delim (both _ _ (both _ _ groups.1).1).0;
      not_auto = λ is. elim is [ inl help ↦ differ a.id.now (codes "help") auto.0 help | inr version ↦ differ a.id.now (codes "version") auto.1 version ];
    }

-- so is each argument of a command with the program's rules
own_args : (app : App) (c : Command) → IsOurs app c → All IsOwn (args_of c)
own_args app c our k d lt = own_arg (slice_index_or (args_of c) k d) (each_rule is_own (args_of c) our.own k d lt)

-- no two arguments have one id, where no two rules do
distinct_ids : (args : List Arg) → are_distinct (map rule_of args) ≡ true → HasDistinctIds args
distinct_ids [] e j k d f below lt same = absurd (omega arith)
distinct_ids (x ∷ xs) e zero zero d f below lt same = refl
distinct_ids (x ∷ xs) e zero (suc k) d f below lt same =
    let here : not (bytes_eq (slice_index_or xs k d).id.now x.id.now) ≡ true = each_rule (λ s. not (bytes_eq s.id x.id.now)) xs
    (both _ _ e).0 k d (omega arith) in
    absurd (differ (slice_index_or xs k d).id.now x.id.now here (sym ((bytes_eq-Decides x.id.now (slice_index_or xs k d).id.now).0 same)))
distinct_ids (x ∷ xs) e (suc j) zero d f below lt same =
    let here : not (bytes_eq (slice_index_or xs j f).id.now x.id.now) ≡ true = each_rule (λ s. not (bytes_eq s.id x.id.now)) xs
    (both _ _ e).0 j f (omega arith) in
    absurd (differ (slice_index_or xs j f).id.now x.id.now here ((bytes_eq-Decides (slice_index_or xs j f).id.now x.id.now).0 same))
distinct_ids (x ∷ xs) e (suc j) (suc k) d f below lt same = ap (λ (n : ℕ). suc n) (distinct_ids xs (both _ _ e).1 j k d f (omega arith) (omega arith) same)

-- what holds of some image holds of the image of some element
any_of_map : {X Y : Type 0} (P : Y → Type 0) (f : X → Y) (xs : List X) → Any P (map f xs) → Any (λ x. P (f x)) xs
any_of_map P f [] (k, y, lt, at, holds) = absurd (omega arith)
any_of_map P f (x ∷ xs) (zero, y, lt, at, holds) = (0, x, omega arith, refl, subst P (sym at) holds)
any_of_map P f (x ∷ xs) (suc k, y, lt, at, holds) =
    let rest = any_of_map P f xs (k, y, omega arith, at, holds) in
    (suc rest.0, rest.1, omega (arith, rest.2), rest.3, rest.4)

-- what the rule of a number's argument says
abbrev IsNumberRule : ℕ → ℕ → Text → Rule → Type 0
IsNumberRule low high id r = (r.id ≡ id) × (r.parser ≡ Some (parser.Unsigned low high))

-- the value that a parse has for a number's argument is a number between two others
number_at : (app : App) (c : Command) → IsOurs app c → (m : ArgMatches) → IsParsedFrom c m → (low high : ℕ) (id text : Text)
    → Any (λ a. IsNumberRule low high id (rule_of a)) (args_of c)
    → first_value (found_of m) id ≡ Some text → IsUnsignedIn low high text
number_at app c our m p low high id text (k, a, lt, at, (is_id, is_parser)) first =
    let own = own_args app c our k a lt in
    let id_here : (slice_index_or (args_of c) k a).id.now ≡ id = ap (λ (b : Arg). b.id.now) at ∙ is_id in
    let parser_here : (slice_index_or (args_of c) k a).value_parser ≡ Some (parser.Unsigned low high) = ap (λ (b : Arg). b.value_parser) at ∙ is_parser in
    first_value-passes c m p ((λ j d below. (own_args app c our j d below).plain), our.groups) our.globals k a lt
    (λ j e below same. distinct_ids (args_of c) our.distinct j k a e below lt same) own.named own.not_auto (parser.Unsigned low high) parser_here text
    (subst (λ (t : List ℕ). first_value (found_of m) t ≡ Some text) (sym id_here) first)

-- In what a parse by the program's rules finds, the first value of a number's argument is the text of a number.
pub is_number : {app : App} {c : Command} → IsOurs app c → (m : ArgMatches) → IsParsedFrom c m → (low high : ℕ) (id : Text)
    → IsNumberArgument app low high id
    → IsTextOfNumber low high (first_value (found_of m) id)
is_number {app} {c} our m p low high id number =
    let argument = any_of_map (IsNumberRule low high id) rule_of (args_of c) (subst (Any (IsNumberRule low high id)) (sym our.rules) number) in
    go (first_value (found_of m) id) (λ text. number_at app c our m p low high id text argument)
  where
    go : (value : Option (List ℕ)) → ((text : List ℕ) → value ≡ Some text → IsUnsignedIn low high text) → IsTextOfNumber low high value
    go None each = tt
    go (Some text) each = each text refl

-- what the rule of an argument says that has to be there with a value
abbrev IsRequiredRule : Text → Rule → Type 0
IsRequiredRule id r = (r.id ≡ id) × (r.required ≡ true) × (r.action ≡ Some Set) × (r.range ≡ None)

-- a parse has a value for such an argument
required_at : (app : App) (c : Command) → IsOurs app c → (m : ArgMatches) → IsParsedFrom c m → (id : Text)
    → Any (λ a. IsRequiredRule id (rule_of a)) (args_of c) → is_some (first_value (found_of m) id) ≡ true
required_at app c our m p id (k, a, lt, at, is) =
    let own = own_args app c our k a lt in
    let here : IsRequiredRule id (rule_of (slice_index_or (args_of c) k a)) = subst (λ (b : Arg). IsRequiredRule id (rule_of b)) (sym at) is in
    let least = subst (λ (r : Option ValueRange). 1 ≤ (unwrap_or_range r).start_inclusive) (sym here.3) (lit≤ tt) in
    subst (λ (t : Text). is_some (first_value (found_of m) t) ≡ true) here.0
    (required_has_value c m p ((λ j d below. (own_args app c our j d below).plain), our.groups) our.globals our.negates k a lt here.1 here.2
    own.undelimited least (λ j e below same. distinct_ids (args_of c) our.distinct j k a e below lt same) own.named own.not_auto)

-- In what a parse by the program's rules finds, an argument that has to be there has a value.
pub has_value : {app : App} {c : Command} → IsOurs app c → (m : ArgMatches) → IsParsedFrom c m → (id : Text) → IsRequiredArgument app id
    → is_some (first_value (found_of m) id) ≡ true
has_value {app} {c} our m p id required =
    required_at app c our m p id
    (any_of_map (IsRequiredRule id) rule_of (args_of c) (subst (Any (IsRequiredRule id)) (sym our.rules) required))

-- What a command of a program finds in words is what the program's rules find.
pub by_rules : (program : App) {app : App} {words : List Text} {m : ArgMatches} → app ≡ program → IsParsedBy app words m → IsParsedBy program words m
by_rules program {app} {words} {m} same parsed = subst (λ (a : App). IsParsedBy a words m) same parsed

-- The first value of an id is that of the rows that the words yield.
pub first_of-found : (m : ArgMatches) (id : List ℕ) (rows : List Row) (value : Option (List ℕ)) → rows_of (found_of m) ≡ rows
    → value ≡ first_value (found_of m) id → value ≡ first_of id rows
first_of-found m id rows value same found = found ∙ first_value-rows (found_of m) id ∙ ap (first_of id) same
