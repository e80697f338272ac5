-- The parse of a command without subcommands fails in one way at most, whatever the words.
use Rattle.std.proofs.Common.{◌≡◌, ℕ, ◌≤◌, zero, suc, Bool, true, false, List, [], ◌∷◌, Option, None, Some, length, if◌then◌else◌, lit≤, refl, subst, sym, ap, inl, inr, arith}
use Rattle.std.specs.Option.{option_map_or}
use Rattle.clap.specs.Faults.{action_fault, built_fault, bundle_step_fault, count_fault, default_fault, defaults_fault, fault_of, flag_word_fault, flags_fault, level_fault, long_fault, option_fault, other_fault, positional_fault, react_fault, set_fault, settle_fault, short_fault, step_fault, stray_fault, turn_fault, use_fault, walk_fault, word_fault}
use Rattle.clap.specs.Kinds.{IsAmong, Kinds, check_kinds, or_else, range_kinds, request_kinds, value_kinds, values_kinds}
use Rattle.clap.specs.Simple.{App, Shape, argument_words, built}
use Rattle.clap.specs.Walk.{Held, Row, Rule, Step, Text, Waiting, Walk, idle, nothing_held, subcommand_met, value, walk}
use Rattle.clap.specs.declared.builder.action.ArgAction.{ArgAction}
use Rattle.clap.specs.declared.builder.action.ArgAction.TheVariants.{Set, Append, SetTrue, SetFalse, Count, Help, HelpShort, HelpLong, Version}
use Rattle.clap.specs.declared.builder.value_parser.ValueParser.{ValueParser}
use Rattle.clap.specs.declared.error.kind.ErrorKind.{ErrorKind}
use Rattle.t1_run.specs.Words.{IsPlainApp}

pub record IsSingle (kinds : Kinds) : Type 0 where
  pub few : length kinds ≤ 1

none : IsSingle []
none = record { few = lit≤ tt }

one : (k : ErrorKind) → IsSingle (k ∷ [])
one k = record { few = lit≤ tt }

either : (a b : Kinds) → IsSingle a → IsSingle b → IsSingle (or_else a b)
either [] b p q = q
either (k ∷ ks) b p q = p

branch : (b : Bool) (x y : Kinds) → IsSingle x → IsSingle y → IsSingle (if b then x else y)
branch true x y p q = p
branch false x y p q = q

at_some : {X : Type 0} (f : X → Kinds) (o : Option X) (d : Kinds) → ((x : X) → IsSingle (f x)) → IsSingle d → IsSingle (option_map_or f o d)
at_some f None d p q = q
at_some f (Some x) d p q = p x

-- ---- one use of an argument

of_value : (c : Bool) (p : ValueParser) (text : Text) → IsSingle (value_kinds c p text)
of_value c p text = search (branch, none, one)

of_values : (c : Bool) (p : ValueParser) (texts : List Text) → IsSingle (values_kinds c p texts)
of_values c p [] = none
of_values c p (v ∷ vs) = either _ _ (of_value c p v) (of_values c p vs)

of_range : (least most n : ℕ) → IsSingle (range_kinds least most n)
of_range least most n = search (branch, none, one)

of_request : (a : ArgAction) → IsSingle (request_kinds a)
of_request Help = one _
of_request HelpShort = one _
of_request HelpLong = one _
of_request Version = one _
of_request Set = none
of_request Append = none
of_request SetTrue = none
of_request SetFalse = none
of_request Count = none

of_count : (a : Rule) (values : List Text) (rows : List Row) → IsSingle (count_fault a values rows)
of_count a [] rows = search of_value
of_count a (v ∷ vs) rows = search of_values

of_set : (again : Bool) (a : Rule) (values : List Text) (rows : List Row) → IsSingle (set_fault again a values rows)
of_set again a values rows = search (branch, either, none, one, of_values)

of_action : (action : ArgAction) (again : Bool) (a : Rule) (values : List Text) (rows : List Row) → IsSingle (action_fault action again a values rows)
of_action Set again a values rows = of_set again a values rows
of_action SetTrue again a values rows = of_set again a values rows
of_action SetFalse again a values rows = of_set again a values rows
of_action Append again a values rows = search of_values
of_action Count again a values rows = of_count a values rows
of_action Help again a values rows = search one
of_action HelpShort again a values rows = search one
of_action HelpLong again a values rows = search one
of_action Version again a values rows = search one

of_use : (again : Bool) (a : Rule) (values : List Text) (rows : List Row) → IsSingle (use_fault again a values rows)
of_use again a values rows = search (either, of_range, of_action)

-- ---- the walk over the words

of_settle : (c : List Rule) (again : Bool) (h : Held) → IsSingle (settle_fault c again h)
of_settle c again h = search (at_some, none, of_use)

of_react : (c : List Rule) (again : Bool) (a : Rule) (values : List Text) (h : Held) → IsSingle (react_fault c again a values h)
of_react c again a values h = search (either, of_settle, of_use)

of_option : (c : List Rule) (again : Bool) (a : Rule) (v : Option Text) (h : Held) → IsSingle (option_fault c again a v h)
of_option c again a (Some v) h = of_react c again a (v ∷ []) h
of_option c again a None h = of_settle c again h

of_long : (c : List Rule) (again : Bool) (a : Option Rule) (v : Option Text) (h : Held) → IsSingle (long_fault c again a v h)
of_long c again None v h = search one
of_long c again (Some a) v h = search (branch, one, of_option, of_react)

of_short : (c : List Rule) (again : Bool) (a : Option Rule) (rest : Text) (h : Held) (next : Held → Kinds) → ((h : Held) → IsSingle (next h))
    → IsSingle (short_fault c again a rest h next)
of_short c again None rest h next p = search one
of_short c again (Some a) rest h next p = search (branch, either, of_option, of_react, p)

of_bundle_step : (c : List Rule) (again : Bool) (x : Option ℕ) (flags : Text) (skip : ℕ) (h : Held) (next : Text → ℕ → Held → Kinds)
    → ((t : Text) (k : ℕ) (h : Held) → IsSingle (next t k h)) → IsSingle (bundle_step_fault c again x flags skip h next)
of_bundle_step c again None flags skip h next p = none
of_bundle_step c again (Some x) flags zero h next p = search (of_short, p)
of_bundle_step c again (Some x) flags (suc skip) h next p = p _ skip h

of_flags : (c : List Rule) (again : Bool) (k : ℕ) (flags : Text) (skip : ℕ) (h : Held) → IsSingle (flags_fault c again k flags skip h)
unfolding flags_fault
of_flags c again zero flags skip h = none
of_flags c again (suc k) flags skip h = of_bundle_step c again _ flags skip h (flags_fault c again k) (of_flags c again k)

of_flag_word : (c : List Rule) (again : Bool) (long : Option (Text × Option Text)) (word : Text) (h : Held) → IsSingle (flag_word_fault c again long word h)
of_flag_word c again (Some p) word h = search of_long
of_flag_word c again None word h = search (at_some, none, of_flags)

of_waiting : (s : Shape) (waiting : Waiting) (word : Text) (h : Held) → IsSingle (other_fault s (subcommand_met [] waiting word) word h)
of_waiting s waiting word h = no_name (subcommand_met [] waiting word) (no_subcommand waiting)
  where
    no_subcommand : (w : Waiting) → subcommand_met [] w word ≡ None
    no_subcommand idle = refl
    no_subcommand _ = refl

    no_name : (o : Option Text) → o ≡ None → IsSingle (other_fault s o word h)
    no_name None e = search (branch, none, of_flag_word)
    no_name (Some name) e = cc

of_word : (s : Shape) (is_trailing : Bool) (waiting : Waiting) (word : Text) (h : Held) → IsSingle (word_fault s [] is_trailing waiting word h)
of_word s is_trailing waiting word h = search (branch, none, of_waiting)

of_stray : (s : Shape) → s.is_leaf ≡ true → IsSingle (stray_fault s)
of_stray s leaf = rw leaf (one _)

of_positional : (c : List Rule) (again : Bool) (a : Rule) (h : Held) → IsSingle (positional_fault c again a h)
of_positional c again a h = search (branch, none, of_settle)

of_step : (s : Shape) (position : ℕ) (h : Held) (step : Step) → s.is_leaf ≡ true → IsSingle (step_fault s position h step)
of_step s position h value leaf = let stray = of_stray s leaf in search (at_some, of_positional, stray)
of_step s position h _ leaf = none

of_turn : (s : Shape) (w : Walk) (word : Text) → s.is_leaf ≡ true → IsSingle (turn_fault s [] w word)
of_turn s w word leaf = search (branch, either, none, of_word, of_step, leaf)

of_walk : (s : Shape) → s.is_leaf ≡ true → (words : List Text) (w : Walk) → IsSingle (walk_fault s [] w words)
unfolding walk_fault
of_walk s leaf [] w = none
of_walk s leaf (word ∷ rest) w = either _ _ (of_turn s w word leaf) (of_walk s leaf rest _)

-- ---- after the walk

of_default : (rows : List Row) (a : Rule) → IsSingle (default_fault rows a)
of_default rows a = search (branch, either, none, of_request, of_values)

of_defaults : (rules : List Rule) (rows : List Row) → IsSingle (defaults_fault rows rules)
unfolding defaults_fault
of_defaults [] rows = none
of_defaults (a ∷ rest) rows = either _ _ (of_default rows a) (of_defaults rest _)

of_checks : (help subcommand argument : Bool) → IsSingle (check_kinds help subcommand argument)
of_checks help subcommand argument = search (branch, none, one)

of_level : (s : Shape) (h : Held) (words : List Text) (has : Bool) (below : Kinds) → s.is_leaf ≡ true → IsSingle below
    → IsSingle (level_fault s [] h words has below)
of_level s h words has below leaf p =
    either _ _ (of_walk s leaf words _) (either _ _ p (either _ _ (of_settle s.rules s.args_override_self (walk s.rules [] h words).held)
    (either _ _ (of_defaults s.rules _) (of_checks _ _ _))))

-- a command without subcommands
of_command : (top : Shape) (h : Held) (words : List Text) → top.is_leaf ≡ true → IsSingle (built_fault (record { top = top; subs = [] }) h words)
of_command top h words leaf = of_level top h words _ _ leaf (at_some _ _ [] (λ p. none) none)

pub fault_of-single : (app : App) → IsPlainApp app → (words : List Text) → IsSingle (fault_of app words)
fault_of-single app mine words =
    subst (λ (subs : List Shape). IsSingle (built_fault (record { top = (built app).top; subs = subs }) nothing_held (argument_words app words)))
    (sym mine.alone) (of_command (built app).top nothing_held (argument_words app words) mine.leaf)

-- where a kind is among the faults, it is the one
pub single-among : (kinds : Kinds) (k : ErrorKind) → IsSingle kinds → IsAmong k kinds → kinds ≡ k ∷ []
single-among [] k p among = absurd among
single-among (x ∷ []) k p (inr never) = absurd never
single-among (x ∷ []) k p (inl same) = ap (λ (y : ErrorKind). y ∷ []) (sym same)
single-among (x ∷ y ∷ more) k p among = absurd (omega (arith, p.few))
