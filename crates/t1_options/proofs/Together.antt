-- Options that are taken go together: each check was passed.
use Rattle.std.proofs.Common.{◌≡◌, ◌<◌, ◌+◌, ◌&&◌, ◌||◌, ℕ, zero, suc, Bool, true, false, true≢false, not, get_or, List, [], ◌∷◌, Option, None, Some, is_some, length, option_and_then, option_map, string_bytes, ap, ap₂, arith, count_by, nat_lt, refl, sym, ◌∙◌}
use Rattle.std.proofs.lemmas.List.{length-map}
use Rattle.clap.specs.Walk.{is_empty}
use Rattle.clap.specs.Words.{Text}
use Rattle.t1_names.specs.Words.{is_input}
use Rattle.t1_options.specs.Complaints.{checks_of, first_so, has_input, is_wrong}
use Rattle.t1_options.specs.Given.{GivenValue}
use Rattle.t1_options.specs.Laws.{MeantGoTogether, are_written}
use Rattle.t1_options.specs.Options.{file_of, waivers_of}
use Rattle.t1_options.specs.Values.{form_in, shard_in, url_in}
use Rattle.t1_options.specs.declared.asked.Baseline.{Baseline}
use Rattle.t1_options.specs.declared.asked.Baseline.TheVariants.{Compared, Unnamed, Updated}
use Rattle.t1_options.specs.declared.complaint.Complaint.{Complaint}
use Rattle.t1_options.specs.declared.complaint.Complaint.TheVariants.{Jobs}

-- a check that is passed, and those after it
passed : (so : Bool) (complaint : Complaint) (checks : List (Bool × Complaint)) → first_so ((so, complaint) ∷ checks) ≡ None
    → (so ≡ false) × (first_so checks ≡ None)
passed true complaint checks none = cc
passed false complaint checks none = (refl, none)

-- no check holds where none is the first
none_at : (checks : List (Bool × Complaint)) → first_so checks ≡ None → (place : ℕ) → (get_or checks place (false, Jobs)).0 ≡ false
none_at [] none zero = refl
none_at [] none (suc place) = refl
none_at ((so, complaint) ∷ checks) none zero = (passed so complaint checks none).0
none_at ((so, complaint) ∷ checks) none (suc place) = none_at checks (passed so complaint checks none).1 place

-- two tests of which not both are so
second_false : (a b : Bool) → (a && b) ≡ false → a ≡ true → b ≡ false
second_false true b none is = none
second_false false b none is = absurd (true≢false (sym is))

first_true : (a b : Bool) → (a && b) ≡ true → a ≡ true
first_true true b both = refl
first_true false b both = both

neither : (a b : Bool) → (a || b) ≡ false → (a ≡ false) × (b ≡ false)
neither true b none = absurd (true≢false none)
neither false b none = (refl, none)

not_not : (b : Bool) → not b ≡ false → b ≡ true
not_not true is = refl
not_not false is = absurd (true≢false is)

-- what isn't there
is_none : {X : Type 0} (o : Option X) → is_some o ≡ false → o ≡ None
is_none None is = refl
is_none (Some x) is = absurd (true≢false is)

-- a meaning is that of a value
has_value : {X : Type 0} (meaning : Text → Option X) (value : Option Text) → is_some (option_and_then meaning value) ≡ true → is_some value ≡ true
has_value meaning None is = is
has_value meaning (Some text) is = refl

-- no file
unnamed : (faults : Baseline) → file_of faults ≡ None → faults ≡ Unnamed
unnamed Unnamed none = refl
unnamed (Compared file) none = cc
unnamed (Updated file) none = cc

some_mapped : {X Y : Type 0} (f : X → Y) (o : Option X) → is_some (option_map f o) ≡ is_some o
some_mapped f None = refl
some_mapped f (Some x) = refl

-- waivers are written where they are to be
to_be_written : (given : GivenValue) → are_written (waivers_of given) ≡ true → given.write_waivers ≡ true
to_be_written given is = go given.write_waivers given.force given.no_waivers is
  where
    go : (write force aside : Bool)
        → are_written (waivers_of (record given { write_waivers = write; force = force; no_waivers = aside })) ≡ true → write ≡ true
    go true force aside is = refl
    go false force true is = is
    go false force false is = is

-- of two lists, of which not both are empty
not_both : (paths lists : List Text) → (is_empty paths && is_empty lists) ≡ false → 0 < length paths + length lists
not_both [] [] none = absurd (true≢false none)
not_both [] (list ∷ lists) none = omega arith
not_both (path ∷ paths) lists none = omega arith

pub meant_go_together : MeantGoTogether
meant_go_together given options meant =
    let values = meant.values in
    let check = none_at (checks_of given) meant.faultless in
    let form : is_wrong form_in given.format ≡ false = check 4 in
    let update_shard : (given.update_baseline && is_some given.shard) ≡ false = check 7 in
    let write : (given.write_waivers && (is_some given.baseline || is_some given.shard)) ≡ false = check 8 in
    let docs_form : (is_some given.docs && not (is_some given.format)) ≡ false = check 10 in
    let fonts : (is_empty given.paths && is_empty given.files_from) ≡ false = check 11 in
    let twice : nat_lt 1 (count_by is_input given.paths) ≡ false = check 12 in
    let both : (has_input given.paths && has_input given.files_from) ≡ false = check 13 in
    record {
      updated = λ is.
          let on = first_true given.update_baseline (is_some given.baseline) (sym values.anew ∙ is) in
          let none = second_false given.update_baseline (is_some given.shard) update_shard on in
          values.shard ∙ ap (option_and_then shard_in) (is_none given.shard none);
      written = λ is.
          let on = to_be_written given (sym (ap are_written values.waivers) ∙ is) in
          let none = neither (is_some given.baseline) (is_some given.shard)
          (second_false given.write_waivers (is_some given.baseline || is_some given.shard) write on) in (
            unnamed options.known_faults (values.known_faults ∙ is_none given.baseline none.0),
            values.shard ∙ ap (option_and_then shard_in) (is_none given.shard none.1),
          );
      docs = λ is.
          let some = has_value url_in given.docs (sym (ap is_some values.docs) ∙ some_mapped string_bytes options.docs ∙ is) in
          let has_form = not_not (is_some given.format) (second_false (is_some given.docs) (not (is_some given.format)) docs_form some) in
          let is_form = not_not (is_some (option_and_then form_in given.format))
          (second_false (is_some given.format) (not (is_some (option_and_then form_in given.format))) form has_form) in
          ap is_some values.form ∙ is_form;
      fonts =
          let some = not_both given.paths given.files_from fonts in
          let paths = sym (ap length values.paths) ∙ length-map options.paths.items string_bytes in
          let lists = sym (ap length values.files_from) ∙ length-map options.files_from.items string_bytes in
          omega (arith, some, paths, lists);
      input_once = ap (λ paths. nat_lt 1 (count_by is_input paths)) values.paths ∙ twice;
      input_alone = ap₂ (λ paths lists. has_input paths && has_input lists) values.paths values.files_from ∙ both;
    }
