use Rattle.std.proofs.Common.{◌≡◌, ◌&&◌, ◌||◌, Bool, List, [], ◌∷◌, ap, ap₂, not, refl}
use Rattle.t1_options.proofs.WrongValues.{wrong, wrong_text}
use Rattle.t1_options.specs.declared.complaint.Complaint.{Complaint}
use Rattle.t1_options.specs.Given.{given_value}
use Rattle.t1_options.specs.Values.{edition_in, file_in, form_in, number_in, shard_in, url_in}
use Rattle.t1_options.proofs.checks.checks_of.Goals as goal

abbrev none : List (Bool × Complaint)
none = []

no_more : none ≡ none
no_more = refl

-- a check more
one_more : {so other : Bool} (complaint : Complaint) {checks others : List (Bool × Complaint)} → so ≡ other → checks ≡ others
    → ((so, complaint) ∷ checks) ≡ ((other, complaint) ∷ others)
one_more complaint same rest = ap₂ (λ (b : Bool) (list : List (Bool × Complaint)). (b, complaint) ∷ list) same rest

pub returns : goal.returns
returns c =
    let given = given_value c.args.given.now in
    let baseline_is = c.is_given-has_baseline.ensures in
    let shard_is = c.is_given-has_shard.ensures in
    let format_is = c.is_given-has_format.ensures in
    let docs_is = c.is_given-has_docs.ensures in
    let edition_wrong = wrong edition_in given.edition c.edition.result c.is_given-2.result c.is_none.result c.is_given-2.ensures c.edition.ensures
    c.is_none.ensures in
    let columns_wrong = wrong number_in given.columns c.number.result c.is_given-3.result c.is_none-2.result c.is_given-3.ensures c.number.ensures
    c.is_none-2.ensures in
    let baseline_wrong = wrong_text file_in given.baseline c.baseline.result c.is_given-has_baseline.result c.is_none-3.result baseline_is
    c.baseline.ensures c.is_none-3.ensures in
    let format_wrong = wrong form_in given.format c.form.result c.is_given-has_format.result c.is_none-4.result format_is c.form.ensures
    c.is_none-4.ensures in
    let docs_wrong = wrong_text url_in given.docs c.docs.result c.is_given-has_docs.result c.is_none-5.result docs_is c.docs.ensures
    c.is_none-5.ensures in
    let shard_wrong = wrong shard_in given.shard c.shard.result c.is_given-has_shard.result c.is_none-6.result shard_is c.shard.ensures
    c.is_none-6.ensures in
    let update_of_none = ap (λ b. given.update_baseline && not b) baseline_is in
    let update_of_shard = ap (λ b. given.update_baseline && b) shard_is in
    let waivers_of_part = ap₂ (λ known part. given.write_waivers && (known || part)) baseline_is shard_is in
    let docs_of_lines = ap₂ (λ docs form. docs && not form) docs_is format_is in
    let no_font = ap₂ (λ paths lists. paths && lists) c.are_none.ensures c.are_none-2.ensures in
    let input_as_both = ap₂ (λ paths lists. paths && lists) c.has_input.ensures c.has_input-2.ensures in
    one_more _ c.is_given.ensures (one_more _ edition_wrong (one_more _ columns_wrong (one_more _ baseline_wrong (one_more _ format_wrong (one_more _ docs_wrong (one_more _ update_of_none (one_more _ update_of_shard (one_more _ waivers_of_part (one_more _ (refl {a = given.force && not given.write_waivers}) (one_more _ docs_of_lines (one_more _ no_font (one_more _ c.is_input_twice.ensures (one_more _ input_as_both (one_more _ shard_wrong (one_more _ c.are_wrong.ensures (one_more _ c.are_wrong-2.ensures (one_more _ c.are_no_levels.ensures (one_more _ c.are_no_levels-2.ensures (one_more _ c.is_one_marked.ensures no_more)))))))))))))))))))
