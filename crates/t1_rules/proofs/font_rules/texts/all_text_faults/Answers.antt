use Rattle.std.proofs.Common.{◌≡◌, is_some, refl, ap, ◌∙◌}
use Rattle.t1_font.specs.Rows.{clear_row, private_row}
use Rattle.t1_rules.specs.FontRules.{latest_font_rules}
use Rattle.t1_texts.specs.PrivateDictionary.{has_private}
use Rattle.t1_texts.specs.RowFaults.{faults_in, faults_view}
use Rattle.t1_words.specs.Headers.{begins_as_type1, has_high_byte}
use Rattle.t1_rules.proofs.font_rules.texts.all_text_faults.Goals as goal

pub returns : goal.returns
unfolding latest_font_rules
returns c =
    let of_clear : faults_view c.row_faults-clear.result ≡ faults_in (clear_row c.args.font.now) = c.row_faults-clear.ensures ∙ ap faults_in c.clear.ensures.all in
    let of_private : faults_view c.row_faults-private.result ≡ faults_in (private_row c.args.font.now) =
    c.row_faults-private.ensures ∙ ap faults_in c.private.ensures.all in
    λ n. c.with-6.ensures n
    ∙ rw (
      c.with-5.ensures n,
      c.with-4.ensures n,
      c.with-3.ensures n,
      c.with-2.ensures n,
      c.with.ensures n,
      c.empty.ensures n,
      c.has_high_byte.ensures ∙ ap has_high_byte c.clear_text-2.ensures,
      c.is_found-5.ensures ∙ ap (λ f. is_some f.unread) of_private,
      c.is_found.ensures ∙ ap (λ f. is_some f.unpaired) of_clear,
      c.is_found-2.ensures ∙ ap (λ f. is_some f.unpaired) of_private,
      c.is_found-3.ensures ∙ ap (λ f. is_some f.unknown) of_clear,
      c.is_found-4.ensures ∙ ap (λ f. is_some f.unknown) of_private,
      c.has_private_dictionary.ensures ∙ ap has_private c.private-2.ensures.all,
      c.begins_as_type1.ensures ∙ ap begins_as_type1 c.clear_text.ensures,
    ) refl
