use Rattle.std.proofs.Common.{◌≡◌, ◌∷◌, Err, ap, arith, string_bytes, ◌∙◌}
use Rattle.std.proofs.lemmas.Grind.{common_steps}
use Rattle.toml.proofs.Views.{Entry}
use Rattle.toml.specs.View.{members_view, view}
use Rattle.t1_options.proofs.Judged.{passed_on}
use Rattle.t1_options.specs.Settings.Reading.{SettingsValue, nothing_in, settings_in, settings_value, then_others, with_entry}
use Rattle.t1_options.proofs.settings.reading.settings_of.Goals as goal

pub returns-in_err-add_entry-clause-wrong : goal.returns-in_err-add_entry-clause-wrong
returns-in_err-add_entry-clause-wrong c =
    let e : Entry = (c.in-Some.name.now, c.in-Some.value.now) in
    let iter : c.loop-name.name-iterator ≡ e ∷ c.next.new.self = grind (arith, common_steps) in
    let folder = c.args.folder.now in
    let settings = settings_value c.loop-name.settings in
    passed_on (λ told. with_entry folder settings c.as_str.result.now (view c.in-Some.value.now) ≡ Err told)
    (λ told. settings_in folder (nothing_in (string_bytes c.args.file)) (members_view c.args.table.now.entries) ≡ Err told)
    c.from_residual.result c.in_err-add_entry.field-0.0 c.from_residual.ensures.1 c.in_err-add_entry.ensures.wrong
    (λ told is. c.loop-name.invariant ∙ ap (λ es. settings_in folder settings (members_view es)) iter
    ∙ ap (then_others (λ (more : SettingsValue). settings_in folder more (members_view c.next.new.self))) (rw c.as_str.ensures.value at is))
