use Rattle.std.proofs.Common.{◌≡◌, ◌∙◌, Err, List, ap, false, option_map, refl, subst, sym, true}
use Rattle.std.specs.Option.{is_some}
use Rattle.t1_char.specs.declared.edition.Edition.{Edition}
use Rattle.t1_report.specs.WaiverViews.{IsReadAs}
use Rattle.t1_report.specs.Waivers.{Waiver, waivers_of}
use Rattle.t1_run.specs.Programs.{asks_waivers}
use Rattle.t1_run.proofs.RunLemmas.{unasked_ends, untold_ends, unwaived_ends, waived_ends}
use Rattle.t1_run.proofs.running.show_font.Goals as goal

pub returns-in_default-clause-ends : goal.returns-in_default-clause-ends
returns-in_default-clause-ends g c =
    let unasked : asks_waivers g.P.Program.meaning c.args.options.now ≡ false = ap is_some (sym c.waivers.ensures ∙ ap (option_map (λ s. s.now)) c.in_default.is) in
    unasked_ends g.P.Program.meaning c.args.options.now c.args.font.now _ _ _ unasked refl (rw c.none-nothing.ensures at c.show.ensures)

pub returns-in-Err-clause-ends : goal.returns-in-Err-clause-ends
returns-in-Err-clause-ends g c =
    let asked : asks_waivers g.P.Program.meaning c.args.options.now ≡ true = ap is_some (sym c.waivers.ensures ∙ ap (option_map (λ s. s.now)) c.in-Some.is) in
    untold_ends g.P.Program.meaning c.args.options.now c.args.font.now _ _ _ asked c.in-Err.failure c.in-Err.ensures.text refl
    (rw c.name.ensures at c.tell_failure.ensures)

pub returns-in-Ok-read-clause-ends : goal.returns-in-Ok-read-clause-ends
returns-in-Ok-read-clause-ends g c =
    let asked : asks_waivers g.P.Program.meaning c.args.options.now ≡ true = ap is_some (sym c.waivers.ensures ∙ ap (option_map (λ s. s.now)) c.in-Some.is) in
    waived_ends g.P.Program.meaning c.args.options.now c.args.font.now _ _ _ asked c.in-Ok.text.items c.in-Ok-read.waivers c.in-Ok.ensures.text
    (rw (c.as_slice.ensures.value, c.edition.ensures) at c.in-Ok-read.ensures) c.show-in-Ok-read.ensures

pub returns-clause-ends : goal.returns-clause-ends
returns-clause-ends g c =
    let asked : asks_waivers g.P.Program.meaning c.args.options.now ≡ true = ap is_some (sym c.waivers.ensures ∙ ap (option_map (λ s. s.now)) c.in-Some.is) in
    unwaived_ends g.P.Program.meaning c.args.options.now c.args.font.now _ _ _ asked (λ (w : List Waiver). w) c.in-Ok.text.items c.in-Err-read.error
    c.in-Ok.ensures.text
    (subst (λ (edition : Edition). IsReadAs (λ (w : List Waiver). w) (waivers_of edition c.in-Ok.text.items) (Err c.in-Err-read.error)) c.edition.ensures
    (subst (λ bytes. IsReadAs (λ (w : List Waiver). w) (waivers_of c.edition.result bytes) (Err c.in-Err-read.error)) c.as_slice.ensures.value
    c.in-Err-read.ensures)) refl
    (rw (c.name-in-Err-read.ensures, c.from.ensures) at c.tell_failure-in-Err-read.ensures)
