use Rattle.std.proofs.Common.{◌≡◌, List, refl, ◌∙◌}
use Rattle.std.specs.Option.{option_map}
use Rattle.t1_font.specs.Rows.{RowToken, token_in_row}
use Rattle.t1_texts.specs.Given.{is_unknown}
use Rattle.t1_texts.specs.Private.Watching.{or_here, tokens_before}
use Rattle.t1_texts.specs.Readers.{is_unread}
use Rattle.t1_texts.specs.RowFaults.{Placed, faults_view, has_no_partner, placed_view}
use Rattle.t1_texts.proofs.Looking.{asked_once, more_faults, some_viewed, still_all_given}
use Rattle.t1_texts.proofs.faults.Watch.see.Goals as goal

pub returns : goal.returns
returns c =
    let before : List RowToken = tokens_before c.args.earlier in
    let token : RowToken = token_in_row c.args.token in
    let here : Placed = record { token = token; place = c.args.earlier.count } in
    let old = c.args.self.now.faults in
    let one : option_map placed_view c.note.new.found ≡ or_here (option_map placed_view old.unpaired) (has_no_partner before token) here =
    c.note.ensures ∙ rw c.is_unpaired.ensures refl in
    let two : option_map placed_view c.note-2.new.found ≡ or_here (option_map placed_view old.unknown) (is_unknown before token) here =
    c.note-2.ensures
    ∙ rw (c.is_unknown-is_unknown.ensures.is, c.is_some.ensures, some_viewed old.unknown)
    (asked_once (option_map placed_view old.unknown) (is_unknown before token) here) in
    let three : option_map placed_view c.note-3.new.found ≡ or_here (option_map placed_view old.unread) (is_unread before token) here =
    c.note-3.ensures
    ∙ rw (c.is_unread-is_unread.ensures.is, c.is_some-2.ensures, some_viewed old.unread)
    (asked_once (option_map placed_view old.unread) (is_unread before token) here) in
    record {
      faults = rw (one, two, three) (more_faults before token c.args.earlier.count (faults_view old) c.requires.place c.requires.watch.faults);
      given = still_all_given c.is_unknown-is_unknown.new.self.words.items before token c.is_unknown-is_unknown.ensures.stay;
      reader = c.pass.ensures before c.is_unread-is_unread.ensures.stay;
    }
