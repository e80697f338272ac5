use Rattle.std.proofs.Common.{[], append-nil, arith, map, string_bytes, sym, ◌∙◌}
use Rattle.std.proofs.lemmas.Grind.{common_steps}
use Rattle.t1_answer_all.proofs.Told.{handed_on}
use Rattle.t1_answer_all.proofs.WordLists.{list_added, list_unread}
use Rattle.t1_answer_all.proofs.words.all_words.Goals as goal
use Rattle.t1_answer_all.specs.Usage.{IsToldSo}
use Rattle.t1_answer_all.specs.Words.{CannotReadOne, given_words}
use Rattle.t1_answer_all.specs.Words.AreRead.{none}
use Rattle.t1_options.specs.Settings.Finding.{system_by}

pub loop-list-init : goal.loop-list-init
loop-list-init g c = record {
  texts = [];
  read = none c.args.system.now;
  words_are = c.in_ok-words.ensures.words ∙ sym (append-nil (given_words (map string_bytes c.args.paths.now)));
  undecoded_is = grind (arith, common_steps);
}

pub returns-in_err-text-clause-none : goal.returns-in_err-text-clause-none
returns-in_err-text-clause-none g c =
    let asks = g.F.FileSystem.asks in
    handed_on (IsToldSo (CannotReadOne (system_by asks c.args.system.now c.text_of.new.system) (map string_bytes c.args.lists.now)))
    c.from_residual-in_err-text.result c.in_err-text.field-0.0 c.from_residual-in_err-text.ensures.1
    (list_unread asks c.args.system.now c.loop-list.system c.text_of.new.system c.args.lists.now c.loop-list.list-index c.list-item.result
    c.loop-list-test.true c.list-item.is c.as_str.result.now c.as_str.ensures.value c.loop-list.invariant.texts c.loop-list.invariant.read
    c.in_err-text.field-0.0 c.in_err-text.ensures.none)

pub loop-list-preserved : goal.loop-list-preserved
loop-list-preserved g c =
    list_added g.F.FileSystem.asks c.args.system.now c.loop-list.system c.text_of.new.system (map string_bytes c.args.paths.now) c.args.lists.now
    c.loop-list.list-index c.list-item.result c.loop-list-test.true c.list-item.is c.as_str.result.now c.as_str.ensures.value c.in_ok-text.text
    c.as_slice.result.now c.as_slice.ensures.value c.loop-list.words c.add_list.new.words c.loop-list.invariant c.in_ok-text.ensures.text
    c.in_ok-add_list.ensures
