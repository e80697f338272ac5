use Rattle.std.proofs.Common.{◌∙◌, sym}
use Rattle.t1_names.proofs.NamedLemmas.{stands_for_below, stands_for_itself}
use Rattle.t1_names.proofs.named.stand_for.Goals as goal

pub returns-then-is_folder : goal.returns-then-is_folder
returns-then-is_folder g c =
    stands_for_below g.F.FileSystem.asks.Leads g.F.FileSystem.asks.Lists c.args.files.now c.trim_word-trimmed.new.files c.args.word.now
    c.trim_word-trimmed.result.now (sym c.is_input.ensures ∙ c.if-is_input.false) c.trim_word-trimmed.ensures c.is_folder.new.self
    c.fonts_below.new.files c.fonts_below.result (rw c.if-is_folder.true at c.is_folder.ensures) c.fonts_below.ensures

pub returns-else-is_folder : goal.returns-else-is_folder
returns-else-is_folder g c =
    stands_for_itself g.F.FileSystem.asks.Leads g.F.FileSystem.asks.Lists c.args.files.now c.trim_word-trimmed.new.files c.args.word.now
    c.trim_word-trimmed.result.now (sym c.is_input.ensures ∙ c.if-is_input.false) c.trim_word-trimmed.ensures c.is_folder.new.self
    c.alone-else-is_folder.result (rw c.if-is_folder.false at c.is_folder.ensures) (rw c.file_name.ensures at c.alone-else-is_folder.ensures)
