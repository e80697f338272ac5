use Rattle.std.proofs.Common.{ap, arith, length, rules}
use lib.Utf8.{encode}
use Rattle.std.proofs.lemmas.List.{nil_from_length}
use Rattle.std.proofs.lemmas.Str.Pattern.{strip_suffix_char}
use Rattle.t1_names.proofs.WordLemmas.{at_back, at_front, no_end, no_folder, slash_alone}
use Rattle.t1_names.proofs.words.shortened.Goals as goal

pub returns-in-Some : goal.returns-in-Some
returns-in-Some g c =
    at_front g.F.FileSystem.asks.Leads c.args.files.now c.args.word.now c.in-Some.rest.now c.in-Some.ensures.0
    c.in-Some.ensures.1 c.in-Some.ensures.2 c.in-Some.ensures.3

pub returns-in_err-front : goal.returns-in_err-front
unfolding encode
returns-in_err-front g c =
    rw c.from_residual.ensures
    (no_end g.F.FileSystem.asks.Leads c.args.files.now c.args.word.now c.in_default.ensures c.in_err-front.ensures.cases)

pub returns-then-is_empty : goal.returns-then-is_empty
returns-then-is_empty g c =
    slash_alone g.F.FileSystem.asks.Leads c.args.files.now c.args.word.now c.in_ok-front.front.now c.in_default.ensures
    (rw c.in_ok-front.was at (strip_suffix_char 47 c.args.word.now c.strip_suffix.result c.strip_suffix.ensures.cases (omega arith)))
    (nil_from_length c.in_ok-front.front.now (search rules))

pub returns-then-is_folder : goal.returns-then-is_folder
returns-then-is_folder g c =
    at_back g.F.FileSystem.asks.Leads c.args.files.now c.is_folder.new.self c.args.word.now c.in_ok-front.front.now c.in_default.ensures
    (rw c.in_ok-front.was at (strip_suffix_char 47 c.args.word.now c.strip_suffix.result c.strip_suffix.ensures.cases (omega arith)))
    (λ none. grind (arith, ap length none)) (rw c.if-is_folder.true at c.is_folder.ensures)

pub returns-else-is_folder : goal.returns-else-is_folder
returns-else-is_folder g c =
    no_folder g.F.FileSystem.asks.Leads c.args.files.now c.is_folder.new.self c.args.word.now c.in_ok-front.front.now c.in_default.ensures
    (rw c.in_ok-front.was at (strip_suffix_char 47 c.args.word.now c.strip_suffix.result c.strip_suffix.ensures.cases (omega arith)))
    (λ none. grind (arith, ap length none)) (rw c.if-is_folder.false at c.is_folder.ensures)
