use Rattle.std.proofs.Common.{◌≡◌, ℕ, [], Option, None, Some, option_map, unwrap_or, codes, ap, refl, sym, ◌∙◌}
use Rattle.std.proofs.lemmas.Bool.{false≢true}
use Rattle.std.proofs.lemmas.Option.{none-some}
use Rattle.std.specs.Borrow.{Bor}
use Rattle.clap.proofs.WalkLemmas.{first_value-rows}
use Rattle.clap.specs.Words.{Text, found_of}
use Rattle.t1_run.specs.Words.{AreNumber}
use Rattle.t1draw.specs.CommandLine.{number_in}
use Rattle.t1draw.proofs.command_line.given_in.Goals as goal

-- the number that was read is the one that the text means
read : (text : Option Text) (number : Option ℕ) → AreNumber text number → number ≡ option_map number_in text
read None number is = is
read (Some text) None is = absurd (false≢true is.1)
read (Some text) (Some n) is = ap (λ (k : ℕ). Some k) is.0.1

-- a word that is there is the value
word_is : (found : Option (Bor Text)) (word : Bor Text) (value : Option Text) → option_map (λ s. s.now) found ≡ value → found ≡ Some word
    → word.now ≡ unwrap_or value []
word_is None word value same is = absurd (none-some word is)
word_is (Some found) word value same is = sym (ap (λ (o : Option (Bor Text)). unwrap_or (option_map (λ s. s.now) o) []) is) ∙ ap (λ (o : Option Text). unwrap_or o []) same

pub returns : goal.returns
returns c =
    let first = λ (id : Text). first_value-rows (found_of c.args.matches.now) id in
    let step = read _ _ c.number.ensures ∙ ap (option_map number_in) (c.get_str.ensures ∙ first (codes "step")) in
    let fault = read _ _ c.number-2.ensures ∙ ap (option_map number_in) (c.get_str-2.ensures ∙ first (codes "fault")) in
    let faulty = c.get_count.ensures.value in
    let folder = c.get_str-3.ensures ∙ first (codes "folder") in
    let word = word_is c.get_str-4.result c.unwrap.result _ (c.get_str-4.ensures ∙ first (codes "glyph")) c.unwrap.ensures in
    let font = c.get_str-5.ensures ∙ first (codes "font") in
    rw (step, fault, faulty, folder, word, font) refl
