use Rattle.std.proofs.Common.{◌≡◌, ◌<◌, ◌++◌, ◌∷◌, [], ℕ, List, length, string_bytes, append_assoc, ap, ◌∙◌, arith}
use Rattle.std.proofs.lemmas.List.{length-map, map-append}
use Rattle.t1_picture.specs.Drawings.{texts_of}
use Rattle.t1_picture.specs.Legends.{lines_or_none}
use Rattle.t1_picture.proofs.legend.add_faults.Goals as goal

heading : (text : List ℕ) (waived : ℕ) (line : List ℕ) (lines : List (List ℕ)) → 0 < length lines → line ≡ text
    → line ∷ lines ≡ lines_or_none text waived lines
heading text waived line [] some is = absurd (omega (arith, some))
heading text waived line (l ∷ ls) some is = ap (λ (x : List ℕ). x ∷ l ∷ ls) is

pub returns : goal.returns
returns c =
    let line = string_bytes c.in_ok-from_str-2.field-0 in
    let faults = texts_of c.args.faults.now.items in
    let some : 0 < length faults = omega (arith, c.if-len-eq0.false, c.len.ensures, length-map c.args.faults.now.items string_bytes) in
    ap texts_of c.in_ok-append.ensures.items
    ∙ map-append string_bytes c.add_line-2.new.lines.items c.args.faults.now.items
    ∙ ap (λ (ls : List (List ℕ)). ls ++ faults) c.in_ok-add_line.ensures
    ∙ append_assoc (texts_of c.args.lines.now.items) (line ∷ []) faults
    ∙ ap (λ (ls : List (List ℕ)). texts_of c.args.lines.now.items ++ ls) (heading c.args.heading.now c.args.waived line faults some c.in_ok-from_str-2.ensures.ok)
