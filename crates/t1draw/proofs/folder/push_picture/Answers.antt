use Rattle.std.proofs.Common.{ℕ, List, [], ◌∷◌, ◌++◌, ap, append-nil, string_bytes, sym, ◌∙◌}
use Rattle.t1draw.specs.Folders.{picture_name}
use Rattle.t1draw.proofs.folder.push_picture.Goals as goal

pub returns : goal.returns
returns c = (
  record { name = string_bytes c.in_ok-name.name; text = string_bytes c.in_ok-picture.picture } ∷ [],
  (
    (c.in_ok-name.ensures ∙ ap (picture_name c.args.glyph) c.glyph_name.ensures, c.in_ok-picture.ensures, tt),
    (rw (c.as_str.ensures.value, c.as_str-2.ensures.value) at c.in_ok-push_file.ensures)
        ∙ ap (λ (text : List ℕ). string_bytes c.args.text.now ++ text) (sym (append-nil _)),
  ),
)
