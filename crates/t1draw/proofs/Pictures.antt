-- Pictures that are appended one after another.
use Rattle.std.proofs.Common.{◌≡◌, ◌++◌, ℕ, List, [], ◌∷◌, ap, append-nil, append_assoc, refl, sym, ◌∙◌}
use Rattle.std.proofs.lemmas.Grind.{flat_map-append}
use Rattle.t1_char.specs.declared.edition.Edition.{Edition}
use Rattle.t1_font.specs.Fonts.{FontValue}
use Rattle.t1_report.specs.Faults.{FaultValue}
use Rattle.t1_report.specs.Waivers.{Waiver}
use Rattle.t1draw.specs.Draws.{AreFiles, ArePictures}
use Rattle.t1draw.specs.Folders.{FolderFile, faulty_glyphs, file_text, folder_text, index_file, index_name, index_text}
use Rattle.t1draw.specs.Private.Sheets.{AddsPictures, AreReported, edition_of, font_of, waivers_of}
use Rattle.t1draw.specs.declared.sheet.Sheet.{Sheet}

-- Pictures of more glyphs follow.
more_pictures : (font : FontValue) (edition : Edition) (waivers : List Waiver) (glyphs others : List ℕ) (files more : List FolderFile)
    → ArePictures font edition waivers glyphs files → ArePictures font edition waivers others more
    → ArePictures font edition waivers (glyphs ++ others) (files ++ more)
more_pictures font edition waivers [] others [] more are are' = are'
more_pictures font edition waivers [] others (file ∷ files) more are are' = absurd are
more_pictures font edition waivers (glyph ∷ glyphs) others [] more are are' = absurd are
more_pictures font edition waivers (glyph ∷ glyphs) others (file ∷ files) more (name, picture, rest) are' =
    (name, picture, more_pictures font edition waivers glyphs others files more rest are')

-- None are appended.
pub none_added : (sheet : Sheet) (text : List ℕ) → AddsPictures sheet [] text text
none_added sheet text = ([], (tt, sym (append-nil text)))

-- Some are appended, and then more.
pub both_added : (sheet : Sheet) (glyphs others old middle new : List ℕ) → AddsPictures sheet glyphs old middle → AddsPictures sheet others middle new
    → AddsPictures sheet (glyphs ++ others) old new
both_added sheet glyphs others old middle new (files, (are, is)) (more, (are', is')) = (
  files ++ more,
  (
    more_pictures (font_of sheet) (edition_of sheet) (waivers_of sheet) glyphs others files more are are',
    is' ∙ ap (λ (text : List ℕ). text ++ folder_text more) is ∙ append_assoc old (folder_text files) (folder_text more)
        ∙ ap (λ (text : List ℕ). old ++ text) (sym (flat_map-append file_text files more)),
  ),
)

-- After the pictures comes the index.
pub all_filed : (sheet : Sheet) (faults : List FaultValue) (start middle new index : List ℕ) → AreReported sheet faults → start ≡ []
    → AddsPictures sheet (faulty_glyphs (font_of sheet) faults) start middle → index ≡ index_text (font_of sheet) (waivers_of sheet) faults
    → new ≡ middle ++ file_text (record { name = index_name; text = index })
    → (files : List FolderFile) × (AreFiles (font_of sheet) (edition_of sheet) (waivers_of sheet) files × (new ≡ folder_text files))
all_filed sheet faults start middle new index reported empty (files, (are, is)) indexed is' =
    let last = index_file (font_of sheet) (waivers_of sheet) faults in (
      files ++ (last ∷ []),
      (
        record { faults = faults; reported = reported; pictures = files; are_pictures = are; are = refl },
        is' ∙ ap (λ (text : List ℕ). middle ++ file_text (record { name = index_name; text = text })) indexed
            ∙ ap (λ (text : List ℕ). text ++ file_text last) (is ∙ ap (λ (text : List ℕ). text ++ folder_text files) empty)
            ∙ ap (λ (text : List ℕ). folder_text files ++ text) (sym (append-nil (file_text last)))
            ∙ sym (flat_map-append file_text files (last ∷ [])),
      ),
    )
